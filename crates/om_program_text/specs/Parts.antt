-- The parts in which lines are written.
use Rattle.std.specs.Prelude.{ℕ, List, [], ◌∷◌, ◌++◌, flat_map, decimal, codes}
use Rattle.om_model.specs.declared.model.Particle.{Particle}
use Rattle.om_model.specs.declared.model.Vertex.{Vertex}
use Rattle.om_code.specs.declared.code.Code.{Code}
use Rattle.om_code.specs.declared.code.Instr.{Instr}
use Rattle.om_model.specs.FieldNames.{field_name}
use Rattle.om_program_text.specs.Words.{product_word}
use Rattle.om_model.specs.Words.{spin_word, structure_word, colour_word}
use Rattle.om_io.specs.Writing.{all_of}
use Rattle.om_io.specs.Lines.{line_text, lines_text}
use Rattle.om_program_text.specs.ProgramText.{particle_words, vertex_words, leg_words, flow_words, den_words, instr_words, slots_lines}

-- a particle line up to its spin
abbrev pub names_text : Particle → List ℕ
names_text p = codes "particle " ++ p.name ++ codes " " ++ p.anti ++ codes " " ++ spin_word p.spin

abbrev pub particle_parts : Particle → List (List ℕ)
particle_parts p = names_text p ∷ (32 ∷ product_word p.mass) ∷ (32 ∷ product_word p.width) ∷ (32 ∷ product_word p.norm) ∷ (codes " " ++ colour_word p.colour ++ codes "\n") ∷ []

abbrev pub vertex_parts : List Particle → Vertex → List (List ℕ)
vertex_parts particles v =
    (codes "vertex " ++ structure_word v.structure ++ codes " " ++ decimal v.order)
    ∷ flat_map (λ f. 32 ∷ field_name particles f) v.fields
    ∷ codes " :"
    ∷ flat_map (λ p. 32 ∷ product_word p) v.factors
    ∷ codes "\n" ∷ []

-- the first two lines
abbrev pub head_text : Code → List ℕ
head_text c = codes "omega " ++ decimal c.version ++ codes "\nmodel " ++ c.model.name ++ codes "\n"

abbrev pub model_parts : Code → List (List ℕ)
model_parts c =
    flat_map (λ p. line_text (particle_words p)) c.model.particles
    ∷ flat_map (λ v. line_text (vertex_words c.model.particles v)) c.model.vertices ∷ []

abbrev pub process_parts : Code → List (List ℕ)
process_parts c =
    flat_map (λ f. line_text (leg_words c.model.particles f)) c.legs
    ∷ flat_map (λ w. line_text (flow_words w)) c.flows
    ∷ flat_map (λ d. line_text (den_words c.model.particles d)) c.dens ∷ []

-- all lines but those of the instructions and the last one
abbrev pub front_parts : Code → List (List ℕ)
front_parts c = head_text c ∷ all_of (model_parts c) ∷ all_of (process_parts c) ∷ lines_text (slots_lines c.version c.slots) ∷ []

-- the lines of the instructions and the last one
abbrev pub instr_parts : ℕ → List Instr → List (List ℕ)
instr_parts version instrs = flat_map (λ i. line_text (instr_words version i)) instrs ∷ codes "end\n" ∷ []
