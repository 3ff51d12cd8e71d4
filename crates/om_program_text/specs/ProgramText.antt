-- The text of a code: its lines, each of them words with single spaces between.
use Rattle.std.specs.Prelude.{ℕ, ◌==◌, cond, List, [], ◌∷◌, ◌++◌, map, decimal, codes}
use Rattle.om_colour.specs.declared.Flow.{Flow}
use Rattle.om_colour.specs.Texts.{flow_bytes}
use Rattle.om_model.specs.declared.model.Particle.{Particle}
use Rattle.om_model.specs.declared.model.Vertex.{Vertex}
use Rattle.om_code.specs.declared.code.Den.{Den}
use Rattle.om_code.specs.declared.code.Instr.{Instr}
use Rattle.om_code.specs.declared.code.Instr.TheVariants.{Load, Fuse, Prop, Key}
use Rattle.om_code.specs.declared.code.Code.{Code}
use Rattle.om_model.specs.FieldNames.{field_name}
use Rattle.om_io.specs.Lines.{Words, lines_text}
use Rattle.om_model.specs.TermText.{place_word, term_words}
use Rattle.om_program_text.specs.Words.{product_word}
use Rattle.om_model.specs.Words.{spin_word, structure_word, colour_word}
use Rattle.om_model.specs.LegSetText.{leg_set_word}

abbrev pub version_words : ℕ → Words
version_words version = codes "omega" ∷ decimal version ∷ []

abbrev pub model_words : List ℕ → Words
model_words name = codes "model" ∷ name ∷ []

abbrev pub particle_words : Particle → Words
particle_words p = codes "particle" ∷ p.name ∷ p.anti ∷ spin_word p.spin ∷ product_word p.mass ∷ product_word p.width ∷ product_word p.norm ∷ colour_word p.colour ∷ []

abbrev pub vertex_words : List Particle → Vertex → Words
vertex_words particles v = codes "vertex" ∷ structure_word v.structure ∷ decimal v.order ∷ map (field_name particles) v.fields ++ codes ":" ∷ map product_word v.factors

abbrev pub leg_words : List Particle → ℕ → Words
leg_words particles f = codes "leg" ∷ field_name particles f ∷ []

abbrev pub flow_words : Flow → Words
flow_words w = codes "flow" ∷ flow_bytes w ∷ []

abbrev pub den_words : List Particle → Den → Words
den_words particles d = codes "den" ∷ leg_set_word d.legs ∷ field_name particles d.field ∷ []

-- version 1 has no such line
abbrev pub slots_lines : ℕ → ℕ → List Words
slots_lines version slots = cond (version == 1) [] ((codes "slots" ∷ decimal slots ∷ []) ∷ [])

-- a load names its slot in version 2 alone
abbrev pub load_words : ℕ → ℕ → ℕ → Words
load_words version to leg = codes "load" ∷ cond (version == 1) (decimal leg ∷ []) (place_word to ∷ decimal leg ∷ [])

abbrev pub instr_words : ℕ → Instr → Words
instr_words version (Load to leg) = load_words version to leg
instr_words version (Fuse to minus vertex choice branches) = codes "fuse" ∷ term_words to minus vertex choice branches
instr_words version (Prop of den) = codes "prop" ∷ place_word of ∷ place_word den ∷ []
instr_words version (Key flow minus vertex choice branches) = codes "key" ∷ term_words flow minus vertex choice branches

abbrev pub end_words : Words
end_words = codes "end" ∷ []

-- the lines of a code, group by group
abbrev pub program_lines : Code → List Words
program_lines c =
    let particles = c.model.particles in
    version_words c.version ∷ model_words c.model.name
    ∷ map particle_words particles
    ++ map (vertex_words particles) c.model.vertices
    ++ map (leg_words particles) c.legs
    ++ map flow_words c.flows
    ++ map (den_words particles) c.dens
    ++ slots_lines c.version c.slots
    ++ map (instr_words c.version) c.instrs
    ++ end_words ∷ []

-- the one spelling of a code
abbrev pub program_text : Code → List ℕ
program_text c = lines_text (program_lines c)
