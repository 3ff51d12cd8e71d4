-- The lines of a code have words, and these are visible.
use Rattle.std.proofs.Common.{◌≡◌, ℕ, ◌+◌, ◌-◌, ◌^◌, ◌<◌, ◌⊎◌, eqb, Bool, true, false, cond, List, [], ◌∷◌, length, map, codes, decimal, Result, Ok, refl, sym, ap, subst, ◌∙◌, arith, inl, inr}
use Rattle.std.specs.List.{AllByRecursion}
use Rattle.om_ring.specs.declared.numeral.Numeral.{Numeral}
use Rattle.om_colour.specs.declared.Flow.{Flow}
use Rattle.om_model.specs.declared.model.Particle.{Particle}
use Rattle.om_model.specs.declared.model.Vertex.{Vertex}
use Rattle.om_code.specs.declared.code.Den.{Den}
use Rattle.om_code.specs.declared.code.Instr.{Instr}
use Rattle.om_code.specs.declared.code.Instr.TheVariants.{Load, Fuse, Prop, Key}
use Rattle.om_code.specs.declared.code.Code.{Code}
use Rattle.om_code.specs.Plain.{IsPlain, IsPlainVertex, IsPlainFlow, IsPlainDen, IsPlainInstr, IsNamed, registers_named}
use Rattle.om_model.specs.FieldNames.{field_name}
use Rattle.om_asm.specs.declared.fault.AsmFault.{AsmFault}
use Rattle.om_ring.specs.Numerals.{NumeralFits}
use Rattle.om_asm.specs.InRange.{ParticleInRange, VertexInRange, InstrInRange, CodeInRange}
use Rattle.om_io.specs.Lines.{Words}
use Rattle.om_program_text.specs.ProgramText.{version_words, particle_words, vertex_words, leg_words, flow_words, den_words, instr_words, program_lines, program_text}
use Rattle.om_model.specs.TermText.{place_word}
use Rattle.om_program_text.specs.Words.{product_word}
use Rattle.om_asm.specs.Lines.{At, lines_of}
use Rattle.om_asm.specs.Rows.{BadLine, GivesNothing, place}
use Rattle.om_asm.specs.Program.{program_at}
use Rattle.om_asm.proofs.Visible.{IsVisible, decimal_visible}
use Rattle.om_asm.proofs.VisibleWords.{seen, name_visible, spin_visible, structure_visible, colour_visible, sign_visible, product_visible, set_visible, flow_visible, place_visible, places_visible}
use Rattle.om_asm.proofs.LineSplits.{IsLine, lines_again}
use Rattle.om_asm.proofs.LinesAgain.{means_field}
use Rattle.om_asm.proofs.ProgramAgain.{program_again}
use Rattle.om_asm.proofs.AllLines.{all_append, all_lines}

abbrev AreLines : List Words → Type 0
AreLines ls = AllByRecursion IsLine ls

field_visible : (ps : List Particle) (f : ℕ) → AllByRecursion ParticleInRange ps → IsNamed ps f → IsVisible (field_name ps f)
field_visible ps f h n = name_visible (field_name ps f) (means_field 0 ps (field_name ps f) f h n)

fields_visible : (ps : List Particle) (fs : List ℕ) → AllByRecursion ParticleInRange ps → AllByRecursion (IsNamed ps) fs → AllByRecursion IsVisible (map (field_name ps) fs)
fields_visible ps [] h n = tt
fields_visible ps (f ∷ fs) h n = (field_visible ps f h n.0, fields_visible ps fs h n.1)

products_visible : (xs : List (List Numeral)) → AllByRecursion (λ p. AllByRecursion NumeralFits p) xs → AllByRecursion IsVisible (map product_word xs)
products_visible [] h = tt
products_visible (x ∷ xs) h = (product_visible x h.0, products_visible xs h.1)

particle_line : (p : Particle) → ParticleInRange p → IsLine (particle_words p)
particle_line p h = (seen (codes "particle") refl, (name_visible p.name h.name, (name_visible p.anti h.anti, (spin_visible p.spin, (product_visible p.mass h.mass, (product_visible p.width h.width, (product_visible p.norm h.norm, (colour_visible p.colour, tt))))))))

vertex_line : (ps : List Particle) (v : Vertex) → AllByRecursion ParticleInRange ps → VertexInRange v → IsPlainVertex ps v → IsLine (vertex_words ps v)
vertex_line ps v h r p = (seen (codes "vertex") refl, (structure_visible v.structure, (decimal_visible v.order (omega (arith, r.order)), all_append IsVisible (map (field_name ps) v.fields) (codes ":" ∷ map product_word v.factors) (fields_visible ps v.fields h p.fields) (seen (codes ":") refl, products_visible v.factors r.factors))))

load_line : (version slot leg : ℕ) (b : Bool) → leg < 256 → cond b (slot + 1 ≡ leg) (slot < 2 ^ 32 - 1) → IsLine (codes "load" ∷ cond b (decimal leg ∷ []) (place_word slot ∷ decimal leg ∷ []))
load_line version slot leg true h s = (seen (codes "load") refl, (decimal_visible leg (omega arith), tt))
load_line version slot leg false h s = (seen (codes "load") refl, (place_visible slot (omega arith), (decimal_visible leg (omega arith), tt)))

instr_line : (version : ℕ) (i : Instr) → IsPlainInstr version i → InstrInRange i → IsLine (instr_words version i)
instr_line version (Load slot leg) p r = load_line version slot leg (eqb version 1) r p.1
instr_line version (Fuse slot minus vertex choice b) p r = (seen (codes "fuse") refl, (place_visible slot (omega (arith, p.to_place)), (sign_visible minus, (place_visible vertex (omega (arith, p.vertex_place)), (decimal_visible choice (omega (arith, r.0)), places_visible b.count b.nodes p.places)))))
instr_line version (Prop slot den) p r = (seen (codes "prop") refl, (place_visible slot (omega (arith, p.0)), (place_visible den (omega (arith, p.1)), tt)))
instr_line version (Key flow minus vertex choice b) p r = (seen (codes "key") refl, (place_visible flow (omega (arith, p.flow_place)), (sign_visible minus, (place_visible vertex (omega (arith, p.vertex_place)), (decimal_visible choice (omega (arith, r.0)), places_visible b.count b.nodes p.places)))))

-- ---- the groups

particles_lines : (ps : List Particle) → AllByRecursion ParticleInRange ps → AreLines (map particle_words ps)
particles_lines [] h = tt
particles_lines (x ∷ xs) h = (particle_line x h.0, particles_lines xs h.1)

vertices_lines : (ps : List Particle) (vs : List Vertex) → AllByRecursion ParticleInRange ps → AllByRecursion VertexInRange vs → AllByRecursion (IsPlainVertex ps) vs → AreLines (map (vertex_words ps) vs)
vertices_lines ps [] h r p = tt
vertices_lines ps (x ∷ xs) h r p = (vertex_line ps x h r.0 p.0, vertices_lines ps xs h r.1 p.1)

legs_lines : (ps : List Particle) (ls : List ℕ) → AllByRecursion ParticleInRange ps → AllByRecursion (IsNamed ps) ls → AreLines (map (leg_words ps) ls)
legs_lines ps [] h n = tt
legs_lines ps (x ∷ xs) h n = ((seen (codes "leg") refl, (field_visible ps x h n.0, tt)), legs_lines ps xs h n.1)

flows_lines : (fs : List Flow) → AllByRecursion (λ w. length w.ends ≡ 12) fs → AllByRecursion IsPlainFlow fs → AreLines (map flow_words fs)
flows_lines [] n h = tt
flows_lines (x ∷ xs) n h = ((seen (codes "flow") refl, (flow_visible x n.0 h.0, tt)), flows_lines xs n.1 h.1)

dens_lines : (ps : List Particle) (ds : List Den) → AllByRecursion ParticleInRange ps → AllByRecursion (IsPlainDen ps) ds → AreLines (map (den_words ps) ds)
dens_lines ps [] h p = tt
dens_lines ps (x ∷ xs) h p = ((seen (codes "den") refl, (set_visible x.legs, (field_visible ps x.field h p.0.field, tt))), dens_lines ps xs h p.1)

instrs_lines : (version : ℕ) (is : List Instr) → AllByRecursion (IsPlainInstr version) is → AllByRecursion InstrInRange is → AreLines (map (instr_words version) is)
instrs_lines version [] p r = tt
instrs_lines version (x ∷ xs) p r = (instr_line version x p.0 r.0, instrs_lines version xs p.1 r.1)

slot_line : (slots : ℕ) (is : List Instr) (b : Bool) → cond b (slots ≡ registers_named is) (slots < 2 ^ 32) → AreLines (cond b [] ((codes "slots" ∷ decimal slots ∷ []) ∷ []))
slot_line slots is true h = tt
slot_line slots is false h = ((seen (codes "slots") refl, (decimal_visible slots (omega arith), tt)), tt)

version_line : (v : ℕ) → (v ≡ 1) ⊎ (v ≡ 2) → IsLine (version_words v)
version_line v (inl e) = (seen (codes "omega") refl, (decimal_visible v (omega arith), tt))
version_line v (inr e) = (seen (codes "omega") refl, (decimal_visible v (omega arith), tt))

program_visible : (c : Code) → IsPlain c → CodeInRange c → AreLines (program_lines c)
program_visible c p r =
    let ps = c.model.particles in
    all_lines IsLine c (record {
      head = (version_line c.version p.version, ((seen (codes "model") refl, (name_visible c.model.name r.name, tt)), particles_lines ps r.particles));
      vertices = vertices_lines ps c.model.vertices r.particles r.vertices p.vertices;
      legs = legs_lines ps c.legs r.particles p.legs;
      flows = flows_lines c.flows r.flows p.flows;
      dens = dens_lines ps c.dens r.particles p.dens;
      slots = slot_line c.slots c.instrs (eqb c.version 1) p.slots;
      instrs = instrs_lines c.version c.instrs p.instrs r.instrs;
      last = (seen (codes "end") refl, tt);
    })

-- the text of a plain code is read as the code
pub code_again : (c : Code) → IsPlain c → CodeInRange c → program_at (place 1 (lines_of (program_text c))) ≡ Ok c
code_again c p r = ap (λ ls. program_at (place 1 ls)) (lines_again (program_lines c) (program_visible c p r)) ∙ program_again c p r

pub code_only : (text : List ℕ) (a : At) (result : Result Code AsmFault) → a ≡ place 1 (lines_of text) → GivesNothing (program_at a) result → (c : Code) → IsPlain c → CodeInRange c → text ≡ program_text c → GivesNothing (Ok c) result
code_only text a result same g c p r e =
    let read : program_at a ≡ Ok c = ap program_at (same ∙ ap (λ t. place 1 (lines_of t)) e) ∙ code_again c p r in
    subst (λ (said : Result Code BadLine). GivesNothing said result) read g

abbrev good : Code → Result Code BadLine
good c = Ok c

same_code : (c d : Code) → good c ≡ good d → c ≡ d
same_code c d e = cc

pub one_code : (c d : Code) → IsPlain c → CodeInRange c → IsPlain d → CodeInRange d → program_text c ≡ program_text d → c ≡ d
one_code c d p r q s e = same_code c d (sym (code_again c p r) ∙ ap (λ t. program_at (place 1 (lines_of t))) e ∙ code_again d q s)
