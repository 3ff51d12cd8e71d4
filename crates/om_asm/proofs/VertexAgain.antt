-- The lines of vertices are read again.
use Rattle.std.proofs.Common.{◌≡◌, ℕ, ◌<◌, ◌≤◌, List, [], ◌∷◌, ◌++◌, length, map, codes, decimal, Option, Some, None, Result, Ok, Err, cond, refl, ap, ◌∙◌, arith}
use Rattle.std.specs.List.{AllByRecursion}
use Rattle.std.proofs.lemmas.List.{length-map}
use Rattle.om_ring.specs.declared.numeral.Numeral.{Numeral}
use Rattle.om_lorentz.specs.declared.structures.Structure.{Structure}
use Rattle.om_model.specs.Words.{structure_of_word}
use Rattle.om_model.specs.FieldNames.{field_named}
use Rattle.om_model.specs.declared.model.Particle.{Particle}
use Rattle.om_model.specs.declared.model.Vertex.{Vertex}
use Rattle.om_code.specs.Plain.{IsNamed, IsPlainVertex}
use Rattle.om_model.specs.FieldNames.{field_name}
use Rattle.om_asm.specs.declared.fault.AsmKind.{AsmKind}
use Rattle.om_asm.specs.declared.fault.AsmKind.TheVariants.{Grammar, Name}
use Rattle.om_io.specs.Lines.{Words}
use Rattle.om_program_text.specs.Words.{product_word}
use Rattle.om_model.specs.Words.{structure_word}
use Rattle.om_asm.specs.Lines.{word_by}
use Rattle.om_ring.specs.Spelt.{decimal_below}
use Rattle.om_asm.specs.Rows.{formed}
use Rattle.om_ring.specs.ResultSteps.{◌>>=◌}
use Rattle.om_asm.specs.VertexSlots.{slot_of, fourth_slot, factors_of}
use Rattle.om_asm.specs.Vertices.{known_fields, vertex_row}
use Rattle.om_asm.proofs.WordLaws.{number_law}
use Rattle.om_asm.specs.FirstBad.{IsName, IsReadableProduct}
use Rattle.om_asm.proofs.ModelWordsAgain.{structure_again}
use Rattle.om_asm.specs.InRange.{ParticleInRange, VertexInRange}
use Rattle.om_asm.proofs.LinesAgain.{say, means_field}
use Rattle.om_asm.proofs.SlotsAgain.{no_fourth_again, fourth_said, factors_again}
use Rattle.om_model.specs.Rules.{HasLength}
use Rattle.om_ring.specs.Numerals.{NumeralFits}

abbrev a_vertex : Structure → List ℕ → List (List Numeral) → ℕ → Result Vertex AsmKind
a_vertex s fields factors o = Ok (record { structure = s; fields = fields; factors = factors; order = o })

abbrev from_factors : Structure → ℕ → Option ℕ → Option ℕ → Option ℕ → Option (Option ℕ) → Words → Result Vertex AsmKind
from_factors s o a b c d words = formed (factors_of words) >>= λ factors. known_fields a b c d >>= λ fields. a_vertex s fields factors o

abbrev from_fourth : List Particle → Structure → ℕ → Option ℕ → Option ℕ → Option ℕ → Words → Result Vertex AsmKind
from_fourth ps s o a b c words = formed (fourth_slot ps words) >>= λ d. from_factors s o a b c d.0 d.1

abbrev from_third : List Particle → Structure → ℕ → Option ℕ → Option ℕ → Words → Result Vertex AsmKind
from_third ps s o a b words = formed (word_by (slot_of ps) words) >>= λ c. from_fourth ps s o a b c.0 c.1

abbrev from_second : List Particle → Structure → ℕ → Option ℕ → Words → Result Vertex AsmKind
from_second ps s o a words = formed (word_by (slot_of ps) words) >>= λ b. from_third ps s o a b.0 b.1

abbrev from_first : List Particle → Structure → ℕ → Words → Result Vertex AsmKind
from_first ps s o words = formed (word_by (slot_of ps) words) >>= λ a. from_second ps s o a.0 a.1

-- a name is read as the field that it means, if any
slot_said : (ps : List Particle) (w : List ℕ) → IsName w → slot_of ps w ≡ Some (field_named ps w)
slot_said ps w n = ap (λ b. cond b (Some (field_named ps w)) None) n

three_said : (ps : List Particle) (s : Structure) (o : ℕ) (a b c : List ℕ) (rest : Words) → IsName a → IsName b → IsName c
    → from_first ps s o (a ∷ b ∷ c ∷ rest) ≡ from_fourth ps s o (field_named ps a) (field_named ps b) (field_named ps c) rest
three_said ps s o a b c rest x y z =
    say (slot_of ps) a (field_named ps a) (b ∷ c ∷ rest) (λ a. from_second ps s o a.0 a.1) (slot_said ps a x)
    ∙ say (slot_of ps) b (field_named ps b) (c ∷ rest) (λ b. from_third ps s o (field_named ps a) b.0 b.1) (slot_said ps b y)
    ∙ say (slot_of ps) c (field_named ps c) rest (λ c. from_fourth ps s o (field_named ps a) (field_named ps b) c.0 c.1) (slot_said ps c z)

the_factors : (s : Structure) (o : ℕ) (a b c : Option ℕ) (d : Option (Option ℕ)) (fs : List (List Numeral)) → AllByRecursion IsReadableProduct fs → 1 ≤ length fs → length fs ≤ 3
    → from_factors s o a b c d (map product_word fs) ≡ (known_fields a b c d >>= λ fields. a_vertex s fields fs o)
the_factors s o a b c d fs h some few = ap (λ r. formed r >>= λ factors. known_fields a b c d >>= λ fields. a_vertex s fields factors o) (factors_again fs h some few)

-- what a vertex line with three or four names says
abbrev pub said_names : List Particle → Structure → ℕ → List (List Numeral) → Words → Result Vertex AsmKind
said_names ps s o fs (a ∷ b ∷ c ∷ []) = known_fields (field_named ps a) (field_named ps b) (field_named ps c) None >>= λ fields. a_vertex s fields fs o
said_names ps s o fs (a ∷ b ∷ c ∷ d ∷ []) = known_fields (field_named ps a) (field_named ps b) (field_named ps c) (Some (field_named ps d)) >>= λ fields. a_vertex s fields fs o
said_names ps s o fs _ = Err Grammar

slots_said : (ps : List Particle) (s : Structure) (o : ℕ) (names : Words) (fs : List (List Numeral)) → AllByRecursion IsName names → 3 ≤ length names → length names ≤ 4 → AllByRecursion IsReadableProduct fs → 1 ≤ length fs → length fs ≤ 3
    → from_first ps s o (names ++ codes ":" ∷ map product_word fs) ≡ said_names ps s o fs names
slots_said ps s o [] fs n least most p some few = absurd (omega arith)
slots_said ps s o (a ∷ []) fs n least most p some few = absurd (omega arith)
slots_said ps s o (a ∷ b ∷ []) fs n least most p some few = absurd (omega arith)
slots_said ps s o (a ∷ b ∷ c ∷ []) fs n least most p some few =
    three_said ps s o a b c (codes ":" ∷ map product_word fs) n.0 n.1.0 n.1.1.0
    ∙ ap (λ r. formed r >>= λ d. from_factors s o (field_named ps a) (field_named ps b) (field_named ps c) d.0 d.1) (no_fourth_again ps (map product_word fs))
    ∙ the_factors s o (field_named ps a) (field_named ps b) (field_named ps c) None fs p some few
slots_said ps s o (a ∷ b ∷ c ∷ d ∷ []) fs n least most p some few =
    three_said ps s o a b c (d ∷ codes ":" ∷ map product_word fs) n.0 n.1.0 n.1.1.0
    ∙ ap (λ r. formed r >>= λ d. from_factors s o (field_named ps a) (field_named ps b) (field_named ps c) d.0 d.1) (fourth_said ps d (map product_word fs) n.1.1.1.0)
    ∙ the_factors s o (field_named ps a) (field_named ps b) (field_named ps c) (Some (field_named ps d)) fs p some few
slots_said ps s o (a ∷ b ∷ c ∷ d ∷ e ∷ es) fs n least most p some few = absurd (omega arith)

-- a vertex line in the right form is read up to the names
pub vertex_said : (ps : List Particle) (s : Structure) (o : ℕ) (names : Words) (fs : List (List Numeral)) → o < 256 → AllByRecursion IsName names → 3 ≤ length names → length names ≤ 4 → AllByRecursion IsReadableProduct fs → 1 ≤ length fs → length fs ≤ 3
    → vertex_row ps (structure_word s ∷ decimal o ∷ (names ++ codes ":" ∷ map product_word fs)) ≡ said_names ps s o fs names
unfolding vertex_row
vertex_said ps s o names fs small n least most p some few =
    let slots = names ++ codes ":" ∷ map product_word fs in
    say structure_of_word (structure_word s) s (decimal o ∷ slots) (λ s. formed (word_by (decimal_below 256) s.1) >>= λ o. from_first ps s.0 o.0 o.1) (structure_again s)
    ∙ say (decimal_below 256) (decimal o) o slots (λ o. from_first ps s o.0 o.1) ((number_law 256 (omega arith)).again o small)
    ∙ slots_said ps s o names fs n least most p some few

known_kind : (s : Structure) (o : ℕ) (fs : List (List Numeral)) (a b c : Option ℕ) (d : Option (Option ℕ)) (k : AsmKind) → (known_fields a b c d >>= λ fields. a_vertex s fields fs o) ≡ Err k → k ≡ Name
unfolding known_fields
known_kind s o fs (Some a) (Some b) (Some c) None k e = absurd cc
known_kind s o fs (Some a) (Some b) (Some c) (Some (Some d)) k e = absurd cc
known_kind s o fs (Some a) (Some b) (Some c) (Some None) k e = cc
known_kind s o fs (Some a) (Some b) None d k e = cc
known_kind s o fs (Some a) None c d k e = cc
known_kind s o fs None b c d k e = cc

-- what is wrong then is a name
pub said_kind : (ps : List Particle) (s : Structure) (o : ℕ) (fs : List (List Numeral)) (names : Words) (k : AsmKind) → said_names ps s o fs names ≡ Err k → 3 ≤ length names → length names ≤ 4 → k ≡ Name
said_kind ps s o fs [] k e least most = absurd (omega arith)
said_kind ps s o fs (a ∷ []) k e least most = absurd (omega arith)
said_kind ps s o fs (a ∷ b ∷ []) k e least most = absurd (omega arith)
said_kind ps s o fs (a ∷ b ∷ c ∷ []) k e least most = known_kind s o fs (field_named ps a) (field_named ps b) (field_named ps c) None k e
said_kind ps s o fs (a ∷ b ∷ c ∷ d ∷ []) k e least most = known_kind s o fs (field_named ps a) (field_named ps b) (field_named ps c) (Some (field_named ps d)) k e
said_kind ps s o fs (a ∷ b ∷ c ∷ d ∷ e ∷ es) k f least most = absurd (omega arith)

-- ---- names that are known

all_known : (ps : List Particle) (s : Structure) (o : ℕ) (fs : List (List Numeral)) (fields : List ℕ) → AllByRecursion (IsNamed ps) fields → 3 ≤ length fields → length fields ≤ 4 → said_names ps s o fs (map (field_name ps) fields) ≡ a_vertex s fields fs o
unfolding known_fields
all_known ps s o fs [] n least most = absurd (omega arith)
all_known ps s o fs (a ∷ []) n least most = absurd (omega arith)
all_known ps s o fs (a ∷ b ∷ []) n least most = absurd (omega arith)
all_known ps s o fs (a ∷ b ∷ c ∷ []) n least most = rw (n.0, n.1.0, n.1.1.0) refl
all_known ps s o fs (a ∷ b ∷ c ∷ d ∷ []) n least most = rw (n.0, n.1.0, n.1.1.0, n.1.1.1.0) refl
all_known ps s o fs (a ∷ b ∷ c ∷ d ∷ e ∷ es) n least most = absurd (omega arith)

are_names : (ps : List Particle) (fields : List ℕ) → AllByRecursion ParticleInRange ps → AllByRecursion (IsNamed ps) fields → AllByRecursion IsName (map (field_name ps) fields)
are_names ps [] h n = tt
are_names ps (f ∷ fs) h n = (means_field 0 ps (field_name ps f) f h n.0, are_names ps fs h n.1)

both : (fs : List (List Numeral)) → AllByRecursion HasLength fs → AllByRecursion (λ p. AllByRecursion NumeralFits p) fs → AllByRecursion IsReadableProduct fs
both [] p f = tt
both (x ∷ xs) p f = ((p.0, f.0), both xs p.1 f.1)

pub vertex_again : (ps : List Particle) (v : Vertex) → AllByRecursion ParticleInRange ps → VertexInRange v → IsPlainVertex ps v
    → vertex_row ps (structure_word v.structure ∷ decimal v.order ∷ (map (field_name ps) v.fields ++ codes ":" ∷ map product_word v.factors)) ≡ Ok v
vertex_again ps v h r p =
    let count : length (map (field_name ps) v.fields) ≡ length v.fields = length-map v.fields (field_name ps) in
    vertex_said ps v.structure v.order (map (field_name ps) v.fields) v.factors r.order (are_names ps v.fields h p.fields) (omega (arith, p.three)) (omega (arith, p.four)) (both v.factors p.products r.factors) p.factor p.factors
    ∙ all_known ps v.structure v.order v.factors v.fields p.fields p.three p.four
