-- The lines of vertices: what is read is what stands there.
use Rattle.std.proofs.Common.{◌≡◌, ℕ, ◌<◌, List, [], ◌∷◌, ◌++◌, map, codes, decimal, Option, Result, Ok, refl, sym, ap, subst, ◌∙◌, arith}
use Rattle.om_ring.specs.declared.numeral.Numeral.{Numeral}
use Rattle.om_lorentz.specs.declared.structures.Structure.{Structure}
use Rattle.om_model.specs.Words.{structure_of_word}
use Rattle.om_model.specs.declared.model.Particle.{Particle}
use Rattle.om_model.specs.declared.model.Vertex.{Vertex}
use Rattle.om_code.specs.Plain.{IsPlainVertex}
use Rattle.om_model.specs.FieldNames.{field_name}
use Rattle.om_asm.specs.declared.fault.AsmKind.{AsmKind}
use Rattle.om_io.specs.Lines.{Words}
use Rattle.om_program_text.specs.ProgramText.{vertex_words}
use Rattle.om_program_text.specs.Words.{product_word}
use Rattle.om_model.specs.Words.{structure_word}
use Rattle.om_asm.specs.Lines.{word_by}
use Rattle.om_ring.specs.Spelt.{decimal_below}
use Rattle.om_asm.specs.Rows.{formed}
use Rattle.om_ring.specs.ResultSteps.{◌>>=◌}
use Rattle.om_asm.specs.VertexSlots.{slot_of, fourth_slot, factors_of}
use Rattle.om_asm.specs.Vertices.{known_fields, vertex_row}
use Rattle.om_asm.proofs.WordLaws.{number_law}
use Rattle.om_asm.proofs.RowLaws.{bind_ok, formed_ok}
use Rattle.std.specs.List.{AllByRecursion}
use Rattle.om_ring.specs.Numerals.{NumeralFits}
use Rattle.om_asm.specs.InRange.{VertexInRange}
use Rattle.om_asm.specs.FirstBad.{IsReadableProduct}
use Rattle.om_asm.proofs.ModelWords.{structure_spells}
use Rattle.om_asm.proofs.ModelLaws.{said, some_slot, ok_same, SlotWord}
use Rattle.om_asm.proofs.SlotLaws.{fourth_found, factors_found, fields_found, AreFields, AreFactors}
use Rattle.om_model.specs.Rules.{HasLength}

abbrev a_vertex : Structure → List ℕ → List (List Numeral) → ℕ → Vertex
a_vertex structure fields factors order = record { structure = structure; fields = fields; factors = factors; order = order }

abbrev pub from_fields : Structure → ℕ → Option ℕ → Option ℕ → Option ℕ → Option (Option ℕ) → List (List Numeral) → Result Vertex AsmKind
from_fields s o a b c d factors = known_fields a b c d >>= λ fields. Ok (a_vertex s fields factors o)

abbrev pub from_fourth : List Particle → Structure → ℕ → Option ℕ → Option ℕ → Option ℕ → Words → Result Vertex AsmKind
from_fourth ps s o a b c words = formed (fourth_slot ps words) >>= λ d. formed (factors_of d.1) >>= λ factors. from_fields s o a b c d.0 factors

abbrev pub from_third : List Particle → Structure → ℕ → Option ℕ → Option ℕ → Words → Result Vertex AsmKind
from_third ps s o a b words = formed (word_by (slot_of ps) words) >>= λ c. from_fourth ps s o a b c.0 c.1

abbrev pub from_second : List Particle → Structure → ℕ → Option ℕ → Words → Result Vertex AsmKind
from_second ps s o a words = formed (word_by (slot_of ps) words) >>= λ b. from_third ps s o a b.0 b.1

abbrev pub from_first : List Particle → Structure → ℕ → Words → Result Vertex AsmKind
from_first ps s o words = formed (word_by (slot_of ps) words) >>= λ a. from_second ps s o a.0 a.1

record SlotsRead (ps : List Particle) (s : Structure) (o : ℕ) (words : Words) (v : Vertex) : Type 0 where
  vertex : v ≡ a_vertex s v.fields v.factors o
  texts : words ≡ map (field_name ps) v.fields ++ codes ":" ∷ map product_word v.factors
  plain : IsPlainVertex ps v
  factors : AllByRecursion (λ p. AllByRecursion NumeralFits p) v.factors

products_plain : (ps : List (List Numeral)) → AllByRecursion IsReadableProduct ps → AllByRecursion HasLength ps
products_plain [] h = tt
products_plain (p ∷ ps) h = (h.0.0, products_plain ps h.1)

products_fit : (ps : List (List Numeral)) → AllByRecursion IsReadableProduct ps → AllByRecursion (λ p. AllByRecursion NumeralFits p) ps
products_fit [] h = tt
products_fit (p ∷ ps) h = (h.0.1, products_fit ps h.1)

by_slots : (ps : List Particle) (s : Structure) (o : ℕ) (words rest : Words) (fields : List ℕ) (factors : List (List Numeral)) (v : Vertex) → a_vertex s fields factors o ≡ v → AreFields ps words fields rest → AreFactors rest factors → SlotsRead ps s o words v
by_slots ps s o words rest fields factors v same f g =
    subst (λ (z : Vertex). SlotsRead ps s o words z) same
    (record {
      vertex = refl;
      texts = f.texts ∙ ap (λ (ws : Words). map (field_name ps) fields ++ codes ":" ∷ ws) (sym g.texts);
      plain = record { three = f.least; four = f.most; fields = f.named; factor = g.some; factors = g.few; products = products_plain factors g.products };
      factors = products_fit factors g.products;
    })

fourth_read : (ps : List Particle) (s : Structure) (o : ℕ) (wa wb wc : List ℕ) (a b c : Option ℕ) (words : Words) (v : Vertex) → SlotWord ps wa a → SlotWord ps wb b → SlotWord ps wc c → from_fourth ps s o a b c words ≡ Ok v → SlotsRead ps s o (wa ∷ wb ∷ wc ∷ words) v
fourth_read ps s o wa wb wc a b c words v sa sb sc e =
    let d = bind_ok (formed (fourth_slot ps words)) (λ d. formed (factors_of d.1) >>= λ factors. from_fields s o a b c d.0 factors) v e in
    let f = bind_ok (formed (factors_of d.0.1)) (λ factors. from_fields s o a b c d.0.0 factors) v d.2 in
    let k = bind_ok (known_fields a b c d.0.0) (λ fields. Ok (a_vertex s fields f.0 o)) v f.2 in
    by_slots ps s o (wa ∷ wb ∷ wc ∷ words) d.0.1 k.0 f.0 v (ok_same (a_vertex s k.0 f.0 o) v k.2)
    (fields_found ps wa wb wc words d.0.1 a b c d.0.0 k.0 sa sb sc (fourth_found ps words d.0 (formed_ok (fourth_slot ps words) d.0 d.1)) k.1)
    (factors_found d.0.1 f.0 (formed_ok (factors_of d.0.1) f.0 f.1))

same_words : (ps : List Particle) (s : Structure) (o : ℕ) (words : Words) (wa wb wc : List ℕ) (rest0 rest1 rest2 : Words) (v : Vertex) → words ≡ wa ∷ rest0 → rest0 ≡ wb ∷ rest1 → rest1 ≡ wc ∷ rest2 → SlotsRead ps s o (wa ∷ wb ∷ wc ∷ rest2) v → SlotsRead ps s o words v
same_words ps s o words wa wb wc rest0 rest1 rest2 v e f g h =
    let whole : words ≡ wa ∷ wb ∷ wc ∷ rest2 = e ∙ ap (λ (ws : Words). wa ∷ ws) (f ∙ ap (λ (ws : Words). wb ∷ ws) g) in
    subst (λ (ws : Words). SlotsRead ps s o ws v) (sym whole) h

slots_read : (ps : List Particle) (s : Structure) (o : ℕ) (words : Words) (v : Vertex) → from_first ps s o words ≡ Ok v → SlotsRead ps s o words v
slots_read ps s o words v e =
    let a = some_slot ps words (λ a. from_second ps s o a.0 a.1) v e in
    let b = some_slot ps a.1 (λ b. from_third ps s o a.0 b.0 b.1) v a.5 in
    let c = some_slot ps b.1 (λ c. from_fourth ps s o a.0 b.0 c.0 c.1) v b.5 in
    same_words ps s o words a.2 b.2 c.2 a.1 b.1 c.1 v a.3 b.3 c.3 (fourth_read ps s o a.2 b.2 c.2 a.0 b.0 c.0 c.1 v a.4 b.4 c.4 c.5)

by_head : (ps : List Particle) (s : Structure) (o : ℕ) (v : Vertex) (words rest0 rest1 : Words) → o < 256 → words ≡ structure_word s ∷ rest0 → rest0 ≡ decimal o ∷ rest1 → SlotsRead ps s o rest1 v → (codes "vertex" ∷ words ≡ vertex_words ps v) × IsPlainVertex ps v × VertexInRange v
by_head ps s o v words rest0 rest1 small e f h =
    let line : words ≡ structure_word s ∷ decimal o ∷ (map (field_name ps) v.fields ++ codes ":" ∷ map product_word v.factors) = e ∙ ap (λ (ws : Words). structure_word s ∷ ws) (f ∙ ap (λ (ws : Words). decimal o ∷ ws) h.texts) in
    let named : vertex_words ps (a_vertex s v.fields v.factors o) ≡ vertex_words ps v = ap (vertex_words ps) (sym h.vertex) in
    let order : o ≡ v.order = sym (ap (λ (z : Vertex). z.order) h.vertex) in
    (ap (λ (ws : Words). codes "vertex" ∷ ws) line ∙ named, h.plain, record { order = omega arith; factors = h.factors })

pub vertex_found : (ps : List Particle) (words : Words) (v : Vertex) → vertex_row ps words ≡ Ok v → (codes "vertex" ∷ words ≡ vertex_words ps v) × IsPlainVertex ps v × VertexInRange v
unfolding vertex_row
vertex_found ps words v e =
    let s = said structure_of_word structure_word (λ _. Unit {0}) structure_spells words (λ s. formed (word_by (decimal_below 256) s.1) >>= λ o. from_first ps s.0 o.0 o.1) v e in
    let o = said (decimal_below 256) decimal (λ n. n < 256) (number_law 256 (omega arith)).found s.1 (λ o. from_first ps s.0 o.0 o.1) v s.4 in
    by_head ps s.0 o.0 v words s.1 o.1 o.3 s.2 o.2 (slots_read ps s.0 o.0 o.1 v o.4)
