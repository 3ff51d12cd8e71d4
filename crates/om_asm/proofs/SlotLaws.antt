-- The words of the slots and factors of a vertex: what is read is what stands there.
use Rattle.std.proofs.Common.{◌≡◌, ℕ, ◌≤◌, eqb, Bool, true, false, cond, List, [], ◌∷◌, ◌++◌, length, map, codes, Option, Some, None, Ok, refl, sym, ap, ap₂, subst, ◌∙◌, arith, inl, inr}
use Rattle.std.specs.List.{AllByRecursion}
use Rattle.std.specs.Str.{bytes_eq}
use Rattle.std.proofs.lemmas.Bool.Decides.{nat_tests}
use Rattle.om_ring.specs.declared.numeral.Numeral.{Numeral}
use Rattle.om_model.specs.declared.model.Particle.{Particle}
use Rattle.om_code.specs.Plain.{IsNamed}
use Rattle.om_model.specs.FieldNames.{field_name}
use Rattle.om_io.specs.Lines.{Words}
use Rattle.om_program_text.specs.Words.{product_word}
use Rattle.om_asm.specs.Lines.{word_by}
use Rattle.om_ring.specs.OptionSteps.{◌>>=◌}
use Rattle.om_asm.specs.Spelt.{literal}
use Rattle.om_asm.specs.Lists.{list_from}
use Rattle.om_asm.specs.Reading.{product_of}
use Rattle.om_asm.specs.VertexSlots.{slot_of, fourth_slot, factors_of}
use Rattle.om_asm.specs.Vertices.{known_fields}
use Rattle.om_asm.specs.FirstBad.{IsReadableProduct}
use Rattle.om_asm.proofs.SpeltLemmas.{same_bytes}
use Rattle.om_asm.proofs.WordLaws.{bind_some}
use Rattle.om_asm.proofs.ModelWords.{pick, product_spells, list_found}
use Rattle.om_asm.proofs.ModelLaws.{by_word, slot_found, slot_field, SlotWord, ok_same}

pub literal_found : (key w : List ℕ) (x : Unit {0}) → literal key w ≡ Some x → w ≡ key
literal_found key w x e = elim (pick (bytes_eq w key) tt None x e) [ inl p ↦ same_bytes w key p.0 | inr p ↦ absurd (let n = p.1 in cc) ]

-- a colon and more, or the word of a fourth slot before them
abbrev pub FourthWords : List Particle → Words → Option (Option ℕ) → Words → Type 0
FourthWords ps words None rest = words ≡ codes ":" ∷ rest
FourthWords ps words (Some slot) rest = (w : List ℕ) × (words ≡ w ∷ codes ":" ∷ rest) × SlotWord ps w slot

abbrev Fourth : Type 0
Fourth = Option (Option ℕ) × Words

abbrev a_fourth : Option (Option ℕ) → Words → Fourth
a_fourth slot rest = (slot, rest)

pub fourth_found : (ps : List Particle) (words : Words) (d : Fourth) → fourth_slot ps words ≡ Some d → FourthWords ps words d.0 d.1
unfolding fourth_slot
fourth_found ps [] d e = absurd cc
fourth_found ps (w ∷ ws) d e = elim (pick (bytes_eq w (codes ":")) (a_fourth None ws) _ d e) [
  | inl p ↦ subst (λ (q : Fourth). FourthWords ps (w ∷ ws) q.0 q.1) p.1 (ap (λ (v : List ℕ). v ∷ ws) (same_bytes w (codes ":") p.0))
  | inr p ↦
      let a = bind_some (slot_of ps w) (λ slot. word_by (literal (codes ":")) ws >>= λ colon. Some (a_fourth (Some slot) colon.1)) d p.1 in
      let b = bind_some (word_by (literal (codes ":")) ws) (λ colon. Some (a_fourth (Some a.0) colon.1)) d a.2 in
      let c = by_word (literal (codes ":")) ws b.0 b.1 in
      let same : a_fourth (Some a.0) b.0.1 ≡ d = let h = b.2 in cc in
      subst (λ (q : Fourth). FourthWords ps (w ∷ ws) q.0 q.1) same (w, ap (λ (vs : Words). w ∷ vs) (c.1 ∙ ap (λ (v : List ℕ). v ∷ b.0.1) (literal_found (codes ":") c.0 b.0.0 c.2)), slot_found ps w a.0 a.1)
]

-- one to three products, and nothing else
pub record AreFactors (words : Words) (factors : List (List Numeral)) : Type 0 where
  pub texts : map product_word factors ≡ words
  pub products : AllByRecursion IsReadableProduct factors
  pub some : 1 ≤ length factors
  pub few : length factors ≤ 3

not_none : (n : ℕ) (b : Bool) → eqb n 0 ≡ b → b ≡ false → 1 ≤ n
not_none n true e f = cc
not_none n false e f = grind (arith, nat_tests)

kept : {A : Type 0} (b : Bool) (x y : A) → cond b None (Some x) ≡ Some y → (b ≡ false) × (x ≡ y)
kept true x y e = absurd cc
kept false x y e = (refl, cc)

pub factors_found : (words : Words) (factors : List (List Numeral)) → factors_of words ≡ Some factors → AreFactors words factors
unfolding factors_of
factors_found words factors e =
    let a = bind_some (list_from product_of 3 0 words) (λ fs. cond (eqb (length fs) 0) None (Some fs)) factors e in
    let k = kept (eqb (length a.0) 0) a.0 factors a.2 in
    let l = list_found product_of product_word IsReadableProduct product_spells 3 0 words a.0 (omega arith) a.1 in
    let some = not_none (length a.0) (eqb (length a.0) 0) refl k.0 in
    subst (λ (fs : List (List Numeral)). AreFactors words fs) k.1 (record { texts = l.texts; products = l.fit; some = some; few = omega (arith, l.few) })

-- the fields of three or four slots
pub record AreFields (ps : List Particle) (words : Words) (fields : List ℕ) (rest : Words) : Type 0 where
  pub texts : words ≡ map (field_name ps) fields ++ codes ":" ∷ rest
  pub named : AllByRecursion (IsNamed ps) fields
  pub least : 3 ≤ length fields
  pub most : length fields ≤ 4

pub fields_found : (ps : List Particle) (wa wb wc : List ℕ) (middle rest : Words) (a b c : Option ℕ) (d : Option (Option ℕ)) (fields : List ℕ)
    → SlotWord ps wa a → SlotWord ps wb b → SlotWord ps wc c → FourthWords ps middle d rest → known_fields a b c d ≡ Ok fields → AreFields ps (wa ∷ wb ∷ wc ∷ middle) fields rest
unfolding known_fields
fields_found ps wa wb wc middle rest (Some a) (Some b) (Some c) None fields sa sb sc sd e =
    let x = slot_field ps wa a sa in
    let y = slot_field ps wb b sb in
    let z = slot_field ps wc c sc in
    let same = ok_same (a ∷ b ∷ c ∷ []) fields e in
    let texts : wa ∷ wb ∷ wc ∷ middle ≡ field_name ps a ∷ field_name ps b ∷ field_name ps c ∷ codes ":" ∷ rest =
    ap (λ (v : List ℕ). v ∷ wb ∷ wc ∷ middle) (sym x.0) ∙ ap (λ (v : List ℕ). field_name ps a ∷ v ∷ wc ∷ middle) (sym y.0) ∙ ap₂ (λ (v : List ℕ) (vs : Words). field_name ps a ∷ field_name ps b ∷ v ∷ vs) (sym z.0) sd in
    subst (λ (fs : List ℕ). AreFields ps (wa ∷ wb ∷ wc ∷ middle) fs rest) same (record { texts = texts; named = (x.1, (y.1, (z.1, tt))); least = omega arith; most = omega arith })
fields_found ps wa wb wc middle rest (Some a) (Some b) (Some c) (Some (Some d)) fields sa sb sc sd e =
    let x = slot_field ps wa a sa in
    let y = slot_field ps wb b sb in
    let z = slot_field ps wc c sc in
    let u = slot_field ps sd.0 d sd.2 in
    let same = ok_same (a ∷ b ∷ c ∷ d ∷ []) fields e in
    let texts : wa ∷ wb ∷ wc ∷ middle ≡ field_name ps a ∷ field_name ps b ∷ field_name ps c ∷ field_name ps d ∷ codes ":" ∷ rest =
    ap (λ (v : List ℕ). v ∷ wb ∷ wc ∷ middle) (sym x.0) ∙ ap (λ (v : List ℕ). field_name ps a ∷ v ∷ wc ∷ middle) (sym y.0) ∙ ap₂ (λ (v : List ℕ) (vs : Words). field_name ps a ∷ field_name ps b ∷ v ∷ vs) (sym z.0) (sd.1 ∙ ap (λ (v : List ℕ). v ∷ codes ":" ∷ rest) (sym u.0)) in
    subst (λ (fs : List ℕ). AreFields ps (wa ∷ wb ∷ wc ∷ middle) fs rest) same (record { texts = texts; named = (x.1, (y.1, (z.1, (u.1, tt)))); least = omega arith; most = omega arith })
fields_found ps wa wb wc middle rest (Some a) (Some b) (Some c) (Some None) fields sa sb sc sd e = absurd cc
fields_found ps wa wb wc middle rest (Some a) (Some b) None d fields sa sb sc sd e = absurd cc
fields_found ps wa wb wc middle rest (Some a) None c d fields sa sb sc sd e = absurd cc
fields_found ps wa wb wc middle rest None b c d fields sa sb sc sd e = absurd cc
