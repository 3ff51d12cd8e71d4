-- Words of models: what is read is what is spelled.
use Rattle.std.proofs.Common.{◌≡◌, ℕ, zero, suc, ◌+◌, ◌-◌, ◌*◌, ◌/◌, ◌%◌, ◌<◌, ◌≤◌, ◌⊎◌, eqb, ltb, Bool, true, false, cond, List, [], ◌∷◌, length, map, codes, decimal, Option, Some, None, Result, Ok, Err, refl, sym, ap, ap₂, subst, ◌∙◌, arith, inl, inr, option_map}
use Rattle.std.specs.Prelude.{slice_get, slice_set}
use Rattle.std.specs.List.{AllByRecursion, slice_split, join_with_byte}
use Rattle.std.specs.Str.{bytes_eq}
use Rattle.std.proofs.lemmas.Bool.{ltb-true}
use Rattle.std.proofs.lemmas.Bool.Decides.{nat_tests}
use Rattle.std.proofs.lemmas.List.{length-map, length-set}
use Rattle.std.proofs.lemmas.List.Splits.{join_with_byte-slice_split, length-slice_split}
use Rattle.om_ring.specs.declared.numeral.Numeral.{Numeral}
use Rattle.om_ring.specs.declared.numeral.NumeralFault.{NumeralFault}
use Rattle.om_ring.specs.Numerals.{numeral_text}
use Rattle.om_ring.specs.NumeralOf.{numeral_of}
use Rattle.om_legs.specs.Legs.{IsLegSet, legs_of, holds}
use Rattle.om_colour.specs.declared.Flow.{Flow}
use Rattle.om_colour.specs.Texts.{flow_bytes}
use Rattle.om_model.specs.Name.{is_name}
use Rattle.om_model.specs.Words.{structure_of_word, spin_of_word}
use Rattle.om_model.specs.FieldNames.{field_named, field_from}
use Rattle.om_model.specs.declared.model.Particle.{Particle}
use Rattle.om_code.specs.Plain.{IsNamed, IsPlainFlow}
use Rattle.om_model.specs.FieldNames.{name_in, field_name}
use Rattle.om_io.specs.Lines.{Words}
use Rattle.om_program_text.specs.Words.{product_word}
use Rattle.om_model.specs.LegSetText.{leg_set_word, leg_set_of_word, legs_among, legs_read, numbers_above}
use Rattle.om_model.specs.Words.{spin_word, structure_word, colour_word}
use Rattle.om_asm.specs.Lines.{word_by, no_more}
use Rattle.om_ring.specs.OptionSteps.{◌>>=◌}
use Rattle.om_ring.specs.Spelt.{decimal_below}
use Rattle.om_asm.specs.Lists.{list_from}
use Rattle.om_asm.specs.Reading.{name_of, canonical, factor_of, product_of}
use Rattle.om_model.specs.Words.{colour_of_word}
use Rattle.om_asm.specs.Flows.{ends_of_line, ends_from, no_ends, flow_with, flow_of}
use Rattle.om_ring.specs.Numerals.{NumeralFits}
use Rattle.om_asm.specs.FirstBad.{IsName, IsReadableProduct}
use Rattle.om_model.proofs.WordLaws.{words_are_read}
use Rattle.om_ring.proofs.NumeralsFit.{numeral_fits}
use Rattle.om_asm.proofs.SpeltLemmas.{same_bytes, number_empty}
use Rattle.om_asm.proofs.WordLaws.{bind_some, took, ended, number_law}
use Rattle.om_model.proofs.LegSetLaws.{leg_sets_are_read}

-- what is read is spelled by the word, and fits
abbrev pub Spells : {A : Type 0} → (List ℕ → Option A) → (A → List ℕ) → (A → Type 0) → Type 0
Spells {A} read text fits = (w : List ℕ) (x : A) → read w ≡ Some x → (text x ≡ w) × fits x

pub pick : {A : Type 0} (b : Bool) (x : A) (rest : Option A) (y : A) → cond b (Some x) rest ≡ Some y → ((b ≡ true) × (x ≡ y)) ⊎ ((b ≡ false) × (rest ≡ Some y))
pick true x rest y e = inl (refl, cc)
pick false x rest y e = inr (refl, e)

pub spin_spells : Spells spin_of_word spin_word (λ _. Unit {0})
spin_spells w x e = (sym ((words_are_read.1 x w).0 e), tt)

pub colour_spells : Spells colour_of_word colour_word (λ _. Unit {0})
colour_spells w x e = (sym ((words_are_read.2 x w).0 e), tt)

pub structure_spells : Spells structure_of_word structure_word (λ _. Unit {0})
structure_spells w x e = (sym ((words_are_read.0 x w).0 e), tt)

pub name_spells : Spells name_of (λ n. n) IsName
name_spells w x e = elim (pick (is_name w) w None x e) [ inl p ↦ (sym p.1, ap is_name (sym p.1) ∙ p.0) | inr p ↦ absurd (let n = p.1 in cc) ]

by_canonical : (w : List ℕ) (r : Result Numeral NumeralFault) (x : Numeral) → canonical w r ≡ Some x → numeral_text x ≡ w
by_canonical w (Ok y) x e = elim (pick (bytes_eq (numeral_text y) w) y None x e) [ inl p ↦ ap numeral_text (sym p.1) ∙ same_bytes (numeral_text y) w p.0 | inr p ↦ absurd (let n = p.1 in cc) ]
by_canonical w (Err d) x e = absurd cc

pub factor_spells : Spells factor_of numeral_text NumeralFits
factor_spells w x e = (by_canonical w (numeral_of w) x e, by_read w (numeral_of w) x (λ y f. numeral_fits w y f) e)
  where
    by_read : (v : List ℕ) (r : Result Numeral NumeralFault) (y : Numeral) → ((z : Numeral) → r ≡ Ok z → NumeralFits z) → canonical v r ≡ Some y → NumeralFits y
    by_read v (Ok z) y h f = elim (pick (bytes_eq (numeral_text z) v) z None y f) [ inl p ↦ subst NumeralFits p.1 (h z refl) | inr p ↦ absurd (let n = p.1 in cc) ]
    by_read v (Err d) y h f = absurd cc

module _ {A : Type 0} (read : List ℕ → Option A) (text : A → List ℕ) (fits : A → Type 0) (law : Spells read text fits) (most : ℕ) where
  -- what each word of a list says
  pub record Listed (count : ℕ) (ws : Words) (xs : List A) : Type 0 where
    pub texts : map text xs ≡ ws
    pub fit : AllByRecursion fits xs
    pub few : count + length xs ≤ most

  more_than : (count : ℕ) (b : Bool) → ltb count most ≡ b → b ≡ true → count < most
  more_than count true e f = ltb-true count most e
  more_than count false e f = cc

  test_passed : {B : Type 0} (b : Bool) (o : Option B) (y : B) → cond b o None ≡ Some y → (b ≡ true) × (o ≡ Some y)
  test_passed true o y e = (refl, e)
  test_passed false o y e = absurd cc

  pub list_found : (count : ℕ) (ws : Words) (xs : List A) → count ≤ most → list_from read most count ws ≡ Some xs → Listed count ws xs
  unfolding list_from
  list_found count [] xs h e =
      let none : [] ≡ xs = cc in
      subst (λ (ys : List A). Listed count [] ys) none (record { texts = refl; fit = tt; few = omega arith })
  list_found count (w ∷ ws) xs h e =
      let a = bind_some (read w) (λ x. cond (ltb count most) (list_from read most (count + 1) ws >>= λ ys. Some (x ∷ ys)) None) xs e in
      let t = test_passed (ltb count most) (list_from read most (count + 1) ws >>= λ ys. Some (a.0 ∷ ys)) xs a.2 in
      let lt = more_than count (ltb count most) refl t.0 in
      let b = bind_some (list_from read most (count + 1) ws) (λ ys. Some (a.0 ∷ ys)) xs t.1 in
      let l = list_found (count + 1) ws b.0 (omega arith) b.1 in
      let word = law w a.0 a.1 in
      let same : a.0 ∷ b.0 ≡ xs = let s = b.2 in cc in
      subst (λ (ys : List A). Listed count (w ∷ ws) ys) same (record { texts = ap₂ (λ v (vs : Words). v ∷ vs) word.0 l.texts; fit = (word.1, l.fit); few = omega (arith, l.few) })

pub product_spells : Spells product_of product_word IsReadableProduct
product_spells w x e =
    let pieces = slice_split (λ b. eqb b 42) w in
    let l = list_found factor_of numeral_text NumeralFits factor_spells 8 0 pieces x (omega arith) e in
    let texts : length (map numeral_text x) ≡ length x = simp length-map in
    let same : length x ≡ length pieces = sym texts ∙ ap length l.texts in
    (ap (join_with_byte 42) l.texts ∙ join_with_byte-slice_split 42 w, ((omega (arith, same, length-slice_split (λ b. eqb b 42) w), omega (arith, l.few)), l.fit))

-- ---- sets

no_legs : leg_set_word 0 ≡ []
unfolding legs_of holds
no_legs = refl

no_set : leg_set_of_word [] ≡ None
unfolding numbers_above
no_set = ap (λ (o : Option ℕ). legs_among (option_map legs_read (elim o as (λ _. Option (List ℕ)) [ None ↦ None | Some k ↦ cond (ltb 0 k) (Some (k ∷ [])) None ]))) (number_empty [] 100 (omega arith) refl)

-- a set that a text has
abbrev pub IsReadableSet : ℕ → Type 0
IsReadableSet s = (1 ≤ s) × IsLegSet s

pub set_spells : Spells leg_set_of_word leg_set_word IsReadableSet
set_spells w s e = let r = leg_sets_are_read.1 s w e in (sym r.1, (some s w r.1 e, r.0))
  where
    some : (s : ℕ) (v : List ℕ) → v ≡ leg_set_word s → leg_set_of_word v ≡ Some s → 1 ≤ s
    some (suc t) v h f = omega arith
    some zero v h f = absurd (let never = sym no_set ∙ ap leg_set_of_word (sym no_legs ∙ sym h) ∙ f in cc)

-- ---- flows

set_all : (P : ℕ → Type 0) (xs : List ℕ) (k x : ℕ) → AllByRecursion P xs → P x → AllByRecursion P (slice_set xs k x)
set_all P [] k x h p = tt
set_all P (y ∷ ys) zero x h p = (p, h.1)
set_all P (y ∷ ys) (suc k) x h p = (h.0, set_all P ys k x h.1 p)

line_end : (words : Words) (l : ℕ × ℕ) → ends_of_line words ≡ Some l → l.1 ≤ 12
unfolding ends_of_line
line_end words l e =
    let a = took (decimal_below 13) decimal (λ n. n < 13) (number_law 13 (omega arith)) words (λ s. word_by (decimal_below 13) s.1 >>= λ t. no_more t.1 >>= λ _. cond (eqb s.0 0) None (Some (s.0, t.0))) l e in
    let b = took (decimal_below 13) decimal (λ n. n < 13) (number_law 13 (omega arith)) a.1 (λ t. no_more t.1 >>= λ _. cond (eqb a.0 0) None (Some (a.0, t.0))) l a.4 in
    let n = ended b.1 (λ _. cond (eqb a.0 0) None (Some (a.0, b.0))) l b.4 in
    by (eqb a.0 0) (a.0, b.0) l n.1 (omega (arith, b.3))
  where
    by : (t : Bool) (p q : ℕ × ℕ) → cond t None (Some p) ≡ Some q → p.1 ≤ 12 → q.1 ≤ 12
    by true p q f h = absurd cc
    by false p q f h = let same : p ≡ q = cc in omega (arith, h, ap (λ (r : ℕ × ℕ). r.1) same)

ends_plain : (ends : List ℕ) (ws : Words) (more : List ℕ) → AllByRecursion (λ e. e ≤ 12) ends → ends_from ends ws ≡ Some more → AllByRecursion (λ e. e ≤ 12) more
unfolding ends_from
ends_plain ends [] more h e = let same : ends ≡ more = cc in subst (AllByRecursion (λ e. e ≤ 12)) same h
ends_plain ends (w ∷ ws) more h e =
    let a = bind_some (ends_of_line (slice_split (λ b. eqb b 62) w)) (λ l. ends_from (slice_set ends (l.0 - 1) l.1) ws) more e in
    ends_plain (slice_set ends (a.0.0 - 1) a.0.1) ws more (set_all (λ e. e ≤ 12) ends (a.0.0 - 1) a.0.1 h (line_end (slice_split (λ b. eqb b 62) w) a.0 a.1)) a.2

zeros_plain : AllByRecursion (λ e. e ≤ 12) no_ends
zeros_plain = (omega arith, (omega arith, (omega arith, (omega arith, (omega arith, (omega arith, (omega arith, (omega arith, (omega arith, (omega arith, (omega arith, (omega arith, tt))))))))))))

ends_twelve : (ends : List ℕ) (ws : Words) (more : List ℕ) → length ends ≡ 12 → ends_from ends ws ≡ Some more → length more ≡ 12
unfolding ends_from
ends_twelve ends [] more h e = let same : ends ≡ more = cc in ap length (sym same) ∙ h
ends_twelve ends (w ∷ ws) more h e =
    let a = bind_some (ends_of_line (slice_split (λ b. eqb b 62) w)) (λ l. ends_from (slice_set ends (l.0 - 1) l.1) ws) more e in
    ends_twelve (slice_set ends (a.0.0 - 1) a.0.1) ws more (length-set ends (a.0.0 - 1) a.0.1 ∙ h) a.2

-- a flow that a text has
abbrev pub IsReadableFlow : Flow → Type 0
IsReadableFlow w = IsPlainFlow w × (length w.ends ≡ 12)

pub flow_spells : Spells flow_of flow_bytes IsReadableFlow
unfolding flow_of
flow_spells w x e = elim (pick (bytes_eq w (codes "-")) (flow_with no_ends) _ x e) [
  | inl p ↦ subst (λ (f : Flow). (flow_bytes f ≡ w) × IsReadableFlow f) p.1 (sym (same_bytes w (codes "-") p.0), (zeros_plain, refl))
  | inr p ↦
      let a = bind_some (ends_from no_ends (slice_split (λ b. eqb b 44) w)) (λ ends. cond (bytes_eq (flow_bytes (flow_with ends)) w) (Some (flow_with ends)) None) x p.1 in
      let plain = ends_plain no_ends (slice_split (λ b. eqb b 44) w) a.0 zeros_plain a.1 in
      elim (pick (bytes_eq (flow_bytes (flow_with a.0)) w) (flow_with a.0) None x a.2) [
        | inl q ↦ subst (λ (f : Flow). (flow_bytes f ≡ w) × IsReadableFlow f) q.1 (same_bytes (flow_bytes (flow_with a.0)) w q.0, (plain, ends_twelve no_ends (slice_split (λ b. eqb b 44) w) a.0 refl a.1))
        | inr q ↦ absurd (let n = q.1 in cc)
      ]
]

-- ---- fields

even_name : (row f : ℕ) → 2 * row ≡ f → (f / 2 ≡ row) × (eqb (f % 2) 0 ≡ true)
even_name row f e = (omega arith, let z : f % 2 ≡ 0 = omega arith in grind (arith, nat_tests))

odd_name : (row f : ℕ) → 2 * row + 1 ≡ f → (f / 2 ≡ row) × (eqb (f % 2) 0 ≡ false)
odd_name row f e = (omega arith, let z : f % 2 ≡ 1 = omega arith in grind (arith, nat_tests))

name_at : (row : ℕ) (ps : List Particle) (w : List ℕ) (f : ℕ) → field_from row ps w ≡ Some f → (k : ℕ) × (f / 2 ≡ row + k) × (name_in (slice_get ps k) (eqb (f % 2) 0) ≡ w)
unfolding field_from
name_at row [] w f e = absurd cc
name_at row (p ∷ ps) w f e = elim (pick (bytes_eq w p.name) (2 * row) _ f e) [
  | inl q ↦ let n = even_name row f q.1 in (0, omega (arith, n.0), ap (λ b. cond b p.name p.anti) n.1 ∙ sym (same_bytes w p.name q.0))
  | inr q ↦ elim (pick (bytes_eq w p.anti) (2 * row + 1) _ f q.1) [
    | inl r ↦ let n = odd_name row f r.1 in (0, omega (arith, n.0), ap (λ b. cond b p.name p.anti) n.1 ∙ sym (same_bytes w p.anti r.0))
    | inr r ↦ let h = name_at (row + 1) ps w f r.1 in (suc h.0, omega (arith, h.1), h.2)
  ]
]

pub field_spells : (ps : List Particle) → Spells (field_named ps) (field_name ps) (IsNamed ps)
field_spells ps w f e =
    let n = name_at 0 ps w f e in
    let at : f / 2 ≡ n.0 = omega (arith, n.1) in
    let name : field_name ps f ≡ w = ap (λ k. name_in (slice_get ps k) (eqb (f % 2) 0)) at ∙ n.2 in
    (name, ap (field_named ps) name ∙ e)
