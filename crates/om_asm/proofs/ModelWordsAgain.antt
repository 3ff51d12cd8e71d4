-- Words of models are read again.
use Rattle.std.proofs.Common.{◌≡◌, ℕ, ◌+◌, ◌^◌, ◌<◌, ◌≤◌, eqb, ltb, Bool, true, false, cond, List, [], ◌∷◌, ◌++◌, length, map, decimal, Option, Some, None, Ok, Err, refl, ap, ◌∙◌, arith}
use Rattle.std.specs.List.{AllByRecursion}
use Rattle.std.proofs.lemmas.Bool.{lt-ltb}
use Rattle.om_ring.specs.declared.numeral.Numeral.{Numeral}
use Rattle.om_ring.specs.Numerals.{numeral_text, sign_text, shown_den, mark_text, NumeralFits}
use Rattle.om_ring.proofs.NumeralTexts.{numeral_of-shown}
use Rattle.om_lorentz.specs.declared.structures.Spin.{Spin}
use Rattle.om_lorentz.specs.declared.structures.Structure.{Structure}
use Rattle.om_colour.specs.declared.Colour.{Colour}
use Rattle.om_model.specs.Name.{is_name}
use Rattle.om_model.specs.Words.{structure_of_word, spin_of_word}
use Rattle.om_model.specs.FieldNames.{field_named}
use Rattle.om_model.specs.declared.model.Particle.{Particle}
use Rattle.om_code.specs.Plain.{IsNamed}
use Rattle.om_model.specs.FieldNames.{field_name}
use Rattle.om_model.proofs.WordLaws.{words_are_read}
use Rattle.om_asm.specs.declared.fault.AsmKind.TheVariants.{Grammar}
use Rattle.om_io.specs.Lines.{Words}
use Rattle.om_program_text.specs.Words.{product_word}
use Rattle.om_model.specs.Words.{spin_word, structure_word, colour_word}
use Rattle.om_ring.specs.OptionSteps.{◌>>=◌}
use Rattle.om_asm.specs.Lists.{list_from}
use Rattle.om_asm.specs.Reading.{name_of, canonical, factor_of, product_of, known, named}
use Rattle.om_model.specs.Words.{colour_of_word}
use Rattle.om_asm.proofs.SpeltLemmas.{bytes_same}
use Rattle.om_asm.proofs.Visible.{Without, split_join, decimal_without}
use Rattle.om_legs.specs.Legs.{IsLegSet}
use Rattle.om_model.specs.LegSetText.{leg_set_of_word, leg_set_word}
use Rattle.om_model.proofs.LegSetLaws.{leg_sets_are_read}
use Rattle.om_model.specs.Rules.{HasLength}

pub name_again : (n : List ℕ) → is_name n ≡ true → name_of n ≡ Some n
name_again n h = ap (λ b. cond b (Some n) None) h

pub spin_again : (s : Spin) → spin_of_word (spin_word s) ≡ Some s
spin_again s = (words_are_read.1 s (spin_word s)).1 refl

pub set_again : (set : ℕ) → IsLegSet set → 1 ≤ set → leg_set_of_word (leg_set_word set) ≡ Some set
set_again set is some = leg_sets_are_read.0 set is some

pub structure_again : (s : Structure) → structure_of_word (structure_word s) ≡ Some s
structure_again s = (words_are_read.0 s (structure_word s)).1 refl

pub colour_again : (c : Colour) → colour_of_word (colour_word c) ≡ Some c
colour_again c = (words_are_read.2 c (colour_word c)).1 refl

pub factor_again : (x : Numeral) → NumeralFits x → factor_of (numeral_text x) ≡ Some x
factor_again x h =
    ap (canonical (numeral_text x)) (numeral_of-shown x h.0 h.1)
    ∙ ap (λ b. cond b (Some x) None) (bytes_same (numeral_text x) (numeral_text x) refl)

one_again : {A : Type 0} (read : List ℕ → Option A) (most count : ℕ) (w : List ℕ) (ws : Words) (x : A) (xs : List A) → read w ≡ Some x → count < most → list_from read most (count + 1) ws ≡ Some xs → list_from read most count (w ∷ ws) ≡ Some (x ∷ xs)
unfolding list_from
one_again read most count w ws x xs e lt f =
    let t : ltb count most ≡ true = lt-ltb count most lt in
    ap (λ o. o >>= λ y. cond (ltb count most) (list_from read most (count + 1) ws >>= λ ys. Some (y ∷ ys)) None) e
    ∙ ap (λ b. cond b (list_from read most (count + 1) ws >>= λ ys. Some (x ∷ ys)) None) t
    ∙ ap (λ o. o >>= λ ys. Some (x ∷ ys)) f

module _ {A : Type 0} (read : List ℕ → Option A) (text : A → List ℕ) (fits : A → Type 0) (again : (x : A) → fits x → read (text x) ≡ Some x) (most : ℕ) where
  pub list_again : (count : ℕ) (xs : List A) → AllByRecursion fits xs → count + length xs ≤ most → list_from read most count (map text xs) ≡ Some xs
  unfolding list_from
  list_again count [] h few = refl
  list_again count (x ∷ xs) h few = one_again read most count (text x) (map text xs) x xs (again x h.0) (omega arith) (list_again (count + 1) xs h.1 (omega arith))

without_both : (c : ℕ) (a b : List ℕ) → Without c a → Without c b → Without c (a ++ b)
without_both c [] b p q = q
without_both c (x ∷ xs) b p q = (p.0, without_both c xs b p.1 q)

sign_without : (b : Bool) → Without 42 (sign_text b)
sign_without true = (refl, tt)
sign_without false = tt

mark_without : (b : Bool) → Without 42 (mark_text b)
mark_without true = (refl, tt)
mark_without false = tt

den_without : (d : ℕ) → d < 2 ^ 64 → Without 42 (shown_den d)
den_without d h = by (eqb d 1)
  where
    by : (b : Bool) → Without 42 (cond b [] (47 ∷ decimal d))
    by true = tt
    by false = (refl, decimal_without 42 d h (omega arith))

numeral_without : (x : Numeral) → NumeralFits x → Without 42 (numeral_text x)
numeral_without x h =
    without_both 42 (sign_text x.neg) (decimal x.num ++ (shown_den x.den ++ mark_text x.imag)) (sign_without x.neg)
    (without_both 42 (decimal x.num) (shown_den x.den ++ mark_text x.imag) (decimal_without 42 x.num h.0 (omega arith))
    (without_both 42 (shown_den x.den) (mark_text x.imag) (den_without x.den h.1) (mark_without x.imag)))

numerals_without : (xs : List Numeral) → AllByRecursion NumeralFits xs → AllByRecursion (Without 42) (map numeral_text xs)
numerals_without [] h = tt
numerals_without (x ∷ xs) h = (numeral_without x h.0, numerals_without xs h.1)

pub product_again : (p : List Numeral) → HasLength p → AllByRecursion NumeralFits p → product_of (product_word p) ≡ Some p
product_again [] h f = absurd (let l = h.0 in omega arith)
product_again (x ∷ xs) h f =
    ap (list_from factor_of 8 0) (split_join 42 (numeral_text x) (map numeral_text xs) (numeral_without x f.0) (numerals_without xs f.1))
    ∙ list_again factor_of numeral_text NumeralFits factor_again 8 0 (x ∷ xs) f (omega (arith, h.1))

pub named_again : (ps : List Particle) (f : ℕ) → is_name (field_name ps f) ≡ true → IsNamed ps f → named ps (field_name ps f) ≡ Ok f
named_again ps f n h =
    ap (λ b. cond b (known (field_named ps (field_name ps f))) (Err Grammar)) n
    ∙ ap known h
