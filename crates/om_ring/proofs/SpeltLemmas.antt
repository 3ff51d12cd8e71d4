-- Each text says one thing, and decimals are read back.
use Rattle.std.proofs.Common.{◌≡◌, ℕ, zero, suc, ◌^◌, ◌<◌, ◌≤◌, true, false, List, [], ◌∷◌, length, get_or, take, drop, decimal, Option, Some, None, refl, sym, ap, subst, ◌∙◌, arith, inl, inr, true≢false}
use Rattle.std.specs.Prelude.{MatchOption}
use Rattle.std.specs.Str.{bytes_eq}
use Rattle.std.proofs.lemmas.Bool.{cases_lt}
use Rattle.std.proofs.lemmas.List.{take_all}
use Rattle.std.proofs.lemmas.Fmt.{decimal_injective}
use Rattle.std.proofs.lemmas.Slice.Eq.{bytes_eq-Decides}
use Rattle.om_ring.specs.FindBelowLemmas.{find_below-finds}
use Rattle.om_ring.specs.Numerals.{AllDigits, IsDigits, digits_value}
use Rattle.om_ring.specs.NumeralScan.{IsRun, NoDigitFirst, checked}
use Rattle.om_ring.specs.Spelt.{spelt, decimal_below}
use Rattle.om_ring.proofs.NumeralPhases.{digit_passes}
use Rattle.om_ring.proofs.NumeralTexts.{IsDigits-decimal, all_digits, not_empty, no_leading_zero, digits_value-decimal_of, decimal-digits_value_of}
use Rattle.om_ring.proofs.NumeralValues.{checked-fits, checked-some}

-- no two numbers below the limit have one spelling
abbrev pub IsOneSpelling : (ℕ → List ℕ) → ℕ → Type 0
IsOneSpelling spelling limit = (m n : ℕ) → m < limit → n < limit → spelling m ≡ spelling n → m ≡ n

same_bytes : (xs ys : List ℕ) → bytes_eq xs ys ≡ true → xs ≡ ys
same_bytes xs ys e = (bytes_eq-Decides xs ys).0 e

bytes_same : (xs ys : List ℕ) → xs ≡ ys → bytes_eq xs ys ≡ true
bytes_same xs ys e = (bytes_eq-Decides xs ys).1 e

module _ (spelling : ℕ → List ℕ) (limit : ℕ) (text : List ℕ) where
  abbrev Found : Option ℕ → Type 0
  Found o = MatchOption o ((k : ℕ) → k < limit → bytes_eq (spelling k) text ≡ false) (λ k. (k < limit) × (bytes_eq (spelling k) text ≡ true))

  found : Found (spelt spelling limit text)
  unfolding spelt
  found = find_below-finds (λ k. bytes_eq (spelling k) text) limit

  by_finding : (o : Option ℕ) → Found o → (n : ℕ) → n < limit → spelling n ≡ text → IsOneSpelling spelling limit → o ≡ Some n
  by_finding (Some k) h n lt e one = ap Some (one k n h.0 lt (same_bytes (spelling k) text h.1 ∙ sym e))
  by_finding None h n lt e one = absurd (let t = bytes_same (spelling n) text e in let f = h n lt in cc)

  -- the spelling of n says n
  pub spelt_some : (n : ℕ) → n < limit → spelling n ≡ text → IsOneSpelling spelling limit → spelt spelling limit text ≡ Some n
  spelt_some n lt e one = by_finding (spelt spelling limit text) found n lt e one

  none_found : (o : Option ℕ) → Found o → ((n : ℕ) → n < limit → spelling n ≡ text → ⊥) → o ≡ None
  none_found None h none = refl
  none_found (Some k) h none = absurd (none k h.0 (same_bytes (spelling k) text h.1))

  -- a text that spells no number says none
  pub spelt_none : ((n : ℕ) → n < limit → spelling n ≡ text → ⊥) → spelt spelling limit text ≡ None
  spelt_none none = none_found (spelt spelling limit text) found none

  what_was_found : (o : Option ℕ) → Found o → (n : ℕ) → o ≡ Some n → (n < limit) × (spelling n ≡ text)
  what_was_found (Some k) h n e = let same : k ≡ n = cc in (omega (arith, h.0), ap spelling (sym same) ∙ same_bytes (spelling k) text h.1)
  what_was_found None h n e = absurd cc

  -- what a text says is spelled by it
  pub spelt_found : (n : ℕ) → spelt spelling limit text ≡ Some n → (n < limit) × (spelling n ≡ text)
  spelt_found n e = what_was_found (spelt spelling limit text) found n e

-- decimals are one spelling
one_decimal : (limit : ℕ) → limit ≤ 2 ^ 64 → IsOneSpelling decimal limit
one_decimal limit h m n lm ln e = decimal_injective m n (omega arith) (omega arith) e

-- the decimal of a number is read as it
pub decimal_read : (n limit : ℕ) (text : List ℕ) → n < limit → limit ≤ 2 ^ 64 → decimal n ≡ text → decimal_below limit text ≡ Some n
decimal_read n limit text lt h e = spelt_some decimal limit text n lt e (one_decimal limit h)

-- what a lower limit leaves
pub decimal_less : (n limit : ℕ) (text : List ℕ) → Some n ≡ decimal_below (2 ^ 64) text → n < limit → limit ≤ 2 ^ 64 → Some n ≡ decimal_below limit text
decimal_less n limit text e lt h = sym (decimal_read n limit text lt h (spelt_found decimal (2 ^ 64) text n (sym e)).1)

pub decimal_past : (n limit : ℕ) (text : List ℕ) → Some n ≡ decimal_below (2 ^ 64) text → limit ≤ n → None ≡ decimal_below limit text
decimal_past n limit text e le =
    let f = spelt_found decimal (2 ^ 64) text n (sym e) in
    sym (spelt_none decimal limit text (λ m lt s. let same : m ≡ n = decimal_injective m n (omega (arith, f.0)) f.0 (s ∙ sym f.1) in omega arith))

pub decimal_absent : (limit : ℕ) (text : List ℕ) → None ≡ decimal_below (2 ^ 64) text → limit ≤ 2 ^ 64 → None ≡ decimal_below limit text
decimal_absent limit text e h = sym (spelt_none decimal limit text (λ m lt s. let f = decimal_read m (2 ^ 64) text (omega arith) (omega arith) s in cc))

-- a text that isn't made of the digits of a number is no decimal
no_decimal : (text : List ℕ) → (IsDigits text → ⊥) → None ≡ decimal_below (2 ^ 64) text
no_decimal text none = sym (spelt_none decimal (2 ^ 64) text (λ n lt e. none (let P : List ℕ → Type 0 = IsDigits in subst P e (IsDigits-decimal n lt))))

pub empty_is_no_decimal : (text : List ℕ) → length text ≡ 0 → None ≡ decimal_below (2 ^ 64) text
empty_is_no_decimal text e = no_decimal text (λ d. let p = not_empty text d in omega arith)

pub zero_in_front : (text : List ℕ) → get_or text 0 0 ≡ 48 → 1 < length text → None ≡ decimal_below (2 ^ 64) text
zero_in_front text z l = no_decimal text (λ d. let p = no_leading_zero text d z in omega arith)

other_byte : (text : List ℕ) (end : ℕ) → AllDigits text → end < length text → NoDigitFirst (drop end text) → ⊥
other_byte [] k a lt n = absurd (omega arith)
other_byte (c ∷ cs) zero a lt n = true≢false (sym (digit_passes c a.0.0 a.0.1) ∙ n)
other_byte (c ∷ cs) (suc k) a lt n = other_byte cs k a.1 (omega arith) n

pub digits_and_more : (text : List ℕ) (value : Option ℕ) (end : ℕ) → IsRun text 0 value end → end < length text → None ≡ decimal_below (2 ^ 64) text
digits_and_more text value end r lt = no_decimal text (λ d. other_byte text end (all_digits text d) lt r.no_more)

no_more : (xs : List ℕ) → length xs ≤ 0 → xs ≡ []
no_more [] h = refl
no_more (x ∷ xs) h = absurd (omega arith)

digits_from : (text : List ℕ) → AllDigits text → 0 < length text → (get_or text 0 0 ≡ 48 → length text ≤ 1) → IsDigits text
digits_from [] a p z = absurd (omega arith)
digits_from (c ∷ cs) a p z = elim (cases_lt 48 c) [
  | inl lt ↦ inr ((omega arith, a.0.1), a.1)
  | inr ge ↦ let e : c ≡ 48 = omega (arith, a.0.0) in inl (e, no_more cs (omega (arith, z e)))
]

-- digits are read as their number, where it is below 2^64
digits_read : (text : List ℕ) (value : Option ℕ) → IsDigits text → value ≡ checked (digits_value text) → value ≡ decimal_below (2 ^ 64) text
digits_read text None d e = sym (spelt_none decimal (2 ^ 64) text (λ n lt s.
    let same : digits_value text ≡ n = ap digits_value (sym s) ∙ digits_value-decimal_of n lt in
    let some : checked n ≡ Some n = checked-fits n lt in
    let is : None ≡ checked n = e ∙ ap checked same in
    cc))
digits_read text (Some n) d e =
    let h = checked-some (digits_value text) n e in
    sym (decimal_read (digits_value text) (2 ^ 64) text h.1 (omega arith) (decimal-digits_value_of text d h.1) ∙ ap Some (sym h.0))

pub digits_alone : (text : List ℕ) (value : Option ℕ) (end : ℕ) → IsRun text 0 value end → length text ≤ end → 0 < length text → (get_or text 0 0 ≡ 48 → length text ≤ 1)
    → value ≡ decimal_below (2 ^ 64) text
digits_alone text value end r le p z =
    let whole : take end text ≡ text = take_all end text le in
    let P : List ℕ → Type 0 = AllDigits in
    digits_read text value (digits_from text (subst P whole r.all_digits) p z) (r.value_is ∙ ap (λ ds. checked (digits_value ds)) whole)
