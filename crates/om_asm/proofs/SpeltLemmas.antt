-- Words and their one spelling.
use Rattle.std.proofs.Common.{◌≡◌, ℕ, ◌+◌, ◌-◌, ◌^◌, ◌<◌, ◌≤◌, true, List, length, decimal, Some, None, sym, ap, ◌∙◌, arith}
use Rattle.std.specs.Str.{bytes_eq}
use Rattle.std.proofs.lemmas.Fmt.{decimal_injective}
use Rattle.std.proofs.lemmas.Slice.Eq.{bytes_eq-Decides}
use Rattle.om_ring.specs.Spelt.{decimal_below}
use Rattle.om_ring.proofs.SpeltLemmas.{IsOneSpelling, spelt_some, spelt_none, spelt_found, decimal_read, decimal_absent, empty_is_no_decimal}
use Rattle.om_model.specs.TermText.{place_word}
use Rattle.om_asm.specs.Spelt.{place_of}

pub same_bytes : (xs ys : List ℕ) → bytes_eq xs ys ≡ true → xs ≡ ys
same_bytes xs ys e = (bytes_eq-Decides xs ys).0 e

pub bytes_same : (xs ys : List ℕ) → xs ≡ ys → bytes_eq xs ys ≡ true
bytes_same xs ys e = (bytes_eq-Decides xs ys).1 e

pub one_place : IsOneSpelling place_word (2 ^ 32 - 1)
one_place m n lm ln e = let same = decimal_injective (m + 1) (n + 1) (omega arith) (omega arith) e in omega (arith, same)

-- no byte is no number
pub number_empty : (word : List ℕ) (limit : ℕ) → limit ≤ 2 ^ 64 → length word ≡ 0 → decimal_below limit word ≡ None
number_empty word limit h none = sym (decimal_absent limit word (empty_is_no_decimal word none) h)

-- a number that counts from 1
pub place_some : (word : List ℕ) (n : ℕ) → decimal_below (2 ^ 32) word ≡ Some n → 0 < n → place_of word ≡ Some (n - 1)
place_some word n e h =
    let f = spelt_found decimal (2 ^ 32) word n e in
    let same : n - 1 + 1 ≡ n = omega arith in
    spelt_some place_word (2 ^ 32 - 1) word (n - 1) (omega (arith, f.0)) (ap decimal same ∙ f.1) one_place

pub place_zero : (word : List ℕ) (n : ℕ) → decimal_below (2 ^ 32) word ≡ Some n → n ≡ 0 → place_of word ≡ None
place_zero word n e z =
    let f = spelt_found decimal (2 ^ 32) word n e in
    spelt_none place_word (2 ^ 32 - 1) word (λ k lt p. let q = decimal_injective (k + 1) n (omega arith) (omega (arith, f.0)) (p ∙ sym f.1) in omega (arith, q, z))

pub place_none : (word : List ℕ) → decimal_below (2 ^ 32) word ≡ None → place_of word ≡ None
place_none word e = spelt_none place_word (2 ^ 32 - 1) word (λ k lt p. let q = decimal_read (k + 1) (2 ^ 32) word (omega arith) (omega arith) p in cc)
