-- Digits in a number of eight bytes.
use Rattle.std.specs.Prelude.{ℕ, ◌≡◌, ◌+◌, ◌*◌, List, [], ◌∷◌, length}
use Rattle.om_ring.specs.Numerals.{AllDigits, digits_value}

-- some bytes as a number, the first the lowest
abbrev pub word_of : List ℕ → ℕ
word_of [] = 0
word_of (b ∷ bs) = b + 256 * word_of bs

-- the bytes of w are the values of eight digits, and n is what these write
pub record AreEight (w n : ℕ) : Type 0 where
  pub digits : List ℕ
  pub all : AllDigits digits
  pub eight : length digits ≡ 8
  -- each byte of this number is "0"
  pub is : w + 3472328296227680304 ≡ word_of digits
  pub value : n ≡ digits_value digits
