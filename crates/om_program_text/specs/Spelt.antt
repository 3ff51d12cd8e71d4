-- Numbers of places that are spelt in a few bytes each.
use Rattle.std.specs.Prelude.{◌≡◌, ℕ, ◌<◌, ◌≤◌, List, ◌∷◌, length, slice_index_or, take}
use Rattle.om_model.specs.TermText.{place_word}
use Rattle.om_program_text.specs.declared.spellings.Spelling.{Spelling}

-- the number of a place behind a space
pub record IsSpelt (k : ℕ) (s : Spelling) : Type 0 where
  pub text : take s.len s.bytes ≡ 32 ∷ place_word k
  pub short : s.len ≤ 8

-- those of the places from 0 on
abbrev pub AreSpelt : List Spelling → Type 0
AreSpelt numbers = (k : ℕ) (s : Spelling) → k < length numbers → IsSpelt k (slice_index_or numbers k s)
