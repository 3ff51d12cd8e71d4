-- How much a call is handed.
use Rattle.std.specs.Prelude.{ℕ, ◌<◌, length, All, List}
use Rattle.om_top.specs.declared.words.TheConstants.{WORD_LIMIT}

-- how many words there are, and how many bytes each has
pub record IsWithinLimits (words : List (List ℕ)) : Type 0 where
  pub few : length words < WORD_LIMIT
  pub short : All (λ w. length w < WORD_LIMIT) words
