-- The tokens of a text: its pieces between spaces.
use Rattle.std.specs.Prelude.{◌≡◌, ℕ, ◌+◌, ◌<◌, ◌≤◌, ◌==◌, List, [], ◌∷◌, ◌++◌, drop, length, cond, slice_range}

-- a piece of the text between spaces, with the place of its first byte, from 0
pub record Token : Type 0 where
  pub place : ℕ
  pub bytes : List ℕ

abbrev pub token_at : ℕ → List ℕ → Token
token_at at bs = record { place = at; bytes = bs }

-- a token of one or more bytes
abbrev pub token_of : ℕ → List ℕ → List Token
token_of at [] = []
token_of at (b ∷ bs) = token_at at (b ∷ bs) ∷ []

-- the tokens of the rest of a text, which begins at place `here`; `begun` are the bytes since place `at`, without a space
unfoldable pub tokens_from : ℕ → ℕ → List ℕ → List ℕ → List Token
tokens_from here at begun [] = token_of at begun
tokens_from here at begun (b ∷ bs) = cond (b == 32) (token_of at begun ++ tokens_from (here + 1) (here + 1) [] bs) (tokens_from (here + 1) at (begun ++ b ∷ []) bs)

abbrev pub tokens_of : List ℕ → List Token
tokens_of text = tokens_from 0 0 [] text

-- the tokens of a text from a place on
abbrev pub rest_tokens : List ℕ → ℕ → List Token
rest_tokens text here = tokens_from here here [] (drop here text)

-- the first token from a place on stands from `start` on before `end`
pub record IsNextToken (text : List ℕ) (from start end : ℕ) : Type 0 where
  pub begins : from ≤ start
  pub has_bytes : start < end
  pub ends : end ≤ length text
  pub tokens : rest_tokens text from ≡ token_at start (slice_range text start end) ∷ rest_tokens text end
