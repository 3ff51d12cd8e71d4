-- Lines of words.
use Rattle.std.specs.Prelude.{ℕ, List, [], ◌∷◌, ◌++◌, flat_map}
use Rattle.std.specs.List.{join_with_byte}

-- the words of a line, each a list of bytes
abbrev pub Words : Type 0
Words = List (List ℕ)

-- the words with single spaces between, and a line feed
abbrev pub line_text : Words → List ℕ
line_text words = join_with_byte 32 words ++ 10 ∷ []

abbrev pub lines_text : List Words → List ℕ
lines_text lines = flat_map line_text lines
