-- A text as its lines, and a line as its words.
use Rattle.std.specs.Prelude.{◌≡◌, ℕ, ◌+◌, ◌^◌, ◌<◌, ◌==◌, List, [], ◌∷◌, length, Option, Some, None}
use Rattle.std.specs.List.{slice_split}
use Rattle.om_ring.specs.OptionSteps.{◌>>=◌}
use Rattle.om_io.specs.Lines.{Words}

-- the pieces between single spaces
abbrev pub words_of : List ℕ → Words
words_of line = slice_split (λ b. b == 32) line

-- what stands behind the last line feed: nothing, or a line that isn't whole, which has no word
abbrev pub cut_line : List ℕ → List Words
cut_line [] = []
cut_line (b ∷ bs) = [] ∷ []

-- the lines of the parts between line feeds
unfoldable pub lines_of_parts : List (List ℕ) → List Words
lines_of_parts [] = []
lines_of_parts (part ∷ []) = cut_line part
lines_of_parts (part ∷ next ∷ parts) = words_of part ∷ lines_of_parts (next ∷ parts)

-- the lines of a text, each as its words; a last line without line feed has no word
unfoldable pub lines_of : List ℕ → List Words
lines_of text = lines_of_parts (slice_split (λ b. b == 10) text)

-- the words of the first line, none where there is no whole line
abbrev pub first_line : List Words → Words
first_line [] = []
first_line (l ∷ ls) = l

-- the pieces that are left
abbrev pub pieces_left : ℕ → Option (List ℕ) → Words
pieces_left c None = []
pieces_left c (Some bytes) = slice_split (λ b. b == c) bytes

-- the words that are left of a line
abbrev pub words_left : Option (List ℕ) → Words
words_left line = pieces_left 32 line

-- a place in a text: the number of the line there, from 1, and the lines from there on
pub record At : Type 0 where
  pub number : ℕ
  pub lines : List Words

-- a whole line in front, where there is one
abbrev pub with_first : Option (List ℕ) → List Words → List Words
with_first None lines = lines
with_first (Some line) lines = words_of line ∷ lines

-- what is kept of the rest of a text: where no whole line is in front there is none, and the number of the next line fits
abbrev pub AreLines : ℕ → Option (List ℕ) → List ℕ → Type 0
AreLines number None rest = (number + length rest < 2 ^ 32) × (lines_of rest ≡ cut_line rest)
AreLines number (Some line) rest = number + 1 + length rest < 2 ^ 32

-- the place behind a line with words
abbrev pub Advances : At → At → Type 0
Advances before now = (w : List ℕ) (ws : Words) (lines : List Words) → before.lines ≡ (w ∷ ws) ∷ lines → now ≡ record { number = before.number + 1; lines = lines }

-- what a reader finds in some words is answered, and what follows it is left
abbrev pub Scans : {A : Type 0} → Option (A × Words) → Option A → Words → Type 0
Scans found None rest = found ≡ None
Scans found (Some x) rest = found ≡ Some (x, rest)

-- the first word, and the others
abbrev pub next_word : Words → Option (List ℕ × Words)
next_word [] = None
next_word (w ∷ ws) = Some (w, ws)

-- what the first word says
abbrev pub word_by : {A : Type 0} → (List ℕ → Option A) → Words → Option (A × Words)
word_by read words = do
  w ← next_word words
  x ← read w.0
  Some (x, w.1)

-- no word is left
abbrev pub no_more : Words → Option (Unit {0})
no_more [] = Some tt
no_more (w ∷ ws) = None
