-- What the lines that stand once say.
use Rattle.std.specs.Prelude.{ℕ, ◌^◌, if◌then◌else◌, List, codes, Option, Some, None}
use Rattle.std.specs.Str.{bytes_eq}
use Rattle.om_io.specs.Lines.{Words}
use Rattle.om_asm.specs.Lines.{word_by, no_more}
use Rattle.om_ring.specs.OptionSteps.{◌>>=◌}
use Rattle.om_asm.specs.Spelt.{literal}
use Rattle.om_ring.specs.Spelt.{decimal_below}
use Rattle.om_asm.specs.Reading.{name_of}

-- version 1 or 2
abbrev pub version_word : List ℕ → Option ℕ
version_word word = if bytes_eq word (codes "1") then Some 1 else if bytes_eq word (codes "2") then Some 2 else None

-- a line of a key and one word
unfoldable pub keyed : {A : Type 0} → List ℕ → (List ℕ → Option A) → Words → Option A
keyed key read words = do
  k ← word_by (literal key) words
  x ← word_by read k.1
  _ ← no_more x.1
  Some x.0

abbrev pub version_of : Words → Option ℕ
version_of words = keyed (codes "omega") version_word words

abbrev pub model_name_of : Words → Option (List ℕ)
model_name_of words = keyed (codes "model") name_of words

abbrev pub slots_of : Words → Option ℕ
slots_of words = keyed (codes "slots") (decimal_below (2 ^ 32)) words

unfoldable pub end_of : Words → Option (Unit {0})
end_of words = do
  k ← word_by (literal (codes "end")) words
  no_more k.1
