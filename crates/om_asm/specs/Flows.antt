-- What the word of a flow says.
use Rattle.std.specs.Prelude.{ℕ, ◌-◌, ◌==◌, if◌then◌else◌, List, [], ◌∷◌, codes, slice_set, Option, Some, None}
use Rattle.std.specs.Str.{bytes_eq}
use Rattle.std.specs.List.{slice_split}
use Rattle.om_colour.specs.declared.Flow.{Flow}
use Rattle.om_colour.specs.Texts.{flow_bytes}
use Rattle.om_io.specs.Lines.{Words}
use Rattle.om_asm.specs.Lines.{word_by, no_more}
use Rattle.om_ring.specs.OptionSteps.{◌>>=◌}
use Rattle.om_asm.specs.Spelt.{end_of}

-- the legs at the start and at the end of a line
unfoldable pub ends_of_line : Words → Option (ℕ × ℕ)
ends_of_line words = do
  start ← word_by end_of words
  end ← word_by end_of start.1
  _ ← no_more end.1
  if start.0 == 0 then None else Some (start.0, end.0)

-- the ends, where those of the lines that pieces write are put in
unfoldable pub ends_from : List ℕ → Words → Option (List ℕ)
ends_from ends [] = Some ends
ends_from ends (w ∷ ws) = do
  line ← ends_of_line (slice_split (λ b. b == 62) w)
  ends_from (slice_set ends (line.0 - 1) line.1) ws

abbrev pub no_ends : List ℕ
no_ends = 0 ∷ 0 ∷ 0 ∷ 0 ∷ 0 ∷ 0 ∷ 0 ∷ 0 ∷ 0 ∷ 0 ∷ 0 ∷ 0 ∷ []

abbrev pub flow_with : List ℕ → Flow
flow_with ends = record { ends = ends }

-- a flow in its one spelling
unfoldable pub flow_of : List ℕ → Option Flow
flow_of word = if bytes_eq word (codes "-") then Some (flow_with no_ends) else (do
  ends ← ends_from no_ends (slice_split (λ b. b == 44) word)
  if bytes_eq (flow_bytes (flow_with ends)) word then Some (flow_with ends) else None)

unfoldable pub flow_line : Words → Option Flow
flow_line words = do
  flow ← word_by flow_of words
  _ ← no_more flow.1
  Some flow.0
