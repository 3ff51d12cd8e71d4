-- Words that say a thing each.
use Rattle.std.specs.Prelude.{ℕ, ◌+◌, nat_lt, if◌then◌else◌, List, [], ◌∷◌, Option, Some, None}
use Rattle.om_io.specs.Lines.{Words}
use Rattle.om_ring.specs.OptionSteps.{◌>>=◌}

-- what each word says, where there are at most so many; `count` stand before them
unfoldable pub list_from : {A : Type 0} → (List ℕ → Option A) → ℕ → ℕ → Words → Option (List A)
list_from read most count [] = Some []
list_from read most count (w ∷ ws) = do
  x ← read w
  if nat_lt count most then (do
    xs ← list_from read most (count + 1) ws
    Some (x ∷ xs)) else None
