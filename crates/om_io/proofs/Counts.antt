-- Counts of faults over several calls.
use Rattle.std.proofs.Common.{◌≡◌, ℕ, ◌≤◌, Ok, Err, arith}
use Rattle.om_io.specs.Causes.{Rose, HasCause}
use Rattle.om_io.specs.InMemory.{next_count}

-- a count that rose has risen over any longer time
pub Rose-longer : (first before now last : ℕ) → first ≤ before → Rose before now → now ≤ last → Rose first last
Rose-longer first before now last f r l = omega arith

-- a count that stays needs no cause
pub HasCause-kept : {E : Type 0} (before now n : ℕ) → now ≡ before → HasCause {T = ℕ} {E = E} before now (Ok n)
HasCause-kept before now n e = record { later = omega arith; failed = tt }

-- a count that was raised is the cause of a failure
pub HasCause-raised : {E : Type 0} (before now : ℕ) (fault : E) → now ≡ next_count before → HasCause {T = ℕ} before now (Err fault)
HasCause-raised before now fault e = record { later = omega arith; failed = omega arith }
