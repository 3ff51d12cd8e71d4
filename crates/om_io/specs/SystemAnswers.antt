-- What the objects of the machine answer for the outcomes of the system.
use Rattle.std.specs.Prelude.{ℕ, ◌≡◌, Result, Ok, MatchBool, MatchResult, nat_le, IsErr}
use Rattle.om_io.specs.declared.Failed.{Failed}
use Rattle.om_io.specs.InMemory.{next_count}

-- a count leaves the faults as they were, and a failure counts one more, from the count before to that behind
abbrev pub IsCounted : ℕ → ℕ → Result ℕ Failed → Type 0
IsCounted before now result = MatchResult result (λ _. now ≡ before) (λ _. now ≡ next_count before)

-- an outcome of at least so many bytes is answered as it is, anything else by a failure, and faults are counted
abbrev pub Answers : {E : Type 0} → ℕ → Result ℕ E → ℕ → ℕ → Result ℕ Failed → Type 0
Answers least outcome before now result =
    IsCounted before now result × MatchResult outcome (λ n. MatchBool (nat_le least n) (result ≡ Ok n) (IsErr result)) (λ _. IsErr result)
