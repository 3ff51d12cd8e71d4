-- A source in memory: what its exact behaviour gives of the clauses of its trait.
use Rattle.std.proofs.Common.{◌≡◌, ℕ, ◌<◌, ◌≤◌, ◌↔◌, List, [], ◌++◌, length, take, drop, Some, IfOk, OnErr, Result, Ok, Err, ap, sym, ◌∙◌, arith}
use Rattle.std.proofs.lemmas.List.{nil_from_length}
use Rattle.om_io.specs.Causes.{HasCause}
use Rattle.om_io.specs.InMemory.{SourceState, ReadsSource}
use Rattle.om_io.specs.declared.Failed.{Failed}
use Rattle.om_io.proofs.Counts.{HasCause-kept, HasCause-raised}
use Rattle.om_io.proofs.Moved.{moved_rest, moved_all}

module _ (old new : SourceState) (buffer filled : List ℕ) where
  pub source_count : (result : Result ℕ Failed) → ReadsSource old new buffer filled result → IfOk result (λ n. n ≤ length buffer)
  source_count (Ok n) h = omega (arith, h.count)
  source_count (Err fault) h = tt

  pub source_taken : (result : Result ℕ Failed) → ReadsSource old new buffer filled result → IfOk result (λ n. Some old.left ≡ Some (take n filled ++ new.left))
  source_taken (Ok n) h =
      ap Some (moved_all old.left buffer filled n (omega (arith, h.count)) h.moved ∙ ap (λ (i : SourceState). take n filled ++ i.left) (sym h.after))
  source_taken (Err fault) h = tt

  pub source_rest : (result : Result ℕ Failed) → ReadsSource old new buffer filled result → IfOk result (λ n. drop n filled ≡ drop n buffer)
  source_rest (Ok n) h = moved_rest old.left buffer filled n (omega (arith, h.count)) h.moved
  source_rest (Err fault) h = tt

  pub source_end : (result : Result ℕ Failed) → ReadsSource old new buffer filled result → IfOk result (λ n. 0 < length buffer → (n ≡ 0) ↔ (old.left ≡ []))
  source_end (Ok n) h = λ room. (λ e. nil_from_length old.left (omega (arith, h.count, h.cut)), λ e. omega (arith, h.count, ap length e))
  source_end (Err fault) h = tt

  pub source_kept : (result : Result ℕ Failed) → ReadsSource old new buffer filled result → OnErr result (Some new.left ≡ Some old.left)
  source_kept (Ok n) h = tt
  source_kept (Err fault) h = ap (λ (i : SourceState). Some i.left) h.after

  pub source_cause : (result : Result ℕ Failed) → ReadsSource old new buffer filled result → HasCause old.calls.faults new.calls.faults result
  source_cause (Ok n) h = HasCause-kept old.calls.faults new.calls.faults n (ap (λ (i : SourceState). i.calls.faults) h.after)
  source_cause (Err fault) h = HasCause-raised old.calls.faults new.calls.faults fault (ap (λ (i : SourceState). i.calls.faults) h.after)
