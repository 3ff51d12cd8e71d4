-- A sink in memory: what its exact behaviour gives of the clauses of its trait.
use Rattle.std.proofs.Common.{◌≡◌, ℕ, ◌<◌, ◌≤◌, false, ◌&&◌, inl, inr, ltb, leb, List, ◌++◌, length, take, Some, IfOk, OnErr, Result, Ok, Err, ap, arith}
use Rattle.std.proofs.lemmas.Bool.{and_cases, leb-false, ltb-false, or_parts}
use Rattle.om_io.specs.Causes.{HasCause}
use Rattle.om_io.specs.InMemory.{next_fails, SinkState, write_fails, WritesSink}
use Rattle.om_io.specs.declared.Failed.{Failed}
use Rattle.om_io.proofs.Counts.{HasCause-kept, HasCause-raised}

-- where a write of some byte passes, there is room for it
has_room : (sink : SinkState) (piece : List ℕ) → write_fails sink piece ≡ false → 0 < length piece → length sink.written < sink.room
has_room sink piece h some =
    let parts = or_parts (next_fails sink.calls) (ltb 0 (length piece) && leb sink.room (length sink.written)) h in
    elim (and_cases (ltb 0 (length piece)) (leb sink.room (length sink.written)) parts.1) [
      | inl none ↦ absurd (omega (arith, ltb-false 0 (length piece) none))
      | inr room ↦ leb-false sink.room (length sink.written) room
    ]

module _ (old new : SinkState) (piece : List ℕ) where
  pub sink_count : (result : Result ℕ Failed) → WritesSink old new piece result → IfOk result (λ n. n ≤ length piece)
  sink_count (Ok n) h = omega (arith, h.count)
  sink_count (Err fault) h = tt

  pub sink_some : (result : Result ℕ Failed) → WritesSink old new piece result → IfOk result (λ n. 0 < length piece → 0 < n)
  sink_some (Ok n) h = λ some. omega (arith, h.count, has_room old piece h.passes some)
  sink_some (Err fault) h = tt

  pub sink_appended : (result : Result ℕ Failed) → WritesSink old new piece result → IfOk result (λ n. Some new.written ≡ Some (old.written ++ take n piece))
  sink_appended (Ok n) h = ap (λ (o : SinkState). Some o.written) h.after
  sink_appended (Err fault) h = tt

  pub sink_kept : (result : Result ℕ Failed) → WritesSink old new piece result → OnErr result (Some new.written ≡ Some old.written)
  sink_kept (Ok n) h = tt
  sink_kept (Err fault) h = ap (λ (o : SinkState). Some o.written) h.after

  pub sink_cause : (result : Result ℕ Failed) → WritesSink old new piece result → HasCause old.calls.faults new.calls.faults result
  sink_cause (Ok n) h = HasCause-kept old.calls.faults new.calls.faults n (ap (λ (o : SinkState). o.calls.faults) h.after)
  sink_cause (Err fault) h = HasCause-raised old.calls.faults new.calls.faults fault (ap (λ (o : SinkState). o.calls.faults) h.after)
