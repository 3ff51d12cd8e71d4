use Rattle.std.proofs.Common.{◌≡◌, ◌≤◌, ◌+◌, ◌*◌, ℕ, List}
use Rattle.om_io.specs.Bytes.{before_told}
use Rattle.om_event.specs.Kinds.{HasKinds}
use Rattle.om_event.proofs.EventSteps.{IsReading}
use Rattle.om_event.proofs.reader.read_event.Given as goal

abbrev pub invariant-loop-kind : goal.invariant-loop-kind
invariant-loop-kind g l =
    let left = g.S.Source.left in
    record {
      leg_is : l.leg ≡ l.kind-index;
      made : HasKinds l.kinds l.event;
      later : g.S.Source.faults l.fn.input ≤ g.S.Source.faults l.input;
      at_most : l.steps ≤ l.fn.steps + l.kind-index * (32 * g.R.Ring.cost l.ring);
      read : (came : List ℕ) × (left l.fn.input ≡ before_told came (left l.input))
          × IsReading (g.R.Ring.ops l.ring) l.kinds l.fn.hold l.hold l.kind-index l.event came
          × (l.kind-index ≡ 0 → l.steps ≡ l.fn.steps);
    }
