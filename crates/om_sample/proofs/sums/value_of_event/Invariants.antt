use Rattle.std.proofs.Common.{◌≡◌, ◌≤◌, ◌+◌, ◌*◌, take}
use Rattle.om_ring.specs.Sums.{sum_list}
use Rattle.om_sample.proofs.sums.value_of_event.Given as goal

abbrev pub invariant-loop-flow : goal.invariant-loop-flow
invariant-loop-flow g l = record {
  value : l.value ≡ sum_list (g.R.Ring.ops l.ring) (take l.flow l.machine.sums);
  at_most : l.steps ≤ l.fn.steps + l.flow * g.R.Ring.cost l.ring;
}
