use Rattle.std.proofs.Common.{◌≡◌, ◌≤◌, ◌+◌, ◌*◌, length}
use Rattle.om_machine.specs.Bound.{part}
use Rattle.om_machine.specs.Events.{IsMadeFor}
use Rattle.om_machine.specs.Machines.{table_of}
use Rattle.om_sample.specs.Generator.{state_after}
use Rattle.om_sample.specs.Events.{IsOfScalars, draws_of_event, sample_event}
use Rattle.om_sample.specs.Sums.{AddUpTo, CodeGives}
use Rattle.om_sample.proofs.sums.sum_sample.Given as goal

abbrev pub invariant-loop-event : goal.invariant-loop-event
invariant-loop-event g l =
    let o = g.R.Ring.ops l.ring in
    let c = l.fn.machine.code in
    let legs = length c.legs in
    record {
      code : l.machine.code ≡ c;
      factors : l.machine.factors ≡ l.fn.machine.factors;
      masses : l.machine.masses ≡ l.fn.machine.masses;
      made : IsMadeFor c l.event;
      scalars : IsOfScalars legs l.event;
      state : l.generator.state ≡ state_after l.fn.seed (l._event * draws_of_event legs);
      few : l.sums.poles ≤ l._event;
      sums : AddUpTo o (CodeGives o c (table_of o l.fn.machine)) (sample_event o l.fn.seed legs) l._event l.sums.poles l.sums.total;
      at_most : l.steps ≤ l.fn.steps + l._event * ((part c + 4 * legs + length c.flows + 1) * g.R.Ring.cost l.ring);
    }
