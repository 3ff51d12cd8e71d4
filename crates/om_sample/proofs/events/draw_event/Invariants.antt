use Rattle.std.proofs.Common.{◌≡◌, ◌≤◌, ◌+◌, ◌*◌, ◌-◌}
use Rattle.om_code.specs.declared.code.Code.{Code}
use Rattle.om_machine.specs.Events.{IsMadeFor}
use Rattle.om_sample.specs.Generator.{state_after}
use Rattle.om_sample.proofs.Drawn.{IsDrawn}
use Rattle.om_sample.proofs.events.draw_event.Given as goal

abbrev pub invariant-loop-leg : goal.invariant-loop-leg
invariant-loop-leg g l = record {
  low : 1 ≤ l.leg;
  high : l.leg ≤ l.legs;
  state : l.generator.state ≡ state_after l.fn.generator.state (5 * (l.leg - 1));
  drawn : IsDrawn (g.R.Ring.ops l.ring) l.fn.generator.state l.legs (l.leg - 1) l.event l.sum;
  made : (c : Code) → IsMadeFor c l.fn.event → IsMadeFor c l.event;
  at_most : l.steps ≤ l.fn.steps + (l.leg - 1) * (4 * g.R.Ring.cost l.ring);
}
