use Rattle.std.proofs.Common.{◌∙◌, ap, sym, arith}
use Rattle.om_legs.specs.Legs.{least}
use Rattle.om_legs.proofs.LegLists.{least-empty, least-trailing_zeros}
use Rattle.om_legs.proofs.leg_set.LegSet.least.Goals as goal

pub returns-then-self-eq0-clause-leg : goal.returns-then-self-eq0-clause-leg
returns-then-self-eq0-clause-leg c = rw (← c.self.view_is) (sym (ap least c.if-self-eq0.true ∙ least-empty))

pub returns-else-self-eq0-clause-leg : goal.returns-else-self-eq0-clause-leg
returns-else-self-eq0-clause-leg c = rw (← c.self.view_is) (sym (least-trailing_zeros c.self.inside.bits (omega arith) c.self.invariant))
