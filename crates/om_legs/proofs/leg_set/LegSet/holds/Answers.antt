use Rattle.om_legs.proofs.Operations.{holds-shifted}
use Rattle.om_legs.proofs.leg_set.LegSet.holds.Goals as goal

pub returns-clause-leg : goal.returns-clause-leg
returns-clause-leg c = rw (← c.self.view_is) (holds-shifted c.self.inside.bits c.args.leg c.requires.some)
