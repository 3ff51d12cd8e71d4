use Rattle.om_legs.proofs.LegLists.{count_ones-size}
use Rattle.om_legs.proofs.leg_set.LegSet.size.Goals as goal

pub returns-clause-count : goal.returns-clause-count
returns-clause-count c = rw (← c.self.view_is) (count_ones-size c.self.inside.bits c.self.invariant)
