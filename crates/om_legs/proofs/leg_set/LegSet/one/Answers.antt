use Rattle.om_legs.proofs.Operations.{IsLegSet-one, set_of_one-shifted}
use Rattle.om_legs.proofs.leg_set.LegSet.one.Goals as goal

pub invariant_of-result : goal.invariant_of-result
invariant_of-result c = IsLegSet-one c.args.leg c.requires.some c.requires.within

pub returns : goal.returns
returns c = set_of_one-shifted c.args.leg c.requires.some c.requires.within
