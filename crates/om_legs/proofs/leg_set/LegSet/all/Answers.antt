use Rattle.om_legs.proofs.Operations.{IsLegSet-all, all_legs-shifted}
use Rattle.om_legs.proofs.leg_set.LegSet.all.Goals as goal

pub invariant_of-result : goal.invariant_of-result
invariant_of-result c = IsLegSet-all c.args.n c.requires.within

pub returns : goal.returns
returns c = all_legs-shifted c.args.n c.requires.within
