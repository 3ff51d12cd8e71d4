use Rattle.om_legs.proofs.Operations.{IsLegSet-or, union-bit_or}
use Rattle.om_legs.proofs.leg_set.LegSet.union.Goals as goal

pub invariant_of-result : goal.invariant_of-result
invariant_of-result c = IsLegSet-or c.self.inside.bits c.b.inside.bits c.self.invariant c.b.invariant

pub returns-clause-legs : goal.returns-clause-legs
returns-clause-legs c = rw (← c.self.view_is, ← c.b.view_is) (union-bit_or c.self.inside.bits c.b.inside.bits c.self.invariant c.b.invariant)
