use Rattle.om_legs.proofs.Operations.{minus-bit_and}
use Rattle.om_legs.proofs.leg_set.LegSet.minus.Goals as goal

pub returns-clause-legs : goal.returns-clause-legs
returns-clause-legs c = rw (← c.self.view_is, ← c.b.view_is) (minus-bit_and c.self.inside.bits c.b.inside.bits c.self.invariant c.b.invariant)
