use Rattle.om_legs.proofs.Operations.{Meet-from_bits, bits_from_Meet}
use Rattle.om_legs.proofs.leg_set.LegSet.meets.Goals as goal

pub returns-clause-leg : goal.returns-clause-leg
returns-clause-leg c = rw (← c.self.view_is, ← c.b.view_is) (Meet-from_bits c.self.inside.bits c.b.inside.bits c.self.invariant, bits_from_Meet c.self.inside.bits c.b.inside.bits)
