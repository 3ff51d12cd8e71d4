use Rattle.std.proofs.Common.{◌-◌, ◌<◌}
use Rattle.om_legs.specs.Legs.{IsSubset}
use Rattle.om_legs.proofs.Subsets.{IsSubset-bit_and, subsets_down-step}
use Rattle.om_legs.proofs.leg_set.LegSet.subset_before.Goals as goal

pub returns-clause-subset : goal.returns-clause-subset
returns-clause-subset c = rw (← c.whole.view_is) (IsSubset-bit_and (c.self.inside.bits - 1) c.whole.inside.bits c.whole.invariant)

pub returns-clause-next : goal.returns-clause-next
returns-clause-next c =
    let some : 0 < c.self.inside.bits = rw (c.self.view_is) c.requires.some in
    let subset : IsSubset c.self.inside.bits c.whole.inside.bits = rw (c.self.view_is, c.whole.view_is) c.requires.subset in
    rw (← c.self.view_is, ← c.whole.view_is) (subsets_down-step c.whole.inside.bits c.self.inside.bits some c.self.invariant subset)
