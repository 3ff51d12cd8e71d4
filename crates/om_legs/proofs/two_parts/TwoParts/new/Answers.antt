use Rattle.std.proofs.Common.{sym, subst}
use Rattle.om_legs.specs.Legs.{IsLegSet, least, set_of_one}
use Rattle.om_legs.proofs.Operations.{IsLegSet-minus}
use Rattle.om_legs.proofs.Least.{IsSubset-refl}
use Rattle.om_legs.proofs.two_parts.TwoParts.new.Goals as goal

pub invariant_of-result : goal.invariant_of-result
invariant_of-result c =
    let set = c.args.set in
    IsSubset-refl c.without_least-rest.result (subst IsLegSet (sym c.without_least-rest.ensures.legs) (IsLegSet-minus set (set_of_one (least set))))
