use Rattle.std.proofs.Common.{◌≡◌, ◌≤◌, ◌∙◌, ap, sym, subst}
use Rattle.om_legs.specs.Walks.{without_least}
use Rattle.om_legs.proofs.Least.{least-le-12, least-zero, without_least-empty}
use Rattle.om_legs.proofs.leg_set.LegSet.without_least.Goals as goal

pub one-requires-clause-within : goal.one-requires-clause-within
one-requires-clause-within c = subst (λ leg. leg ≤ 12) (sym c.least.ensures.leg) (least-le-12 c.args.self c.least.ensures.valid)

pub returns-in-0-clause-legs : goal.returns-in-0-clause-legs
returns-in-0-clause-legs c =
    let empty : c.args.self ≡ 0 = least-zero c.args.self c.least.ensures.valid (sym c.least.ensures.leg ∙ c.in-0.is) in
    empty ∙ sym (ap without_least empty ∙ without_least-empty)
