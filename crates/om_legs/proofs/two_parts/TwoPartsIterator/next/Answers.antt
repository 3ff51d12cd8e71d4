use Rattle.std.proofs.Common.{◌≡◌, [], length, ap, sym, ◌∙◌, rules}
use Rattle.std.proofs.lemmas.Bool.{eqb-true}
use Rattle.om_legs.specs.Walks.{pairs_left}
use Rattle.om_legs.proofs.Pairs.{pairs_left-end, pairs_left-step}
use Rattle.om_legs.proofs.two_parts.TwoPartsIterator.next.Goals as goal

pub returns-then-eq-clause-steps : goal.returns-then-eq-clause-steps
returns-then-eq-clause-steps c =
    let none : c.args.self.now ≡ [] = sym c.self.view_is ∙ ap (pairs_left c.self.inside.set c.self.inside.rest) (eqb-true c.self.inside.second c.empty.result (sym c.eq.ensures ∙ c.if-eq.true) ∙ c.empty.ensures) ∙ pairs_left-end c.self.inside.set c.self.inside.rest in
    (none, none)

pub returns-clause-steps : goal.returns-clause-steps
returns-clause-steps c = rw (c.minus.ensures.legs) (sym c.self.view_is ∙ pairs_left-step c.self.inside.set c.self.inside.rest c.self.inside.second c.subset_before-self-inside.result c.subset_before-self-inside.ensures.next)

pub returns-clause-goes : goal.returns-clause-goes
returns-clause-goes c =
    let step = sym c.self.view_is ∙ pairs_left-step c.self.inside.set c.self.inside.rest c.self.inside.second c.subset_before-self-inside.result c.subset_before-self-inside.ensures.next in
    let shorter = ap length step in
    search rules
