use Rattle.std.proofs.Common.{List, ℕ, sym, subst}
use Rattle.om_graph.specs.Reactions.{reaction_in}
use Rattle.om_graph.specs.SetSearch.{set_at}
use Rattle.om_graph.specs.SetWalk.{CanWalk, HasWalked, Walks}
use Rattle.om_graph.proofs.WalkSteps.{is_at, none_at, none_walked}
use Rattle.om_graph.proofs.walk.add_numbered.Goals as goal

pub add_set-requires-clause-can : goal.add_set-requires-clause-can
add_set-requires-clause-can c =
    subst (CanWalk (reaction_in c.args.reaction.now) c.args.nodes.now c.args.terms.now)
    (sym (is_at (reaction_in c.args.reaction.now).scattering.size c.size.result c.args.legs c.args.number c.from_number-set.result c.is_among.result c.from_number-set.ensures c.size.ensures.size c.is_among.ensures c.if-is_among.true)) c.requires.can

pub returns-then-is_among-clause-walks : goal.returns-then-is_among-clause-walks
returns-then-is_among-clause-walks c =
    subst (λ (ss : List ℕ). Walks (reaction_in c.args.reaction.now) c.args.nodes.now c.args.terms.now ss c.add_set.new.nodes c.add_set.new.terms c.add_set.result)
    (is_at (reaction_in c.args.reaction.now).scattering.size c.size.result c.args.legs c.args.number c.from_number-set.result c.is_among.result c.from_number-set.ensures c.size.ensures.size c.is_among.ensures c.if-is_among.true) c.add_set.ensures.walks

pub returns-else-is_among-clause-walks : goal.returns-else-is_among-clause-walks
returns-else-is_among-clause-walks c =
    subst (λ (ss : List ℕ). HasWalked (reaction_in c.args.reaction.now) c.args.nodes.now c.args.terms.now ss c.args.nodes.now c.args.terms.now)
    (none_at (reaction_in c.args.reaction.now).scattering.size c.size.result c.args.legs c.args.number c.from_number-set.result c.is_among.result c.from_number-set.ensures c.size.ensures.size c.is_among.ensures c.if-is_among.false)
    (none_walked (reaction_in c.args.reaction.now) c.args.nodes.now c.args.terms.now (set_at (reaction_in c.args.reaction.now).scattering.size c.args.legs c.args.number) c.requires.can)
