use Rattle.std.proofs.Common.{ℕ, List, sym, subst}
use Rattle.om_graph.specs.Loops.{CanMeetFrom}
use Rattle.om_graph.specs.Reactions.{reaction_in}
use Rattle.om_graph.proofs.set_fusions.add_split.Goals as goal

pub add_tuples-requires-clause-fit : goal.add_tuples-requires-clause-fit
add_tuples-requires-clause-fit c = subst (λ (is : List ℕ). CanMeetFrom (reaction_in c.args.reaction.now) c.args.nodes.now is c.args.parts.now) (sym c.new-none.ensures.nodes) c.requires.join
