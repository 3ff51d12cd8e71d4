use Rattle.om_graph.proofs.HaveReactions.{well_formed_have_reactions}
use Rattle.om_graph.proofs.laws.well_formed_have_reactions.Goals as goal

pub returns : goal.returns
returns c = well_formed_have_reactions
