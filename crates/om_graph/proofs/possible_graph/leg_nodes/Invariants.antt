use Rattle.std.proofs.Common.{◌≡◌, ◌-◌, ◌≤◌, map}
use Rattle.om_graph.specs.Caches.{counts_from}
use Rattle.om_graph.specs.Reactions.{reaction_in}
use Rattle.om_graph.specs.Vertices.{leg_key}
use Rattle.om_graph.proofs.possible_graph.leg_nodes.Given as goal

abbrev pub invariant-loop-leg : goal.invariant-loop-leg
invariant-loop-leg l = (l.nodes ≡ map (leg_key (reaction_in l.reaction)) (counts_from 1 (l.leg - 1))) × (1 ≤ l.leg)
