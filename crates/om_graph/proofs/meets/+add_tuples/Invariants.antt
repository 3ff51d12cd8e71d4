use Rattle.std.proofs.Common.{◌≡◌, ◌++◌, ◌∷◌, ◌-◌, [], flat_map, ◌≤◌, length}
use Rattle.om_graph.specs.declared.Key.{Key}
use Rattle.om_graph.specs.Caches.{counts_from}
use Rattle.om_graph.specs.Fillings.{AreFillings}
use Rattle.om_graph.specs.Loops.{chosen_nodes, meet_by}
use Rattle.om_graph.specs.Reactions.{reaction_in}
use Rattle.om_graph.specs.Tuples.{met_from}
use Rattle.om_graph.proofs.meets.+add_tuples.Given as goal

abbrev pub decreases-add_tuples : goal.decreases-add_tuples
decreases-add_tuples g l = length l.parts.now

abbrev pub invariant-loop-node : goal.invariant-loop-node
invariant-loop-node g l = record {
  all : g.N.Meets.seen l.found ≡ g.N.Meets.seen l.initial.found ++ flat_map (λ n. met_from (λ (k : Key). k.legs) (meet_by (reaction_in l.reaction) g.N.Meets.closing (g.N.Meets.made (reaction_in l.reaction))) (g.N.Meets.keys l.nodes) (chosen_nodes l.chosen ++ n ∷ []) l.more) (counts_from l.initial.node (l.node - l.initial.node));
  fits : length (g.N.Meets.seen l.initial.found) ≤ l.limit → length (g.N.Meets.seen l.found) ≤ l.limit;
  from : l.initial.node ≤ l.node;
  cached : AreFillings (reaction_in l.reaction) g.N.Meets.closing l.fillings;
}
