use Rattle.std.proofs.Common.{◌≡◌, ◌++◌, flat_map, take, ◌≤◌, length}
use Rattle.om_graph.specs.Loops.{chosen_nodes}
use Rattle.om_graph.specs.declared.fillings.Filling.{Filling}
use Rattle.om_graph.specs.Reactions.{reaction_in}
use Rattle.om_graph.proofs.meets.add_meetings.Given as goal

abbrev pub invariant-loop-filling : goal.invariant-loop-filling
invariant-loop-filling g l = record {
  all : g.N.Meets.seen l.found ≡ g.N.Meets.seen l.initial.found ++ flat_map (λ (x : Filling). g.N.Meets.made (reaction_in l.reaction) (chosen_nodes l.chosen) l.keys x.meeting) (take l.filling-index l.fillings);
  fits : length (g.N.Meets.seen l.initial.found) ≤ l.limit → length (g.N.Meets.seen l.found) ≤ l.limit;
}
