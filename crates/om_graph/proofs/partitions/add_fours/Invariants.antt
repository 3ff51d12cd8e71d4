use Rattle.std.proofs.Common.{◌≡◌, ◌++◌, flat_map, ◌≤◌, length, true}
use Rattle.om_graph.specs.Fillings.{AreFillings}
use Rattle.om_graph.specs.Loops.{meet_closed, met_partition}
use Rattle.om_graph.specs.Reactions.{reaction_in}
use Rattle.om_graph.proofs.partitions.add_fours.Given as goal

abbrev pub invariant-loop-parts : goal.invariant-loop-parts
invariant-loop-parts l = record {
  all : l.found ≡ l.initial.found ++ flat_map (met_partition (reaction_in l.reaction) (meet_closed (reaction_in l.reaction)) l.nodes) l.yielded;
  fits : length l.initial.found ≤ l.limit → length l.found ≤ l.limit;
  cached : AreFillings (reaction_in l.reaction) true l.fillings;
}
