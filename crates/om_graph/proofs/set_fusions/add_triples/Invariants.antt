use Rattle.std.proofs.Common.{◌≡◌, ◌++◌, map, flat_map, ◌≤◌, length, false}
use Rattle.om_graph.specs.Fillings.{AreFillings}
use Rattle.om_graph.specs.Loops.{fused_seen, meet_fused, met_parts}
use Rattle.om_graph.specs.Reactions.{reaction_in}
use Rattle.om_graph.proofs.set_fusions.add_triples.Given as goal

abbrev pub invariant-loop-parts : goal.invariant-loop-parts
invariant-loop-parts l = record {
  all : map fused_seen l.found.items ≡ map fused_seen l.initial.found.items ++ flat_map (met_parts (reaction_in l.reaction) (meet_fused (reaction_in l.reaction)) l.nodes l.rest) l.yielded;
  fits : length (map fused_seen l.initial.found.items) ≤ l.limit → length (map fused_seen l.found.items) ≤ l.limit;
  cached : AreFillings (reaction_in l.reaction) false l.fillings;
}
