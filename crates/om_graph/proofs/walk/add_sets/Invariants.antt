use Rattle.std.proofs.Common.{◌-◌, ◌≤◌, flat_map, false}
use Rattle.om_graph.specs.Caches.{counts_from}
use Rattle.om_graph.specs.Fillings.{AreFillings}
use Rattle.om_graph.specs.Reactions.{reaction_in}
use Rattle.om_graph.specs.SetSearch.{sets_of_size}
use Rattle.om_graph.specs.SetWalk.{HasWalked}
use Rattle.om_graph.proofs.walk.add_sets.Given as goal

abbrev pub invariant-loop-legs : goal.invariant-loop-legs
invariant-loop-legs l = record {
  walked : HasWalked (reaction_in l.reaction) l.initial.nodes l.initial.terms (flat_map (sets_of_size (reaction_in l.reaction).scattering.size) (counts_from 2 (l.legs - 2))) l.nodes l.terms;
  from : 2 ≤ l.legs;
  cached : AreFillings (reaction_in l.reaction) false l.fillings;
}
