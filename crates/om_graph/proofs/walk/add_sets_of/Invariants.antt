use Rattle.std.proofs.Common.{◌-◌, ◌≤◌, flat_map, false}
use Rattle.om_graph.specs.Caches.{counts_from}
use Rattle.om_graph.specs.Fillings.{AreFillings}
use Rattle.om_graph.specs.Reactions.{reaction_in}
use Rattle.om_graph.specs.SetSearch.{set_at}
use Rattle.om_graph.specs.SetWalk.{HasWalked}
use Rattle.om_graph.proofs.walk.add_sets_of.Given as goal

abbrev pub invariant-loop-number : goal.invariant-loop-number
invariant-loop-number l = record {
  walked : HasWalked (reaction_in l.reaction) l.initial.nodes l.initial.terms (flat_map (set_at (reaction_in l.reaction).scattering.size l.legs) (counts_from 1 (l.number - 1))) l.nodes l.terms;
  from : 1 ≤ l.number;
  cached : AreFillings (reaction_in l.reaction) false l.fillings;
}
