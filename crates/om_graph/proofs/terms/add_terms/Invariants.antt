use Rattle.std.proofs.Common.{◌≡◌, ℕ, List, ◌++◌, map, take}
use Rattle.std.specs.Prelude.{All}
use Rattle.om_graph.specs.Caches.{StandLast}
use Rattle.om_graph.specs.declared.Key.{Key}
use Rattle.om_graph.specs.declared.fusions.Fused.{Fused}
use Rattle.om_graph.specs.Loops.{fused_found}
use Rattle.om_graph.specs.Possible.{key_lt, state_of}
use Rattle.om_graph.specs.Search.{add_all}
use Rattle.om_graph.specs.SetWalk.{HasFoundSign, HaveSigns}
use Rattle.om_graph.specs.Vertices.{Reaction}
use Rattle.om_graph.proofs.terms.add_terms.Given as goal

abbrev pub invariant-loop-one : goal.invariant-loop-one
invariant-loop-one l = record {
  state : state_of l.nodes l.terms ≡ add_all key_lt (state_of l.initial.nodes l.initial.terms) (map fused_found (take l.one-index l.found));
  over : (set : ℕ) × StandLast l.nodes set × All (λ (x : Fused). x.key.legs ≡ set) l.found;
  grown : (ys : List Key) × (l.nodes ≡ l.initial.nodes ++ ys);
  signs : (r : Reaction) → HaveSigns r l.initial.nodes l.initial.terms → All (HasFoundSign r l.initial.nodes) l.found → HaveSigns r l.nodes l.terms;
}
