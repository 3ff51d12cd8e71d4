-- A canonical graph can be built node by node.
use Rattle.std.proofs.Common.{◌≡◌, ℕ, ◌<◌, List, Bool, refl, Some, slice_get}
use Rattle.std.proofs.lemmas.Option.{slice_get_within}
use Rattle.om_ring.specs.Members.{In}
use Rattle.om_model.specs.Order.{IsOrder}
use Rattle.om_model.specs.Tree.{Tree}
use Rattle.om_model.specs.Tree.Tree.{leaf, join}
use Rattle.om_graph.specs.Fusion.{Fusion, HasKey}
use Rattle.om_keystone.specs.InDiagrams.{TermOf, InDiagram}
use Rattle.om_keystone.proofs.Reaching.{Reached, IsSettled}
use Rattle.om_keystone.proofs.Reaching.Reached.{from_term}
use Rattle.om_graph.specs.Graph.{Numbered}
use Rattle.om_keystone.specs.CanonicalGraph.{IsCanonicalGraph}
use Rattle.om_keystone.proofs.Reaching.{BranchesFirst, IsBuiltUp}
use Rattle.om_keystone.proofs.KeyedAnswer.{IsInner}
use Rattle.om_keystone.proofs.Numbers.{at_of, of_at, at_number, at_all, number_less}
use Rattle.om_graph.proofs.SetNodes.{in_by_number}
use Rattle.om_keystone.proofs.Reached.{prune_is_exact}

module _ {K F : Type 0} (p : Fusion K F) (lt : K → K → Bool) (order : IsOrder lt) (before : F → F → Bool) (rank : K → ℕ) (ok : IsSettled p rank) (first : BranchesFirst p lt)
    (ns : List K) (ts ys : List Numbered) (ws : List F) (graph : IsCanonicalGraph p lt before ns ts ys ws) where
  lower : (x : Numbered) → In x ts → (n : ℕ) → In n x.branches → n < x.made
  lower x i n j =
      let m = (graph.terms x).0 i in
      let b = at_number n (at_of ns x.branches m.branches m.are_branches) j in
      number_less lt order ns graph.nodes_rise n x.made b.0 m.node b.1 m.is_node (first m.met.field x.vertex x.choice m.branches m.node b.0 m.met.fuse b.2)

  reached_in : (k : K) → Reached p k → In k ns
  reached_in k r = (graph.nodes k).1 (((prune_is_exact p ok.has_field rank ok).nodes k).1 r)

  made_of : (n : ℕ) (k : K) → slice_get ns n ≡ Some k → IsInner p k → (t : Tree) → InDiagram p t → HasKey p t k → (x : Numbered) × In x ts × (x.made ≡ n)
  unfolding HasKey
  made_of n k e inner (leaf j) d h = absurd (inner j h.0 h.1 h.2)
  made_of n k e inner (join f v c bs) d h =
      let term : TermOf K = record { node = k; vertex = v; choice = c; branches = h.0 } in
      let exact = prune_is_exact p ok.has_field rank ok in
      let q = (exact.terms term).0 (record { field = f; branches = bs; in_diagram = d; have = h.1; fuse = h.2 }) in
      let b = at_all ns h.0 (λ j i. reached_in j (from_term term q.0 q.1 i)) in
      let x : Numbered = record { made = n; vertex = v; choice = c; branches = b.0 } in
      (x, (graph.terms x).1 (record { node = k; branches = h.0; is_node = e; are_branches = of_at b.1; met = (exact.terms term).1 q }), refl)

  pub is_built_up : IsBuiltUp p (IsInner p) ns ts ys ws
  is_built_up = record {
    lower = lower;
    made = λ n k e inner. let d = (graph.nodes k).0 (in_by_number ns n k e) in made_of n k e inner d.0 d.1 d.2;
    within = λ x i. let m = (graph.terms x).0 i in slice_get_within ns x.made m.node m.is_node;
    keys_within = λ y i n j. let m = (graph.keys y).0 i in let b = at_number n (at_of ns y.branches m.branches m.are_branches) j in slice_get_within ns n b.0 b.1;
    flows_within = λ y i. let m = (graph.keys y).0 i in slice_get_within ws y.made m.flow m.is_flow;
  }
