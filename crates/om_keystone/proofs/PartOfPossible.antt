-- What the canonical graph has stands in the possible graph.
use Rattle.std.proofs.Common.{◌≡◌, ap, sym, ◌∙◌}
use Rattle.std.specs.Prelude.{Some, slice_get}
use Rattle.om_ring.specs.Members.{In}
use Rattle.om_legs.specs.Legs as sets
use Rattle.om_model.specs.FermionLines.{Kinds}
use Rattle.om_model.specs.ModelLines.{kinds_of}
use Rattle.om_ring.proofs.Members.{in_map, in_mapped}
use Rattle.om_graph.specs.declared.Graph.{Graph}
use Rattle.om_graph.specs.declared.Key.{Key}
use Rattle.om_graph.specs.declared.KeyTerm.{KeyTerm}
use Rattle.om_graph.specs.declared.Term.{Term}
use Rattle.om_graph.specs.Fusion.{IsNode}
use Rattle.om_graph.specs.Graph.{at_numbers, Numbered}
use Rattle.om_graph.specs.Possible.{IsPossible, unsigned, unsigned_key}
use Rattle.om_legs.specs.BranchNodes.{nodes_of}
use Rattle.om_graph.specs.Reactions.{reaction_of}
use Rattle.om_graph.specs.TreeKeys.{IsReaction}
use Rattle.om_graph.specs.Vertices.{Reaction, fusion, fused_minus, closed_minus}
use Rattle.om_graph.proofs.HaveReactions.{well_formed_have_reactions}
use Rattle.om_keystone.specs.CanonicalGraph.{IsCanonicalOf}
use Rattle.om_keystone.specs.Laws.{CanonicalIsPartOfPossible}
use Rattle.om_keystone.specs.PartOf.{StandsIn, KeyStandsIn}
use Rattle.om_keystone.proofs.Numbers.{of_at, at_all}
use Rattle.om_graph.proofs.SetNodes.{number_of, in_by_number}
use Rattle.om_keystone.proofs.Reached.{node_among, prune_is_exact}
use Rattle.om_keystone.proofs.Reaching.{PruneIsExact}
use Rattle.om_keystone.proofs.Settled.{is_settled, has_signs}

module _ (r : Reaction) (kinds : Kinds) (is : IsReaction r kinds) (g : Graph) (canonical : IsCanonicalOf r g) (whole : Graph) (possible : IsPossible r whole) where
  exact : PruneIsExact (fusion r)
  exact = prune_is_exact (fusion r) (is_settled r kinds is).has_field (λ (k : Key). sets.size k.legs) (is_settled r kinds is)

  node_of : (k : Key) → In k g.nodes → IsNode (fusion r) k
  node_of k i = let d = (canonical.graph.nodes k).0 i in (d.0, d.2)

  term_stands : (x : Term) → In x g.terms → StandsIn whole g x
  term_stands x i =
      let met = (canonical.graph.terms (unsigned x)).0 (in_map unsigned x g.terms i) in
      let term = ((exact.terms (record { node = met.node; vertex = x.vertex; choice = x.choice; branches = met.branches })).0 met.met).0 in
      let n = number_of met.node whole.nodes ((possible.graph.nodes met.node).1 (node_of met.node (in_by_number g.nodes x.node met.node met.is_node))) in
      let bs = at_all whole.nodes met.branches (λ k j. (possible.graph.nodes k).1 (node_among (fusion r) met.branches k term.0 j)) in
      let z : Numbered = record { made = n.0; vertex = x.vertex; choice = x.choice; branches = bs.0 } in
      let y = in_mapped unsigned z whole.terms ((possible.graph.terms.members z).1 (record { node = met.node; branches = met.branches; is_node = n.1; are_branches = of_at bs.1; fuse = term.1 })) in
      let node : slice_get whole.nodes y.0.node ≡ Some met.node = ap (λ (u : Numbered). slice_get whole.nodes u.made) (sym y.2) ∙ n.1 in
      let branches : at_numbers whole.nodes (nodes_of y.0.branches) ≡ Some met.branches = ap (λ (u : Numbered). at_numbers whole.nodes u.branches) (sym y.2) ∙ of_at bs.1 in
      let vertex : x.vertex ≡ y.0.vertex = ap (λ (u : Numbered). u.vertex) y.2 in
      record {
        term = y.0;
        is_term = y.1;
        node = met.is_node ∙ sym node;
        minus = canonical.signs.signs x met.node met.branches i met.is_node met.are_branches
            ∙ ap (λ v. fused_minus r met.node.field v met.node.legs met.branches) vertex
            ∙ sym ((has_signs r whole possible).signs y.0 met.node met.branches y.1 node branches);
        vertex = vertex;
        choice = ap (λ (u : Numbered). u.choice) y.2;
        branches = met.are_branches ∙ sym branches;
      }

  key_stands : (y : KeyTerm) → In y g.keys → KeyStandsIn whole g y
  key_stands y i =
      let met = (canonical.graph.keys (unsigned_key y)).0 (in_map unsigned_key y g.keys i) in
      let term = (exact.keys (record { flow = met.flow; vertex = y.vertex; choice = y.choice; branches = met.branches })).0 met.met in
      let m = number_of met.flow whole.flows ((possible.graph.flows met.flow).1 (y.vertex, y.choice, met.branches, term.0, term.1)) in
      let bs = at_all whole.nodes met.branches (λ k j. (possible.graph.nodes k).1 (node_among (fusion r) met.branches k term.0 j)) in
      let z : Numbered = record { made = m.0; vertex = y.vertex; choice = y.choice; branches = bs.0 } in
      let x = in_mapped unsigned_key z whole.keys ((possible.graph.keys z).1 (record { flow = met.flow; branches = met.branches; is_flow = m.1; are_branches = of_at bs.1; close = term.1 })) in
      let flow : slice_get whole.flows x.0.flow ≡ Some met.flow = ap (λ (u : Numbered). slice_get whole.flows u.made) (sym x.2) ∙ m.1 in
      let branches : at_numbers whole.nodes (nodes_of x.0.branches) ≡ Some met.branches = ap (λ (u : Numbered). at_numbers whole.nodes u.branches) (sym x.2) ∙ of_at bs.1 in
      let vertex : y.vertex ≡ x.0.vertex = ap (λ (u : Numbered). u.vertex) x.2 in
      record {
        key = x.0;
        is_key = x.1;
        flow = met.is_flow ∙ sym flow;
        minus = canonical.signs.key_signs y met.branches i met.are_branches
            ∙ ap (λ v. closed_minus r v met.branches) vertex
            ∙ sym ((has_signs r whole possible).key_signs x.0 met.branches x.1 branches);
        vertex = vertex;
        choice = ap (λ (u : Numbered). u.choice) x.2;
        branches = met.are_branches ∙ sym branches;
      }

pub canonical_is_part_of_possible : CanonicalIsPartOfPossible
canonical_is_part_of_possible m p formed is g canonical whole possible =
    let r = reaction_of m p in
    let reaction = well_formed_have_reactions m p formed is in
    record {
      nodes = λ k i. let d = (canonical.graph.nodes k).0 i in (possible.graph.nodes k).1 (d.0, d.2);
      terms = term_stands r (kinds_of m.particles) reaction g canonical whole possible;
      keys = key_stands r (kinds_of m.particles) reaction g canonical whole possible;
    }
