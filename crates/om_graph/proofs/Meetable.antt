-- The colour lines of nodes fit wherever the search brings them together.
use Rattle.std.proofs.Common.{◌≡◌, ℕ, ◌<◌, List, [], ◌∷◌, length, true, ◌⊎◌, ap, sym, subst, ◌∙◌, Some}
use Rattle.std.proofs.lemmas.List.{length-map}
use Rattle.std.proofs.lemmas.Option.{same_Some}
use Rattle.om_ring.specs.Members.{In}
use Rattle.om_legs.specs.Legs.{IsLegSet, all_legs}
use Rattle.om_legs.specs.Splits.{IsSplit}
use Rattle.om_colour.specs.Partials.{no_hole, Fits}
use Rattle.om_model.specs.Diagram.{same_numbers}
use Rattle.om_model.specs.FermionLines.{Kinds}
use Rattle.om_model.proofs.Counting.{times_of_in}
use Rattle.om_graph.specs.declared.Key.{Key}
use Rattle.om_graph.specs.ColoursFit.{CanJoin}
use Rattle.om_graph.specs.Fusion.{AllNodes, IsNode}
use Rattle.om_graph.specs.Graph.{at_numbers}
use Rattle.om_graph.specs.Loops.{CanCloseAt, CanCloseFrom, CanJoinAt, CanMeet, CanMeetFrom}
use Rattle.om_graph.specs.TreeKeys.{IsReaction}
use Rattle.om_graph.specs.Vertices.{Reaction, fusion, sets_of, fields_of, union_of, fused_slots, closed_slots, slot_partials, hole_of, four_slots}
use Rattle.om_graph.proofs.ColoursFit.{nodes_join, nodes_close, four_partials}
use Rattle.om_graph.proofs.MeetingFields.{leaves, fills, fills_slot}
use Rattle.om_graph.proofs.SetNodes.{AllIn, all_in_by_numbers}
use Rattle.om_graph.proofs.SplitUnions.{union_is}
use Rattle.om_graph.proofs.Tuples.{tuple_from}

module _ (r : Reaction) where
  all_nodes_of : (ns ks : List Key) → ((k : Key) → In k ns → IsNode (fusion r) k) → AllIn ns ks → AllNodes (fusion r) ks
  all_nodes_of ns [] h i = tt
  all_nodes_of ns (k ∷ ks) h i = (h k i.0, all_nodes_of ns ks h i.1)

-- nodes that were chosen, one over each part, are nodes, and share out the set
record Chosen (r : Reaction) (n set : ℕ) (ks : List Key) : Type 0 where
  nodes : AllNodes (fusion r) ks
  counted : length ks ≡ n
  split : IsSplit (length ks) set (sets_of ks)

chosen : (r : Reaction) (ns : List Key) → ((k : Key) → In k ns → IsNode (fusion r) k) → (n set : ℕ) (parts js : List ℕ) (ks : List Key) → IsSplit n set parts
    → In js (Rattle.om_graph.specs.Tuples.tuples (λ (k : Key). k.legs) ns parts) → at_numbers ns js ≡ Some ks → Chosen r n set ks
chosen r ns h n set parts js ks split i e =
    let t = tuple_from (λ (k : Key). k.legs) ns parts js i in
    let q : sets_of ks ≡ parts = ap sets_of (same_Some ks t.keys (sym e ∙ t.are)) ∙ t.sets in
    let c : length ks ≡ n = sym (length-map ks (λ (k : Key). k.legs)) ∙ ap length q ∙ split.counted in
    record {
      nodes = all_nodes_of r ns ks h (all_in_by_numbers ns js ks e);
      counted = c;
      split = subst (λ m. IsSplit m set (sets_of ks)) (sym c) (subst (IsSplit n set) (sym q) split);
    }

module _ (r : Reaction) (kinds : Kinds) (is : IsReaction r kinds) (ns : List Key) (nodes : (k : Key) → In k ns → IsNode (fusion r) k) where
  joins : (n set : ℕ) (ks : List Key) → (n ≡ 2) ⊎ (n ≡ 3) → IsLegSet set → Chosen r n set ks → CanMeet r ks
  joins n set ks c w x m i =
      let l = leaves r (fields_of ks) m i in
      subst (CanJoinAt r ks m.vertex) (sym l.up) (λ choice lt. by l.left l.vertex l.slots choice lt)
    where
      two_or_three : (length ks ≡ 2) ⊎ (length ks ≡ 3)
      two_or_three = subst (λ k. (k ≡ 2) ⊎ (k ≡ 3)) (sym x.counted) c

      by : (g : ℕ) → m.vertex < r.scattering.theory.vertices → same_numbers (g ∷ fields_of ks) (r.scattering.theory.slots m.vertex) ≡ true → (choice : ℕ) → choice < r.scattering.theory.choices m.vertex
          → let slots = fused_slots r (r.scattering.theory.anti g) m.vertex (union_of (sets_of ks)) ks in CanJoin (slot_partials (four_slots slots)) (r.choice m.vertex choice) (hole_of slots)
      by g vertex slots choice lt =
          let f = r.scattering.theory.anti g in
          let there = fused_slots r f m.vertex (union_of (sets_of ks)) ks in
          let u : union_of (sets_of ks) ≡ set = union_is (length ks) set (sets_of ks) w x.split in
          subst (λ q. CanJoin q (r.choice m.vertex choice) (hole_of there)) (sym (four_partials there))
          (nodes_join r kinds is f m.vertex choice (union_of (sets_of ks)) ks (record {
            nodes = x.nodes;
            field = is.fields.antis g (is.fields.slots m.vertex g (times_of_in g (r.scattering.theory.slots m.vertex) (fills_slot g (fields_of ks) (r.scattering.theory.slots m.vertex) slots)));
            vertex = vertex;
            choice = lt;
            counted = two_or_three;
            split = subst (λ s. IsSplit (length ks) s (sets_of ks)) (sym u) x.split;
            slots = subst (λ a. same_numbers (a ∷ fields_of ks) (r.scattering.theory.slots m.vertex) ≡ true) (sym (is.fields.anti_anti g)) slots;
          }))

  pub can_meet : (n set : ℕ) (parts : List ℕ) → (n ≡ 2) ⊎ (n ≡ 3) → IsLegSet set → IsSplit n set parts → CanMeetFrom r ns [] parts
  can_meet n set parts c w split js ks i e = joins n set ks c w (chosen r ns nodes n set parts js ks split i e)

  closes : (n : ℕ) (ks : List Key) → (n ≡ 3) ⊎ (n ≡ 4) → Chosen r n (all_legs r.scattering.size) ks → CanCloseAt r ks
  closes n ks c x m i choice lt =
      let f = fills r (fields_of ks) m i in
      subst (λ q. Fits q (r.choice m.vertex choice) no_hole) (sym (four_partials (closed_slots r m.vertex ks)))
      (nodes_close r kinds is m.vertex choice ks (record {
        nodes = x.nodes;
        vertex = f.vertex;
        choice = lt;
        counted = subst (λ k. (k ≡ 3) ⊎ (k ≡ 4)) (sym x.counted) c;
        split = x.split;
        slots = f.slots;
      }))

  pub can_close : (n : ℕ) (parts : List ℕ) → (n ≡ 3) ⊎ (n ≡ 4) → IsSplit n (all_legs r.scattering.size) parts → CanCloseFrom r ns [] parts
  can_close n parts c split js ks i e = closes n ks c (chosen r ns nodes n (all_legs r.scattering.size) parts js ks split i e)
