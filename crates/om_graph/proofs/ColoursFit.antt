-- Wherever nodes can meet, their colour lines fit.
use Rattle.std.proofs.Common.{Option, Some, None, slice_get, ◌≡◌, ℕ, List, [], ◌∷◌, length, true, ◌⊎◌, refl, ap₂, sym, subst}
use Rattle.om_legs.specs.Legs as sets
use Rattle.om_colour.specs.Partials.{no_hole, Fits}
use Rattle.om_model.specs.Diagram.{same_numbers}
use Rattle.om_model.specs.Tree.{Branches}
use Rattle.om_model.specs.Tree.Branches.{none, and}
use Rattle.om_model.specs.FermionLines.{Kinds}
use Rattle.om_graph.specs.declared.Key.{Key}
use Rattle.om_graph.specs.Fusion.{AllNodes}
use Rattle.om_graph.specs.Vertices.{Reaction, fusion, fused_slots, closed_slots, slot_partials, hole_of, four_slots, slot_at, partial_in}
use Rattle.om_graph.specs.TreeKeys.{IsReaction, keys_of}
use Rattle.om_graph.specs.ColoursFit.{CanJoin, Meet, MeetAll, NodesJoin, NodesClose}
use Rattle.om_graph.proofs.TreeSplits.{split_set, split_ordered, split_whole}
use Rattle.om_graph.proofs.TreeSlots.{joins_to, closes_to}
use Rattle.om_graph.proofs.KeysOfSides.{AreSides, subtrees_of, subtree_of, split_in, side_of, length_keys, fields_are, all_fit, opened_of}

module _ (r : Reaction) (kinds : Kinds) (is : IsReaction r kinds) where
  -- trees of the nodes
  trees_of : (ks : List Key) → AllNodes (fusion r) ks → (bs : Branches) × AreSides r kinds is bs × (ks ≡ keys_of r bs)
  unfolding keys_of
  trees_of [] h = (none, tt, refl)
  trees_of (k ∷ ks) h =
      let a = side_of r kinds is h.0.0 k h.0.1 in
      let b = trees_of ks h.1 in
      (and h.0.0 b.0, (a.0, b.1), ap₂ ◌∷◌ a.1 b.2)

  joining : (f v c legs : ℕ) (bs : Branches) → AreSides r kinds is bs → Meet r f v c legs (keys_of r bs) → let slots = fused_slots r f v legs (keys_of r bs) in CanJoin (slot_partials slots) (r.choice v c) (hole_of slots)
  joining f v c legs bs y m =
      let tree = subtree_of r kinds is f v c legs bs y m.field m.vertex m.choice m.counted m.split m.slots in
      let set = split_set r.scattering is.most (length (keys_of r bs)) legs bs (subtrees_of r kinds is bs y) (split_in r kinds is (length (keys_of r bs)) legs bs m.split) f v c tree in
      let j = joins_to r is.most is.colours f v c bs tree (subtrees_of r kinds is bs y) in
      subst (λ x. let slots = fused_slots r f v x (keys_of r bs) in CanJoin (slot_partials slots) (r.choice v c) (hole_of slots)) (sym set) (record { slot = j.slot; free = j.free; fits = j.fits })

  closing : (v c : ℕ) (bs : Branches) → AreSides r kinds is bs → MeetAll r v c (keys_of r bs) → Fits (slot_partials (closed_slots r v (keys_of r bs))) (r.choice v c) no_hole
  closing v c bs y m =
      let n = r.scattering.size in
      let ys = subtrees_of r kinds is bs y in
      let split = split_in r kinds is (length (keys_of r bs)) (sets.all_legs n) bs m.split in
      let opened = opened_of r kinds is v c bs m.vertex m.choice (subst (λ m. (m ≡ 3) ⊎ (m ≡ 4)) (length_keys r kinds is bs) m.counted)
      (split_ordered r.scattering is.most (length (keys_of r bs)) (sets.all_legs n) bs ys split)
      (subst (λ fs. same_numbers fs (r.scattering.theory.slots v) ≡ true) (fields_are r kinds is bs) m.slots)
      (all_fit r kinds is bs y) (split_whole r.scattering is.most (length (keys_of r bs)) bs ys split) in
      (closes_to r is.most is.colours (record { vertex = v; choice = c; parts = bs }) opened ys).0

pub nodes_join : NodesJoin
nodes_join r kinds is f v c legs ks m =
    let t = trees_of r kinds is ks m.nodes in
    subst (λ ks. let slots = fused_slots r f v legs ks in CanJoin (slot_partials slots) (r.choice v c) (hole_of slots)) (sym t.2) (joining r kinds is f v c legs t.0 t.1 (subst (Meet r f v c legs) t.2 m))

pub nodes_close : NodesClose
nodes_close r kinds is v c ks m =
    let t = trees_of r kinds is ks m.nodes in
    subst (λ ks. Fits (slot_partials (closed_slots r v ks)) (r.choice v c) no_hole) (sym t.2) (closing r kinds is v c t.0 t.1 (subst (MeetAll r v c) t.2 m))

-- four slots, of which some may lie past the vertex, hold the same partial flows
pub four_partials : (slots : List (Option Key)) → slot_partials (four_slots slots) ≡ slot_partials slots
four_partials slots = rw (by (slice_get slots 0), by (slice_get slots 1), by (slice_get slots 2), by (slice_get slots 3)) refl
  where
    by : (x : Option (Option Key)) → partial_in (Some (slot_at x)) ≡ partial_in x
    by None = refl
    by (Some None) = refl
    by (Some (Some k)) = refl
