-- What stands at the slots of a vertex, by the trees and by their keys.
use Rattle.std.proofs.Common.{◌≡◌, ℕ, zero, suc, ◌≤◌, List, [], ◌∷◌, map, Option, Some, None, slice_get, inl, inr, refl, ap, ap₂, sym, subst, ◌∙◌, arith, true, false, eqb, cond, Bool, true≢false, ◌-◌}
use Rattle.std.proofs.lemmas.Bool.Decides.{nat_tests}
use mathlib.Core.Path.{fun_ext}
use Rattle.om_ring.specs.Members.{In}
use Rattle.om_colour.specs.declared.Partial.{Partial}
use Rattle.om_colour.specs.Partials.{joined, closed, no_hole, Fits}
use Rattle.om_model.specs.Theory.{Scattering}
use Rattle.om_model.specs.Tree.{Tree, Branches}
use Rattle.om_model.specs.Tree.Tree.{join}
use Rattle.om_model.specs.Tree.Branches.{none, and}
use Rattle.om_model.specs.Diagram.{field_of, fields_of, times_in}
use Rattle.om_model.specs.Parts.{Part, part, up, others}
use Rattle.om_model.specs.Slots.{in_slots}
use Rattle.om_model.specs.Opened.{Opened}
use Rattle.om_model.specs.Spelled.{IsSubtree, is_opened}
use Rattle.om_model.specs.LegSets.{leg_set}
use Rattle.om_model.specs.ColourLines as lines
use Rattle.om_model.specs.ColourLines.{Colours, HasColourLines, partial_flow, partial_behind, hole, branch_flows, flow_at}
use Rattle.om_model.specs.PartialFlows.{JoinsTo}
use Rattle.om_model.proofs.Filling.{carry, fields, in_slots-map, in_slots_filled}
use Rattle.om_model.proofs.Reordering.{in-reordered, reordered_back}
use Rattle.om_model.proofs.LegSets.{has_leg_set}
use Rattle.om_model.proofs.DiagramFacts.{join_fields}
use Rattle.om_model.proofs.PartialJoins.{partials_join, partials_close}
use Rattle.om_graph.specs.declared.Key.{Key}
use Rattle.om_graph.specs.Vertices.{Reaction, branch, upward, fused_slots, closed_slots, slots_of, slot_partials, partial_in, hole_of}
use Rattle.om_graph.proofs.TreeSplits.{AllSubtrees}
use Rattle.om_graph.specs.TreeKeys.{colours_in, key_of, keys_of}

is_some : {A : Type 0} → Option A → Bool
is_some None = false
is_some (Some x) = true

module _ (r : Reaction) where
  abbrev pub s : Scattering
  s = r.scattering

  abbrev pub w : Colours
  w = colours_in r

  -- trees behind parts
  abbrev pub trees_in : Branches → List (Part × Option Tree)
  trees_in none = []
  trees_in (and t bs) = (part s t, Some t) ∷ trees_in bs

  -- the edge upwards
  abbrev pub at_up : Part → Part × Option Tree
  at_up q = (q, None)

  abbrev pub key_in : Option Tree → Option Key
  key_in None = None
  key_in (Some t) = Some (key_of r t)

  abbrev pub flow_in : Option Tree → Option Partial
  flow_in None = None
  flow_in (Some t) = Some (partial_flow s w t)

  flows_are : (bs : Branches) → map (carry flow_in) (trees_in bs) ≡ branch_flows s w bs
  unfolding branch_flows
  flows_are none = refl
  flows_are (and t bs) = ap (λ qs. (part s t, Some (partial_flow s w t)) ∷ qs) (flows_are bs)

  pub fields_trees : (bs : Branches) → fields (trees_in bs) ≡ fields_of s bs
  unfolding fields_of part
  fields_trees none = refl
  fields_trees (and t bs) = ap (λ fs. field_of s t ∷ fs) (fields_trees bs)

  partial_at : (qs : List (Part × Option Tree)) (i : ℕ) → partial_behind (map (carry flow_in) qs) (suc i) ≡ partial_in (slice_get (map (λ q. q.1) (map (carry key_in) qs)) i)
  unfolding partial_behind
  partial_at [] i = refl
  partial_at (q ∷ qs) zero = by q.1
    where
      by : (t : Option Tree) → flow_in t ≡ partial_in (Some (key_in t))
      by None = refl
      by (Some t) = refl
  partial_at (q ∷ qs) (suc i) = ap₂ (λ b j. cond b (flow_in q.1) (partial_behind (map (carry flow_in) qs) j)) (past i) (one_less i) ∙ partial_at qs i
    where
      past : (i : ℕ) → eqb (suc (suc i)) 1 ≡ false
      past i = grind (arith, nat_tests)

      one_less : (i : ℕ) → suc (suc i) - 1 ≡ suc i
      one_less i = omega arith

  partials_at : (qs : List (Part × Option Tree)) → lines.slot_partials (map (carry flow_in) qs) ≡ slot_partials (map (λ q. q.1) (map (carry key_in) qs))
  partials_at qs = rw (partial_at qs 0, partial_at qs 1, partial_at qs 2, partial_at qs 3) refl

  hole_at : (qs : List (Part × Option Tree)) (q : Part × Option Tree) → In q qs → q.1 ≡ None → hole (map (carry flow_in) qs) ≡ hole_of (map (λ q. q.1) (map (carry key_in) qs))
  unfolding hole hole_of is_some
  hole_at [] q i e = elim i [ ]
  hole_at (p ∷ qs) q i e = by p.1 refl i (λ j. hole_at qs q j e)
    where
      by : (t : Option Tree) → p.1 ≡ t → In q (p ∷ qs) → (In q qs → hole (map (carry flow_in) qs) ≡ hole_of (map (λ q. q.1) (map (carry key_in) qs))) → lines.hole_or (flow_in t) (hole (map (carry flow_in) qs)) ≡ hole_of (key_in t ∷ map (λ q. q.1) (map (carry key_in) qs))
      by None f j ih = refl
      by (Some t) f (inl g) ih = absurd (true≢false (ap is_some (sym f ∙ ap (λ x. x.1) (sym g) ∙ e)))
      by (Some t) f (inr j) ih = ap suc (ih j)

  module _ (small : s.size ≤ 12) where
    branches_are : (bs : Branches) → AllSubtrees s bs → map (branch r) (keys_of r bs) ≡ map (carry key_in) (trees_in bs)
    unfolding keys_of
    branches_are none y = refl
    branches_are (and t bs) y = ap₂ (λ p qs. (p, Some (key_of r t)) ∷ qs) (sym (has_leg_set s small t y.0).part_is) (branches_are bs y.1)

    upward_is : (f v c : ℕ) (bs : Branches) → IsSubtree s (join f v c bs) → upward r f (leg_set (join f v c bs)) ≡ (up s (join f v c bs), None)
    unfolding up field_of
    upward_is f v c bs y = ap (λ b. (record { field = s.theory.anti f; behind = others s.size b }, None)) (fun_ext (has_leg_set s small (join f v c bs) y).held)

    -- the trees slot by slot
    abbrev pub joined_slots : (f v c : ℕ) → Branches → List (Part × Option Tree)
    joined_slots f v c bs = in_slots s v ((up s (join f v c bs), None) ∷ trees_in bs)

    pub fused_slots_are : (f v c : ℕ) (bs : Branches) → IsSubtree s (join f v c bs) → AllSubtrees s bs
        → fused_slots r f v (leg_set (join f v c bs)) (keys_of r bs) ≡ map (λ q. q.1) (map (carry key_in) (joined_slots f v c bs))
    unfolding fused_slots slots_of
    fused_slots_are f v c bs y ys =
        ap (λ qs. map (λ q. q.1) (in_slots s v qs)) (ap₂ ◌∷◌ (upward_is f v c bs y) (branches_are bs ys))
        ∙ ap (map (λ q. q.1)) (in_slots-map key_in s v ((up s (join f v c bs), None) ∷ trees_in bs))

    pub closed_slots_are : (v : ℕ) (bs : Branches) → AllSubtrees s bs → closed_slots r v (keys_of r bs) ≡ map (λ q. q.1) (map (carry key_in) (in_slots s v (trees_in bs)))
    unfolding closed_slots slots_of
    closed_slots_are v bs ys = ap (λ qs. map (λ q. q.1) (in_slots s v qs)) (branches_are bs ys) ∙ ap (map (λ q. q.1)) (in_slots-map key_in s v (trees_in bs))

    pub fit : (f v c : ℕ) (bs : Branches) → IsSubtree s (join f v c bs) → (k : ℕ) → times_in k (s.theory.slots v) ≡ times_in k (fields (at_up (up s (join f v c bs)) ∷ trees_in bs))
    unfolding up field_of
    fit f v c bs y k = join_fields s f v c bs y.joins k ∙ ap (λ fs. times_in k (s.theory.anti f ∷ fs)) (sym (fields_trees bs))

    -- the partial flows of the branches are joined
    pub joins_to : HasColourLines s.theory w → (f v c : ℕ) (bs : Branches) → IsSubtree s (join f v c bs) → AllSubtrees s bs
        → let slots = fused_slots r f v (leg_set (join f v c bs)) (keys_of r bs) in JoinsTo (slot_partials slots) (r.choice v c) (hole_of slots) (partial_flow s w (join f v c bs))
    joins_to h f v c bs y ys =
        let p = partial_flow s w (join f v c bs) in
        let qs = joined_slots f v c bs in
        let m = in_slots_filled s v ((up s (join f v c bs), None) ∷ trees_in bs) (fit f v c bs y) in
        let flows : in_slots s v ((up s (join f v c bs), None) ∷ branch_flows s w bs) ≡ map (carry flow_in) qs =
        ap (λ ps. in_slots s v ((up s (join f v c bs), None) ∷ ps)) (sym (flows_are bs)) ∙ in_slots-map flow_in s v ((up s (join f v c bs), None) ∷ trees_in bs) in
        let stands : In (up s (join f v c bs), None) qs = in-reordered (up s (join f v c bs), None) (reordered_back m.0) (inl refl) in
        let a = subst (λ ps. JoinsTo (lines.slot_partials ps) (r.choice v c) (hole ps) p) flows (partials_join s w h small f v c bs y) in
        let b = subst (λ q. JoinsTo q (r.choice v c) (hole (map (carry flow_in) qs)) p) (partials_at qs) a in
        let d = subst (λ n. JoinsTo (slot_partials (map (λ q. q.1) (map (carry key_in) qs))) (r.choice v c) n p) (hole_at qs (up s (join f v c bs), None) stands refl) b in
        subst (λ ks. JoinsTo (slot_partials ks) (r.choice v c) (hole_of ks) p) (sym (fused_slots_are f v c bs y ys)) d

    pub partial_is : HasColourLines s.theory w → (f v c : ℕ) (bs : Branches) → IsSubtree s (join f v c bs) → AllSubtrees s bs
        → let slots = fused_slots r f v (leg_set (join f v c bs)) (keys_of r bs) in partial_flow s w (join f v c bs) ≡ joined (slot_partials slots) (r.choice v c) (hole_of slots)
    partial_is h f v c bs y ys = (joins_to h f v c bs y ys).is

    -- they are closed
    pub closes_to : HasColourLines s.theory w → (a : Opened) → is_opened s a ≡ true → AllSubtrees s a.parts
        → let q = slot_partials (closed_slots r a.vertex (keys_of r a.parts)) in Fits q (r.choice a.vertex a.choice) no_hole × (flow_at s w a ≡ closed q (r.choice a.vertex a.choice))
    closes_to h a e ys =
        let c = r.choice a.vertex a.choice in
        let qs = in_slots s a.vertex (trees_in a.parts) in
        let flows : in_slots s a.vertex (branch_flows s w a.parts) ≡ map (carry flow_in) qs = ap (in_slots s a.vertex) (sym (flows_are a.parts)) ∙ in_slots-map flow_in s a.vertex (trees_in a.parts) in
        let x = subst (λ ps. Fits (lines.slot_partials ps) c no_hole × (flow_at s w a ≡ closed (lines.slot_partials ps) c)) flows (partials_close s w h small a e) in
        let y = subst (λ q. Fits q c no_hole × (flow_at s w a ≡ closed q c)) (partials_at qs) x in
        subst (λ ks. Fits (slot_partials ks) c no_hole × (flow_at s w a ≡ closed (slot_partials ks) c)) (sym (closed_slots_are a.vertex a.parts ys)) y

    pub flow_is : HasColourLines s.theory w → (a : Opened) → is_opened s a ≡ true → AllSubtrees s a.parts → flow_at s w a ≡ closed (slot_partials (closed_slots r a.vertex (keys_of r a.parts))) (r.choice a.vertex a.choice)
    flow_is h a e ys = (closes_to h a e ys).1
