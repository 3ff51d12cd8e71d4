-- The signs of vertices, by keys.
use Rattle.std.proofs.Common.{◌≡◌, ℕ, List, [], ◌∷◌, map, false, Option, Some, None, ◌&&◌, inl, inr, refl, ap, ap₂, sym, subst, ◌∙◌, arith}
use Rattle.std.specs.List.{flat_map}
use Rattle.om_ring.specs.Members.{In}
use Rattle.om_legs.specs.Legs as sets
use Rattle.om_legs.specs.Crossings.{crossings, is_odd}
use Rattle.om_legs.proofs.Bits.{same_sets}
use Rattle.om_legs.proofs.Operations.{holds-meeting}
use Rattle.om_legs.proofs.LegLists.{holds_none, legs_of-empty}
use Rattle.om_model.specs.Theory.{Scattering}
use Rattle.om_model.specs.Tree.{Tree, Branches}
use Rattle.om_model.specs.Tree.Tree.{join}
use Rattle.om_model.specs.Tree.Branches.{none, and}
use Rattle.om_model.specs.Parts.{Part, part, up}
use Rattle.om_model.specs.Diagram.{times_in, fields_of}
use Rattle.om_model.specs.Slots.{in_slots}
use Rattle.om_model.specs.Spelled.{IsSubtree}
use Rattle.om_model.specs.Inversions.{xor, cross, crossing}
use Rattle.om_model.specs.FermionLines.{Kinds, vertex_sign, branch_parts, fermion_legs}
use Rattle.om_model.specs.LegSets.{leg_set}
use Rattle.om_model.proofs.Filling.{carry, in_slots-map, in_slots_filled}
use Rattle.om_model.proofs.Reordering.{in-reordered}
use Rattle.om_model.proofs.Parity.{cross-append_right}
use Rattle.om_model.proofs.LegSets.{cross_is, crossings_by_sets, odd_sum}
use Rattle.om_graph.specs.declared.Key.{Key}
use Rattle.om_graph.specs.Vertices.{Reaction, fused_minus, closed_minus, slot_crossings, crossings_with, legs_in}
use Rattle.om_graph.specs.TreeKeys.{IsReaction, keys_of}
use Rattle.om_graph.proofs.TreeSplits.{AllSubtrees}
use Rattle.om_graph.proofs.TreeSlots.{trees_in, key_in, joined_slots, fused_slots_are, closed_slots_are, fields_trees, at_up, fit}

cross_none : (xs : List ℕ) → cross xs [] ≡ false
cross_none [] = refl
cross_none (x ∷ xs) = cross_none xs

no_legs : (f : ℕ) → sets.legs_of (sets.meeting 0 f) ≡ []
no_legs f = ap sets.legs_of (same_sets (sets.meeting 0 f) 0 (λ k. holds-meeting 0 f k (omega arith) ∙ ap (λ b. b && sets.holds f k) (holds_none k) ∙ sym (holds_none k))) ∙ legs_of-empty

module _ (r : Reaction) (kinds : Kinds) (is : IsReaction r kinds) where
  abbrev s : Scattering
  s = r.scattering

  abbrev fermions_in : Option Tree → List ℕ
  fermions_in None = []
  fermions_in (Some t) = fermion_legs s kinds t

  -- what stands there is a subtree
  abbrev Known : Option Tree → Type 0
  Known None = Unit {0}
  Known (Some t) = IsSubtree s t

  parts_are : (bs : Branches) → map (carry fermions_in) (trees_in r bs) ≡ branch_parts s kinds bs
  unfolding branch_parts
  parts_are none = refl
  parts_are (and t bs) = ap (λ qs. (part s t, fermion_legs s kinds t) ∷ qs) (parts_are bs)

  abbrev set_at : Option Tree → List ℕ
  set_at t = sets.legs_of (sets.meeting (legs_in (key_in r t)) r.fermions)

  one_crossing : (t u : Option Tree) → Known t → Known u → cross (fermions_in t) (fermions_in u) ≡ is_odd (crossings (set_at t) (set_at u))
  one_crossing None u y z = cross_is [] (fermions_in u) ∙ sym (cross_is [] (set_at u)) ∙ ap (λ xs. cross xs (set_at u)) (sym (no_legs r.fermions)) ∙ cross_is (set_at None) (set_at u)
  one_crossing (Some t) None y z = cross_none (fermion_legs s kinds t) ∙ sym (cross_none (set_at (Some t))) ∙ ap (cross (set_at (Some t))) (sym (no_legs r.fermions)) ∙ cross_is (set_at (Some t)) (set_at None)
  one_crossing (Some t) (Some u) y z = crossings_by_sets s kinds is.most t u y z r.fermions is.fermion_set is.fermions

  abbrev AllKnown : List (Part × Option Tree) → Type 0
  AllKnown [] = Unit {0}
  AllKnown (q ∷ qs) = Known q.1 × AllKnown qs

  abbrev keys_at : List (Part × Option Tree) → List (Option Key)
  keys_at qs = map (λ q. q.1) (map (carry (key_in r)) qs)

  abbrev legs_at : List (Part × Option Tree) → List (List ℕ)
  legs_at qs = map (λ q. q.1) (map (carry fermions_in) qs)

  crossings_after : (t : Option Tree) (qs : List (Part × Option Tree)) → Known t → AllKnown qs
      → cross (fermions_in t) (flat_map (λ ys. ys) (legs_at qs)) ≡ is_odd (crossings_with r.fermions (legs_in (key_in r t)) (keys_at qs))
  unfolding crossings_with
  crossings_after t [] y ys = cross_none (fermions_in t)
  crossings_after t (q ∷ qs) y ys =
      cross-append_right (fermions_in t) (fermions_in q.1) (flat_map (λ ys. ys) (legs_at qs))
      ∙ ap₂ xor (one_crossing t q.1 y ys.0) (crossings_after t qs y ys.1)
      ∙ sym (odd_sum (crossings (set_at t) (set_at q.1)) (crossings_with r.fermions (legs_in (key_in r t)) (keys_at qs)))

  crossings_are : (qs : List (Part × Option Tree)) → AllKnown qs → crossing (legs_at qs) ≡ is_odd (slot_crossings r.fermions (keys_at qs))
  unfolding crossing slot_crossings
  crossings_are [] ys = refl
  crossings_are (q ∷ qs) ys =
      ap₂ xor (crossings_after q.1 qs ys.0 ys.1) (crossings_are qs ys.1)
      ∙ sym (odd_sum (crossings_with r.fermions (legs_in (key_in r q.1)) (keys_at qs)) (slot_crossings r.fermions (keys_at qs)))

  all_known : (qs : List (Part × Option Tree)) → ((q : Part × Option Tree) → In q qs → Known q.1) → AllKnown qs
  all_known [] h = tt
  all_known (q ∷ qs) h = (h q (inl refl), all_known qs (λ p i. h p (inr i)))

  trees_known : (bs : Branches) → AllSubtrees s bs → (q : Part × Option Tree) → In q (trees_in r bs) → Known q.1
  trees_known none ys q i = elim i [ ]
  trees_known (and t bs) ys q (inl e) = subst (λ (p : Part × Option Tree). Known p.1) (sym e) ys.0
  trees_known (and t bs) ys q (inr i) = trees_known bs ys.1 q i

  pub fused_sign : (f v c : ℕ) (bs : Branches) → IsSubtree s (join f v c bs) → AllSubtrees s bs
      → vertex_sign s kinds v ((up s (join f v c bs), []) ∷ branch_parts s kinds bs) ≡ fused_minus r f v (leg_set (join f v c bs)) (keys_of r bs)
  unfolding fused_minus
  fused_sign f v c bs y ys =
      let qs = joined_slots r is.most f v c bs in
      let m = in_slots_filled s v (at_up r (up s (join f v c bs)) ∷ trees_in r bs) (fit r is.most f v c bs y) in
      ap (λ ps. crossing (map (λ q. q.1) ps)) (ap (λ ps. in_slots s v ((up s (join f v c bs), []) ∷ ps)) (sym (parts_are bs)) ∙ in_slots-map fermions_in s v (at_up r (up s (join f v c bs)) ∷ trees_in r bs))
      ∙ crossings_are qs (all_known qs (λ q i. known q (in-reordered q m.0 i)))
      ∙ ap (λ ks. is_odd (slot_crossings r.fermions ks)) (sym (fused_slots_are r is.most f v c bs y ys))
    where
      known : (q : Part × Option Tree) → In q (at_up r (up s (join f v c bs)) ∷ trees_in r bs) → Known q.1
      known q (inl e) = subst (λ (p : Part × Option Tree). Known p.1) (sym e) tt
      known q (inr i) = trees_known bs ys q i

  pub closed_sign : (v : ℕ) (bs : Branches) → ((k : ℕ) → times_in k (s.theory.slots v) ≡ times_in k (fields_of s bs)) → AllSubtrees s bs
      → vertex_sign s kinds v (branch_parts s kinds bs) ≡ closed_minus r v (keys_of r bs)
  unfolding closed_minus
  closed_sign v bs h ys =
      let qs = in_slots s v (trees_in r bs) in
      let m = in_slots_filled s v (trees_in r bs) (λ k. h k ∙ ap (times_in k) (sym (fields_trees r bs))) in
      ap (λ ps. crossing (map (λ q. q.1) ps)) (ap (in_slots s v) (sym (parts_are bs)) ∙ in_slots-map fermions_in s v (trees_in r bs))
      ∙ crossings_are qs (all_known qs (λ q i. trees_known bs ys q (in-reordered q m.0 i)))
      ∙ ap (λ ks. is_odd (slot_crossings r.fermions ks)) (sym (closed_slots_are r is.most v bs ys))
