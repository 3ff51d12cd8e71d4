-- Sets of legs of the nodes of a canonical graph.
use Rattle.std.proofs.Common.{◌≡◌, ℕ, zero, suc, ◌+◌, ◌*◌, ◌-◌, ◌<◌, ◌≤◌, List, [], ◌∷◌, ◌++◌, length, filter, Bool, true, false, cond, not, ltb, eqb, leb, ◌&&◌, ◌||◌, ◌⊎◌, inl, inr, refl, ap, ap₂, sym, subst, ◌∙◌, arith, append-nil}
use Rattle.std.proofs.lemmas.Bool.Decides.{nat_tests}
use mathlib.Core.Path.{fun_ext}
use Rattle.om_ring.specs.Members.{In}
use Rattle.om_legs.specs.Legs as sets
use Rattle.om_legs.specs.Splits.{IsSplit}
use Rattle.om_legs.proofs.Bits.{same_sets, IsLegSet-set_of, holds-zero}
use Rattle.om_legs.proofs.ShareSums.{size-empty}
use Rattle.om_legs.proofs.Least.{held_some, holds-least}
use Rattle.om_legs.proofs.FirstPart.{IsLegSet-part, part_filled, part_leg}
use Rattle.om_legs.proofs.Operations.{holds-complement, IsLegSet-complement}
use Rattle.om_model.specs.Diagram.{times_in, upto}
use Rattle.om_model.specs.Event.{members}
use Rattle.om_model.specs.FermionLines.{Kinds}
use Rattle.om_model.specs.LegSets.{leg_set}
use Rattle.om_model.specs.Parts.{within, others, holds, least}
use Rattle.om_model.specs.Spelled.{IsSubtree}
use Rattle.om_model.specs.Tree.{Tree, legs}
use Rattle.om_model.proofs.Counting.{in_upto, length-upto}
use Rattle.om_model.proofs.LegSets.{has_leg_set, holds_of, least_by_set}
use Rattle.om_model.proofs.SetNumbers.{members-suc}
use Rattle.om_model.proofs.TidyTrees.{some_length}
use Rattle.om_model.proofs.Whole.{full_of}
use Rattle.om_graph.specs.declared.Graph.{Graph}
use Rattle.om_graph.specs.declared.Key.{Key}
use Rattle.om_graph.specs.TreeKeys.{IsReaction}
use Rattle.om_graph.specs.Vertices.{Reaction, is_outward}
use Rattle.om_graph.proofs.KeysOfSides.{side_of}
use Rattle.om_keystone.specs.CanonicalGraph.{IsCanonicalOf}

-- some of the legs 1 to n
pub record IsSetOf (n a : ℕ) : Type 0 where
  pub is_set : sets.IsLegSet a
  pub some : 0 < a
  pub inside : (k : ℕ) → sets.holds a k ≡ true → within n k ≡ true

module _ (n : ℕ) (small : n ≤ 12) where
  members-more : (m : ℕ) (p : ℕ → Bool) → ((k : ℕ) → p k ≡ true → within n k ≡ true) → members (m + n) p ≡ members n p
  members-more zero p h = ap (λ k. members k p) (let e : 0 + n ≡ n = omega arith in e)
  members-more (suc m) p h =
      ap (λ k. members k p) (let e : suc m + n ≡ suc (m + n) = omega arith in e)
      ∙ members-suc (m + n) p
      ∙ ap (λ b. members (m + n) p ++ cond b (suc (m + n) ∷ []) []) (past (p (suc (m + n))) (h (suc (m + n))))
      ∙ append-nil (members (m + n) p)
      ∙ members-more m p h
    where
      out : within n (suc (m + n)) ≡ false
      out = grind (arith, nat_tests)

      past : (b : Bool) → (b ≡ true → within n (suc (m + n)) ≡ true) → b ≡ false
      past false g = refl
      past true g = sym (g refl) ∙ out

  module _ (a : ℕ) (is : IsSetOf n a) where
    legs_are : sets.legs_of a ≡ members 12 (sets.holds a)
    unfolding sets.legs_of upto
    legs_are = refl

    -- its legs, as of a diagram
    pub members_are : members n (sets.holds a) ≡ sets.legs_of a
    members_are = sym (members-more (12 - n) (sets.holds a) is.inside) ∙ ap (λ m. members m (sets.holds a)) (let e : 12 - n + n ≡ 12 = omega arith in e) ∙ sym legs_are

    -- its least leg, as of a part
    pub least_is : (f : ℕ) → least n (record { field = f; behind = sets.holds a }) ≡ sets.least a
    least_is f =
        let held = holds-least a is.some is.is_set in
        least_by_set n (record { field = f; behind = sets.holds a }) (sets.least a) small (is.inside (sets.least a) held) held
        ∙ ap sets.least (same_sets (sets.set_of (λ j. within n j && sets.holds a j)) a (λ k. holds_of (λ j. within n j && sets.holds a j) (λ j h. bounds j (sets.holds a j) h) k ∙ both (within n k) (sets.holds a k) (is.inside k)))
      where
        bounds : (j : ℕ) (b : Bool) → (within n j && b) ≡ true → (0 < j) × (j ≤ 12)
        bounds j b h = (grind (arith, nat_tests), grind (arith, nat_tests))

        both : (x y : Bool) → (y ≡ true → x ≡ true) → (x && y) ≡ y
        both true y h = refl
        both false true h = h refl
        both false false h = refl

    complement_holds : (k : ℕ) → sets.holds (sets.complement a n) k ≡ others n (sets.holds a) k
    unfolding others
    complement_holds zero = holds-zero (sets.complement a n)
    complement_holds (suc k) = holds-complement a n (suc k) small (let p : 0 < suc k = omega arith in p) ∙ ap (λ b. b && not (sets.holds a (suc k))) (let e : leb (suc k) n ≡ within n (suc k) = grind (arith, nat_tests) in e)

    -- the legs on the other side
    pub others_are : others n (sets.holds a) ≡ sets.holds (sets.complement a n)
    others_are = fun_ext (λ k. sym (complement_holds k))

    all_or_some : (ks : List ℕ) → (filter (sets.holds a) ks ≡ ks) ⊎ ((k : ℕ) × In k ks × (sets.holds a k ≡ false))
    all_or_some [] = inl refl
    all_or_some (k ∷ ks) = by (sets.holds a k) refl (all_or_some ks)
      where
        by : (b : Bool) → sets.holds a k ≡ b → (filter (sets.holds a) ks ≡ ks) ⊎ ((j : ℕ) × In j ks × (sets.holds a j ≡ false)) → (filter (sets.holds a) (k ∷ ks) ≡ k ∷ ks) ⊎ ((j : ℕ) × In j (k ∷ ks) × (sets.holds a j ≡ false))
        by false e r = inr (k, inl refl, e)
        by true e (inl q) = inl (rw e (ap (λ zs. k ∷ zs) q))
        by true e (inr r) = inr (r.0, inr r.1, r.2)

    -- where the set lies away from the keystone, the other side has some leg
    pub other_side : 3 ≤ n → is_outward n a ≡ true → IsSetOf n (sets.complement a n)
    unfolding sets.size others
    other_side many out = record {
      is_set = IsLegSet-complement a n;
      some = by (all_or_some (upto n));
      inside = λ k h. first (within n k) (not (sets.holds a k)) (sym (complement_holds k) ∙ h);
    }
      where
        first : (x y : Bool) → (x && y) ≡ true → x ≡ true
        first true y h = refl
        first false y h = h

        half : (m : ℕ) (b : Bool) → m ≡ n → (ltb (2 * m) n || (eqb (2 * m) n && not b)) ≡ true → ⊥
        half m b e h = absurd (grind (arith, nat_tests))

        by : (filter (sets.holds a) (upto n) ≡ upto n) ⊎ ((k : ℕ) × In k (upto n) × (sets.holds a k ≡ false)) → 0 < sets.complement a n
        by (inl e) = absurd (half (length (sets.legs_of a)) (sets.holds a 1) (ap length (sym members_are ∙ e) ∙ length-upto n) out)
        by (inr r) =
            let l = in_upto r.0 n r.1 in
            let w : within n r.0 ≡ true = (let p = l.0 in let q = l.1 in grind (arith, nat_tests)) in
            held_some (sets.complement a n) r.0 (complement_holds r.0 ∙ ap₂ (λ x y. x && not y) w r.2)

  -- the parts of a split
  pub part_is : (c a : ℕ) (parts : List ℕ) → IsSetOf n a → IsSplit c a parts → (x : ℕ) → In x parts → IsSetOf n x
  part_is c a parts is h x i = record {
    is_set = IsLegSet-part c a parts is.is_set h x i;
    some = part_filled c a parts h x i;
    inside = λ k e. is.inside k (part_leg c a parts h x k i e);
  }

-- the set of a node of a canonical graph
module _ (r : Reaction) (kinds : Kinds) (is : IsReaction r kinds) (g : Graph) (canonical : IsCanonicalOf r g) where
  tree_inside : (t : Tree) → IsSubtree r.scattering t → (k : ℕ) → holds t k ≡ true → within r.scattering.size k ≡ true
  unfolding holds
  tree_inside t y k e = by (within r.scattering.size k) (times_in k (legs t)) (y.once k) e
    where
      by : (b : Bool) (m : ℕ) → m ≤ cond b 1 0 → ltb 0 m ≡ true → b ≡ true
      by true m l e = refl
      by false m l e = absurd (grind (arith, nat_tests))

  some_leg : (t : Tree) → IsSubtree r.scattering t → 0 < leg_set t
  some_leg t y = by (leg_set t) refl
    where
      by : (m : ℕ) → leg_set t ≡ m → 0 < m
      by (suc m) e = omega arith
      by zero e =
          let count : length (legs t) ≡ 0 = sym (has_leg_set r.scattering is.most t y).counted ∙ ap sets.size e ∙ size-empty in
          let some = some_length t (full_of r.scattering t y.joins) in
          absurd (omega arith)

  pub node_set : (k : Key) → In k g.nodes → IsSetOf r.scattering.size k.legs
  node_set k i =
      let edge = (canonical.graph.nodes k).0 i in
      let side = side_of r kinds is edge.0 k edge.2 in
      let set = has_leg_set r.scattering is.most edge.0 side.0.subtree in
      subst (λ (j : Key). IsSetOf r.scattering.size j.legs) (sym side.1) (record {
        is_set = IsLegSet-set_of (holds edge.0);
        some = some_leg edge.0 side.0.subtree;
        inside = λ j e. tree_inside edge.0 side.0.subtree j (sym (set.held j) ∙ e);
      })
