-- Named sets that are cut at no vertex, by the sets of trees.
use Rattle.std.proofs.Common.{◌≡◌, ℕ, zero, suc, ◌<◌, ◌≤◌, leb, ◌∷◌, Bool, true, false, not, ◌&&◌, ◌||◌, eqb, refl, ap, ap₂, sym, subst, ◌∙◌, arith, true≢false}
use Rattle.std.proofs.lemmas.Bool.Decides.{nat_tests}
use Rattle.om_legs.specs.Legs as sets
use Rattle.om_legs.proofs.Bits.{same_sets, holds-zero}
use Rattle.om_legs.proofs.Operations.{holds-minus, holds-complement, IsLegSet-complement}
use Rattle.om_legs.proofs.LegLists.{holds_none}
use Rattle.om_model.specs.Theory.{Scattering}
use Rattle.om_model.specs.Tree.{Branches}
use Rattle.om_model.specs.Tree.Tree.{join}
use Rattle.om_model.specs.Tree.Branches.{none, and}
use Rattle.om_model.specs.Diagram.{upto}
use Rattle.om_model.specs.Diagrams.{any_in}
use Rattle.om_model.specs.EdgeLaw.{behind_all, lies_within, is_uncut}
use Rattle.om_model.specs.Parts.{within, others, holds}
use Rattle.om_model.specs.Spelled.{IsSubtree}
use Rattle.om_model.specs.LegSets.{leg_set}
use Rattle.om_model.proofs.Counting.{both, of_all_in}
use Rattle.om_model.proofs.EdgesUncut.{all_of, upto_of}
use Rattle.om_model.proofs.LegSets.{has_leg_set}
use Rattle.om_graph.specs.Vertices.{lies_in}
use Rattle.om_graph.proofs.TreeSplits.{AllSubtrees, sets_in}

equal_true : (m n : ℕ) → m ≡ n → eqb m n ≡ true
equal_true m n e = grind (arith, nat_tests)

true_equal : (m n : ℕ) → eqb m n ≡ true → m ≡ n
true_equal m n e = grind (arith, nat_tests)

implied : (a b : Bool) → (not a || b) ≡ true → a ≡ true → b ≡ true
implied true b h e = h
implied false b h e = absurd (true≢false (sym e))

implies : (a b : Bool) → (a ≡ true → b ≡ true) → (not a || b) ≡ true
implies true b h = h refl
implies false b h = refl

none_left : (a b : Bool) → (a ≡ true → b ≡ true) → (a && not b) ≡ false
none_left true b h = ap not (h refl)
none_left false b h = refl

all_left : (a b : Bool) → (a && not b) ≡ false → a ≡ true → b ≡ true
all_left true true h e = refl
all_left true false h e = absurd (true≢false h)
all_left false b h e = absurd (true≢false (sym e))

same_test : (a b : Bool) → (a ≡ true → b ≡ true) → (b ≡ true → a ≡ true) → a ≡ b
same_test true b f g = sym (f refl)
same_test false true f g = g refl
same_test false false f g = refl

module _ (n a p : ℕ) (set part : ℕ → Bool) (small : sets.IsLegSet a) (is : (k : ℕ) → sets.holds a k ≡ set k) (bounded : (k : ℕ) → set k ≡ true → within n k ≡ true) (at : (k : ℕ) → sets.holds p k ≡ part k) where
  lies : lies_within n set part ≡ true → lies_in a p ≡ true
  unfolding lies_within
  lies h = equal_true (sets.minus a p) 0 (same_sets (sets.minus a p) 0 (λ k.
      holds-minus a p k small ∙ none_left (sets.holds a k) (sets.holds p k) (λ e. (let f : set k ≡ true = sym (is k) ∙ e in
      at k ∙ implied (set k) (part k) (of_all_in (λ j. not (set j) || part j) k (upto n) h (upto_of n k (bounded k f))) f))
      ∙ sym (holds_none k)))

  lain : lies_in a p ≡ true → lies_within n set part ≡ true
  unfolding lies_within
  lain h = let z : sets.minus a p ≡ 0 = true_equal (sets.minus a p) 0 h in
      all_of (λ j. not (set j) || part j) (upto n) (λ k i. implies (set k) (part k) (λ f.
      sym (at k) ∙ all_left (sets.holds a k) (sets.holds p k) (sym (holds-minus a p k small) ∙ ap (λ x. sets.holds x k) z ∙ holds_none k) (is k ∙ f)))

  pub lies_same : lies_in a p ≡ lies_within n set part
  lies_same = same_test (lies_in a p) (lies_within n set part) lain lies

module _ (n e : ℕ) (small : n ≤ 12) (w : sets.IsLegSet e) (bounded : (k : ℕ) → sets.holds e k ≡ true → within n k ≡ true) where
  left_out : (k : ℕ) → sets.holds (sets.complement e n) k ≡ others n (sets.holds e) k
  unfolding others sets.complement
  left_out k = complement_holds e n k small
    where
      complement_holds : (e n k : ℕ) → n ≤ 12 → sets.holds (sets.complement e n) k ≡ (within n k && not (sets.holds e k))
      complement_holds e n k l = by k
        where
          by : (k : ℕ) → sets.holds (sets.complement e n) k ≡ (within n k && not (sets.holds e k))
          by zero = holds-zero (sets.complement e n)
          by (suc k) = holds-complement e n (suc k) l (omega arith) ∙ ap (λ b. b && not (sets.holds e (suc k))) (inner (suc k) (omega arith))
            where
              inner : (k : ℕ) → 0 < k → leb k n ≡ within n k
              inner k l = grind (arith, nat_tests)

  outside : (k : ℕ) → others n (sets.holds e) k ≡ true → within n k ≡ true
  unfolding others
  outside k h = (both (within n k) (not (sets.holds e k)) h).0

  -- the set or what it leaves lies within a part
  pub part_same : (p : ℕ) (part : ℕ → Bool) → ((k : ℕ) → sets.holds p k ≡ part k)
      → (lies_in e p || lies_in (sets.complement e n) p) ≡ (lies_within n (sets.holds e) part || lies_within n (others n (sets.holds e)) part)
  part_same p part at = ap₂ ◌||◌
      (lies_same n e p (sets.holds e) part w (λ k. refl) bounded at)
      (lies_same n (sets.complement e n) p (others n (sets.holds e)) part (IsLegSet-complement e n) left_out outside at)

  module _ (s : Scattering) (size_is : s.size ≡ n) where
    abbrev pub lies_one_side : ℕ → Bool
    lies_one_side part = lies_in e part || lies_in (sets.complement e n) part

    pub parts_same : (bs : Branches) → AllSubtrees s bs → any_in lies_one_side (sets_in bs) ≡ is_uncut n (sets.holds e) (behind_all bs)
    unfolding any_in is_uncut behind_all
    parts_same none y = refl
    parts_same (and t bs) y = ap₂ ◌||◌ (part_same (leg_set t) (holds t) (has_leg_set s (subst (λ m. m ≤ 12) (sym size_is) small) t y.0).held) (parts_same bs y.1)

    pub join_same : (f v c : ℕ) (bs : Branches) → IsSubtree s (join f v c bs) → AllSubtrees s bs
        → any_in lies_one_side (sets.complement (leg_set (join f v c bs)) n ∷ sets_in bs) ≡ is_uncut n (sets.holds e) (others n (holds (join f v c bs)) ∷ behind_all bs)
    unfolding any_in is_uncut
    join_same f v c bs y ys = ap₂ ◌||◌
        (part_same (sets.complement (leg_set (join f v c bs)) n) (others n (holds (join f v c bs)))
        (subst (λ m. (k : ℕ) → sets.holds (sets.complement (leg_set (join f v c bs)) m) k ≡ others m (holds (join f v c bs)) k) size_is (has_leg_set s (subst (λ m. m ≤ 12) (sym size_is) small) (join f v c bs) y).upward))
        (parts_same_any bs ys)
      where
        parts_same_any : (bs : Branches) → AllSubtrees s bs → any_in lies_one_side (sets_in bs) ≡ any_in (λ part. lies_within n (sets.holds e) part || lies_within n (others n (sets.holds e)) part) (behind_all bs)
        parts_same_any bs ys = parts_same bs ys
