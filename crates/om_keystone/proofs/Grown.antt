-- The trees of each node, by the terms of the graph.
use Rattle.std.proofs.Common.{◌≡◌, ℕ, zero, suc, ◌<◌, ◌≤◌, List, [], ◌∷◌, ◌++◌, map, filter, Bool, true, false, not, ◌&&◌, ◌⊎◌, ◌↔◌, inl, inr, ⊎_elim, refl, ap, ap₂, sym, subst, ◌∙◌, arith, true≢false}
use Rattle.std.specs.List.{flat_map}
use Rattle.om_ring.specs.Members.{In, Different}
use Rattle.om_model.specs.Tree.{Tree, Branches}
use Rattle.om_model.specs.Tree.Tree.{leaf, join}
use Rattle.om_model.specs.Tree.Branches.{none, and}
use Rattle.om_model.specs.Diagram.{upto}
use Rattle.om_model.specs.Order.{IsOrder}
use Rattle.om_ring.proofs.Members.{in_left, in_right, in_either, in_map, in_flat_map, in_filter, different_filter, from_flat_map, different_append, different_map, different_flat_map, in_mapped}
use Rattle.om_model.proofs.Counting.{in_upto}
use Rattle.om_graph.specs.Fusion.{Fusion, HasKey, HaveKeys}
use Rattle.om_graph.proofs.SetNodes.{nodes_of}
use Rattle.om_keystone.specs.InDiagrams.{TermOf}
use Rattle.om_keystone.proofs.Reaching.{IsPossibleTerm, IsSettled}
use Rattle.om_keystone.proofs.KeyedWaves.{AreTermsOf}
use Rattle.om_keystone.proofs.Reached.{same_keys}

from_upto : (x m : ℕ) → 0 < x → x ≤ m → In x (upto m)
unfolding upto
from_upto x zero h g = absurd (omega arith)
from_upto x (suc m) h g = elim (last x m g) [ inl e ↦ in_right x (upto m) (suc m ∷ []) (inl e) | inr l ↦ in_left x (upto m) (suc m ∷ []) (from_upto x m h l) ]
  where
    last : (x m : ℕ) → x ≤ suc m → (x ≡ suc m) ⊎ (x ≤ m)
    last x m h = grind arith

upto_differ : (m : ℕ) → Different (upto m)
unfolding upto
upto_differ zero = tt
upto_differ (suc m) = different_append (upto m) (suc m ∷ []) (upto_differ m) ((λ i. i), tt) (λ x i j. ⊎_elim (λ e. let b = in_upto x m i in absurd (omega arith)) (λ k. k) j)

-- branches, a tree for each node
unfoldable pub choose : {K : Type 0} → (K → List Tree) → List K → List Branches
choose g [] = none ∷ []
choose g (k ∷ ks) = flat_map (λ t. map (and t) (choose g ks)) (g k)

unfoldable pub joins : {K : Type 0} → (K → ℕ) → (K → List Tree) → TermOf K → List Tree
joins field g x = map (join (field x.node) x.vertex x.choice) (choose g x.branches)

head : Branches → Tree
head none = leaf 0
head (and t bs) = t

tail : Branches → Branches
tail none = none
tail (and t bs) = bs

branches_of : Tree → Branches
branches_of (leaf k) = none
branches_of (join f v c bs) = bs

vertex_of : Tree → ℕ
vertex_of (leaf k) = 0
vertex_of (join f v c bs) = v

choice_of : Tree → ℕ
choice_of (leaf k) = 0
choice_of (join f v c bs) = c

is_leaf : Tree → Bool
is_leaf (leaf k) = true
is_leaf (join f v c bs) = false

leg_of : Tree → ℕ
leg_of (leaf k) = k
leg_of (join f v c bs) = 0

pub choose_differ : {K : Type 0} (g : K → List Tree) (ks : List K) → ((k : K) → In k ks → Different (g k)) → Different (choose g ks)
unfolding choose head tail
choose_differ g [] d = ((λ i. i), tt)
choose_differ g (k ∷ ks) d = different_flat_map (λ t. map (and t) (choose g ks)) (g k) (d k (inl refl))
    (λ t i. different_map (and t) (choose g ks) (λ x y _ _ e. ap tail e) (choose_differ g ks (λ j a. d j (inr a))))
    (λ t u bs _ _ i j. let a = in_mapped (and t) bs (choose g ks) i in let b = in_mapped (and u) bs (choose g ks) j in ap head (sym a.2 ∙ b.2))

module _ {K F : Type 0} (p : Fusion K F) where
  pub in_choose : (g : K → List Tree) (bs : Branches) (ks : List K) → HaveKeys p bs ks → ((k : K) (t : Tree) → In k ks → HasKey p t k → In t (g k)) → In bs (choose g ks)
  unfolding choose HasKey
  in_choose g none ks h to = subst (λ js. In none (choose g js)) (sym h) (inl refl)
  in_choose g (and t bs) ks h to =
      subst (λ js. In (and t bs) (choose g js)) (sym h.4)
      (in_flat_map (λ u. map (and u) (choose g h.1)) t (and t bs) (g h.0) (to h.0 t (subst (In h.0) (sym h.4) (inl refl)) h.2)
      (in_map (and t) bs (choose g h.1) (in_choose g bs h.1 h.3 (λ k u i. to k u (subst (In k) (sym h.4) (inr i))))))

  pub chosen : (g : K → List Tree) (bs : Branches) (ks : List K) → In bs (choose g ks) → ((k : K) (t : Tree) → In k ks → In t (g k) → HasKey p t k) → HaveKeys p bs ks
  unfolding choose HasKey
  chosen g bs [] (inl e) from = subst (λ cs. HaveKeys p cs []) (sym e) refl
  chosen g bs [] (inr i) from = absurd i
  chosen g bs (k ∷ ks) i from =
      let r = from_flat_map (λ t. map (and t) (choose g ks)) bs (g k) i in
      let m = in_mapped (and r.0) bs (choose g ks) r.2 in
      subst (λ cs. HaveKeys p cs (k ∷ ks)) (sym m.2) (k, ks, from k r.0 (inl refl) r.1, chosen g m.0 ks m.1 (λ j t a. from j t (inr a)), refl)

-- the test of an order that neither is before the other
abbrev pub same_by : {A : Type 0} → (A → A → Bool) → A → A → Bool
same_by lt x y = not (lt x y) && not (lt y x)

pub same_by_is : {A : Type 0} (lt : A → A → Bool) → IsOrder lt → (x y : A) → same_by lt x y ≡ true → x ≡ y
same_by_is lt o x y h = o.total x y (by (lt x y) (lt y x) h).0 (by (lt x y) (lt y x) h).1
  where
    by : (a b : Bool) → (not a && not b) ≡ true → (a ≡ false) × (b ≡ false)
    by true b e = absurd (true≢false (sym e))
    by false true e = absurd (true≢false (sym e))
    by false false e = (refl, refl)

pub is_same_by : {A : Type 0} (lt : A → A → Bool) → IsOrder lt → (x y : A) → x ≡ y → same_by lt x y ≡ true
is_same_by lt o x y e = ap₂ (λ a b. not a && not b) (ap (lt x) (sym e) ∙ o.irreflexive x) (ap (lt y) e ∙ o.irreflexive y)

module _ {K F : Type 0} (p : Fusion K F) (lt : K → K → Bool) (terms : K → List (TermOf K)) where
  -- the legs that have a key
  pub legs_with : K → List ℕ
  legs_with k = filter (λ j. same_by lt k (p.leg j)) (upto p.size)

  -- the trees of a node of rank below n
  unfoldable pub grown : ℕ → K → List Tree
  grown zero k = []
  grown (suc n) k = map leaf (legs_with k) ++ flat_map (joins p.field (grown n)) (terms k)

module _ {K F : Type 0} (p : Fusion K F) (lt : K → K → Bool) (order : IsOrder lt) (rank : K → ℕ) (ok : IsSettled p rank) (kept : K → Type 0) (terms : K → List (TermOf K)) (are : AreTermsOf p kept terms) where
  pub leg_with : (k : K) (j : ℕ) → In j (legs_with p lt terms k) ↔ ((1 ≤ j) × (j ≤ p.size) × (k ≡ p.leg j))
  unfolding legs_with
  leg_with k j =
      let f = in_filter (λ j. same_by lt k (p.leg j)) j (upto p.size) in
      ((λ i. let b = f.0 i in let u = in_upto j p.size b.0 in (omega arith, u.1, same_by_is lt order k (p.leg j) b.1)), (λ b. f.1 (from_upto j p.size (omega arith) b.1, is_same_by lt order k (p.leg j) b.2)))

  pub legs_differ : (k : K) → Different (legs_with p lt terms k)
  unfolding legs_with
  legs_differ k = different_filter (λ j. same_by lt k (p.leg j)) (upto p.size) (upto_differ p.size)

  -- the branches of a term have a lesser rank
  pub lesser : (n : ℕ) (x : TermOf K) (b : K) → IsPossibleTerm p x → rank x.node < suc n → In b x.branches → rank b < n
  lesser n x b t h i = let r = ok.rises (p.field x.node) x.vertex x.choice x.branches x.node b t.1 i in omega arith

  pub from_grown : (n : ℕ) (k : K) (t : Tree) → kept k → rank k < n → In t (grown p lt terms n k) → HasKey p t k
  unfolding grown joins HasKey
  from_grown zero k t a h i = absurd i
  from_grown (suc n) k t a h i = ⊎_elim of_leg (of_term (λ b u. from_grown n b u)) (in_either t (map leaf (legs_with p lt terms k)) (flat_map (joins p.field (grown p lt terms n)) (terms k)) i)
    where
      of_leg : In t (map leaf (legs_with p lt terms k)) → HasKey p t k
      of_leg i = let m = in_mapped leaf t (legs_with p lt terms k) i in let b = (leg_with k m.0).0 m.1 in subst (λ u. HasKey p u k) (sym m.2) (b.0, b.1, b.2)

      of_term : ((b : K) (u : Tree) → kept b → rank b < n → In u (grown p lt terms n b) → HasKey p u b) → In t (flat_map (joins p.field (grown p lt terms n)) (terms k)) → HasKey p t k
      of_term ih i =
          let r = from_flat_map (joins p.field (grown p lt terms n)) t (terms k) i in
          let x = r.0 in
          let m = in_mapped (join (p.field x.node) x.vertex x.choice) t (choose (grown p lt terms n) x.branches) r.2 in
          let q = (are.members k a x).0 r.1 in
          let up : rank x.node < suc n = subst (λ j. rank j < suc n) (sym q.1) h in
          let have = chosen p (grown p lt terms n) m.0 x.branches m.1 (λ b u j w. ih b u (are.branches x b q.0 (subst kept (sym q.1) a) j) (lesser n x b q.0 up j) w) in
          subst (λ u. HasKey p u k) (sym m.2) (x.branches, have, subst (λ j. p.fuses (p.field x.node) x.vertex x.choice x.branches j) q.1 q.0.1)

  pub in_grown : (n : ℕ) (k : K) (t : Tree) → kept k → rank k < n → HasKey p t k → In t (grown p lt terms n k)
  unfolding grown joins HasKey
  in_grown zero k t a h g = absurd (omega arith)
  in_grown (suc n) k (leaf j) a h g = in_left (leaf j) (map leaf (legs_with p lt terms k)) (flat_map (joins p.field (grown p lt terms n)) (terms k)) (in_map leaf j (legs_with p lt terms k) ((leg_with k j).1 (g.0, g.1, g.2)))
  in_grown (suc n) k (join f v c bs) a h g =
      let t = join f v c bs in
      let x : TermOf K = record { node = k; vertex = v; choice = c; branches = g.0 } in
      let e : p.field k ≡ f = ok.has_field f v c g.0 k g.2 in
      let q : IsPossibleTerm p x = (nodes_of p bs g.0 g.1, subst (λ i. p.fuses i v c g.0 k) (sym e) g.2) in
      let there = in_map (join (p.field k) v c) bs (choose (grown p lt terms n) g.0) (in_choose p (grown p lt terms n) bs g.0 g.1 (λ b u i w. in_grown n b u (are.branches x b q a i) (lesser n x b q h i) w)) in
      in_right t (map leaf (legs_with p lt terms k)) (flat_map (joins p.field (grown p lt terms n)) (terms k))
      (in_flat_map (joins p.field (grown p lt terms n)) x t (terms k) ((are.members k a x).1 (q, refl)) (subst (λ i. In (join i v c bs) (joins p.field (grown p lt terms n) x)) e there))

  same_term : (x z : TermOf K) → x.node ≡ z.node → x.vertex ≡ z.vertex → x.choice ≡ z.choice → x.branches ≡ z.branches → x ≡ z
  same_term x z a b c d =
      ap (λ (n : K). record { node = n; vertex = x.vertex; choice = x.choice; branches = x.branches }) a
      ∙ ap₂ (λ (v w : ℕ). record { node = z.node; vertex = v; choice = w; branches = x.branches }) b c
      ∙ ap (λ (ks : List K). record { node = z.node; vertex = z.vertex; choice = z.choice; branches = ks }) d

  pub grown_differ : (n : ℕ) (k : K) → kept k → rank k < n → Different (grown p lt terms n k)
  unfolding grown joins branches_of vertex_of choice_of is_leaf leg_of
  grown_differ zero k a h = tt
  grown_differ (suc n) k a h =
      different_append (map leaf (legs_with p lt terms k)) (flat_map (joins p.field (grown p lt terms n)) (terms k))
      (different_map leaf (legs_with p lt terms k) (λ i j _ _ e. ap leg_of e) (legs_differ k))
      (different_flat_map (joins p.field (grown p lt terms n)) (terms k) (are.once k)
      (λ x i. let q = (are.members k a x).0 i in
      different_map (join (p.field x.node) x.vertex x.choice) (choose (grown p lt terms n) x.branches)
      (λ bs cs _ _ e. ap branches_of e)
      (choose_differ (grown p lt terms n) x.branches (λ b j. grown_differ n b (here x b q j) (lesser n x b q.0 (up x q) j))))
      one)
      (λ t i j.
      let b = in_mapped leaf t (legs_with p lt terms k) i in
      let r = from_flat_map (joins p.field (grown p lt terms n)) t (terms k) j in
      let x = r.0 in
      let m = in_mapped (join (p.field x.node) x.vertex x.choice) t (choose (grown p lt terms n) x.branches) r.2 in
      true≢false (ap is_leaf (sym b.2 ∙ m.2)))
    where
      up : (x : TermOf K) → IsPossibleTerm p x × (x.node ≡ k) → rank x.node < suc n
      up x q = subst (λ j. rank j < suc n) (sym q.1) h

      here : (x : TermOf K) (b : K) → IsPossibleTerm p x × (x.node ≡ k) → In b x.branches → kept b
      here x b q j = are.branches x b q.0 (subst kept (sym q.1) a) j

      have : (x : TermOf K) (bs : Branches) → IsPossibleTerm p x × (x.node ≡ k) → In bs (choose (grown p lt terms n) x.branches) → HaveKeys p bs x.branches
      have x bs q i = chosen p (grown p lt terms n) bs x.branches i (λ b u j w. from_grown n b u (here x b q j) (lesser n x b q.0 (up x q) j) w)

      one : (x z : TermOf K) (t : Tree) → In x (terms k) → In z (terms k) → In t (joins p.field (grown p lt terms n) x) → In t (joins p.field (grown p lt terms n) z) → x ≡ z
      one x z t a₁ a₂ i j =
          let q = (are.members k a x).0 a₁ in
          let r = (are.members k a z).0 a₂ in
          let m = in_mapped (join (p.field x.node) x.vertex x.choice) t (choose (grown p lt terms n) x.branches) i in
          let w = in_mapped (join (p.field z.node) z.vertex z.choice) t (choose (grown p lt terms n) z.branches) j in
          let e : join (p.field x.node) x.vertex x.choice m.0 ≡ join (p.field z.node) z.vertex z.choice w.0 = sym m.2 ∙ w.2 in
          same_term x z (q.1 ∙ sym r.1) (ap vertex_of e) (ap choice_of e)
          (same_keys p ok.has_field rank ok m.0 x.branches z.branches (have x m.0 q m.1) (subst (λ cs. HaveKeys p cs z.branches) (sym (ap branches_of e)) (have z w.0 r w.1)))
