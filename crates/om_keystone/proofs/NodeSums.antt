-- The wave function of a node is the sum over its trees.
use Rattle.std.proofs.Common.{◌≡◌, ℕ, zero, suc, ◌<◌, ◌≤◌, List, [], ◌∷◌, ◌++◌, map, Bool, true, false, ◌↔◌, inl, inr, refl, ap, ap₂, sym, subst, ◌∙◌, arith}
use Rattle.std.specs.List.{flat_map}
use Rattle.om_ring.specs.Members.{In, Different}
use Rattle.om_ring.specs.Ops.{Ops, Laws, signed}
use Rattle.om_ring.specs.Sums.{sum_over}
use Rattle.om_ring.proofs.RingLemmas.{minus_plus, minus_unique}
use Rattle.om_ring.proofs.SumLemmas.{sum_over-same, sum_over-ext, sum_over-map, sum_over-flat_map, times-sum_over, sum_over-times, sums_exchange, sum_over-same_members}
use Rattle.om_ring.proofs.Members.{in_map, in_flat_map, from_flat_map, different_map, different_flat_map, in_mapped}
use Rattle.om_model.specs.Tree.{Tree, Branches}
use Rattle.om_model.specs.Tree.Tree.{leaf, join}
use Rattle.om_model.specs.Tree.Branches.{and}
use Rattle.om_model.specs.Order.{IsOrder}
use Rattle.om_model.specs.Opened.{Opened}
use Rattle.om_graph.specs.Fusion.{Fusion, HaveKeys}
use Rattle.om_graph.proofs.SetNodes.{nodes_of}
use Rattle.om_keystone.specs.InDiagrams.{TermOf, KeyTermOf, IsOpened}
use Rattle.om_keystone.proofs.Reaching.{IsPossibleTerm, IsSettled}
use Rattle.om_keystone.proofs.KeyedWaves.{KeyRules, meet, meet_trees, AreTreeWaves, AreOpenedValues, keyed_term_value, keyed_key_value, AreKeyedWaves, AreTermsOf, AreKeysOf, AreOpenedOf}
use Rattle.om_keystone.proofs.Reached.{same_keys}
use Rattle.om_keystone.proofs.Grown.{choose, joins, grown, legs_with, leg_with, legs_differ, from_grown, in_grown, grown_differ, in_choose, chosen, choose_differ, lesser}

module _ {E : Type 0} (o : Ops E) (l : Laws o) where
  pub minus_zero : o.minus o.zero ≡ o.zero
  minus_zero = sym (minus_unique o l o.zero o.zero (l.plus_zero o.zero))

  minus_sum : {A : Type 0} (xs : List A) (f : A → E) → o.minus (sum_over o xs f) ≡ sum_over o xs (λ x. o.minus (f x))
  minus_sum [] f = minus_zero
  minus_sum (x ∷ xs) f = minus_plus o l (f x) (sum_over o xs f) ∙ ap (o.plus (o.minus (f x))) (minus_sum xs f)

  pub signed_sum : {A : Type 0} (b : Bool) (xs : List A) (f : A → E) → signed o b (sum_over o xs f) ≡ sum_over o xs (λ x. signed o b (f x))
  signed_sum true xs f = minus_sum xs f
  signed_sum false xs f = refl

  module _ {K : Type 0} (rules : KeyRules E K) (wave : Tree → ℕ → E) (node : K → ℕ → E) (g : K → List Tree) where
    -- the contractions over all branches of some nodes add up to that of the nodes
    all_meet : (ks : List K) → ((k : K) → In k ks → (i : ℕ) → node k i ≡ sum_over o (g k) (λ t. wave t i)) → (entry : List ℕ → E)
        → sum_over o (choose g ks) (λ bs. meet_trees o rules wave bs ks entry) ≡ meet o rules node ks entry
    unfolding choose meet meet_trees
    all_meet [] h entry = l.plus_zero (entry [])
    all_meet (k ∷ ks) h entry =
        sum_over-flat_map o l (λ t. map (and t) (choose g ks)) (g k) _
        ∙ sum_over-ext o (g k) _ _ (λ t.
        sum_over-map o (and t) (choose g ks) _
        ∙ sums_exchange o l (choose g ks) (rules.indices k) (λ bs i. o.times (wave t i) (meet_trees o rules wave bs ks (λ is. entry (i ∷ is))))
        ∙ sum_over-ext o (rules.indices k) _ _ (λ i. sym (times-sum_over o l (wave t i) (choose g ks) _) ∙ ap (o.times (wave t i)) (all_meet ks (λ j a. h j (inr a)) (λ is. entry (i ∷ is)))))
        ∙ sums_exchange o l (g k) (rules.indices k) (λ t i. o.times (wave t i) (meet o rules node ks (λ is. entry (i ∷ is))))
        ∙ sum_over-ext o (rules.indices k) _ _ (λ i. sym (sum_over-times o l (g k) (λ t. wave t i) (meet o rules node ks (λ is. entry (i ∷ is)))) ∙ ap (λ x. o.times x (meet o rules node ks (λ is. entry (i ∷ is)))) (sym (h k (inl refl) i)))

  module _ {K F : Type 0} (p : Fusion K F) (lt : K → K → Bool) (order : IsOrder lt) (rank : K → ℕ) (ok : IsSettled p rank) (kept : K → Type 0) (terms : K → List (TermOf K)) (are : AreTermsOf p kept terms)
      (rules : KeyRules E K) (wave : Tree → ℕ → E) (waves : AreTreeWaves o rules p wave) (node : K → ℕ → E) (nodes : AreKeyedWaves o rules p kept terms node) where
    abbrev trees : ℕ → K → List Tree
    trees n k = grown p lt terms n k

    -- a fused node has no leg, and a leg isn't fused
    not_both : (k : K) (j : ℕ) (x : TermOf K) → 1 ≤ j → j ≤ p.size → k ≡ p.leg j → IsPossibleTerm p x → x.node ≡ k → ⊥
    not_both k j x low high e t q =
        let a = ok.fused_rank (p.field x.node) x.vertex x.choice x.branches x.node t.1 in
        let b : rank x.node ≡ 1 = ap rank (q ∙ e) ∙ ok.leg_rank j low high in
        omega arith

    joins_sum : (n : ℕ) (k : K) (i : ℕ) (x : TermOf K) → kept k → rank k < suc n → In x (terms k) → ((b : K) → kept b → rank b < n → (i : ℕ) → node b i ≡ sum_over o (trees n b) (λ t. wave t i))
        → sum_over o (joins p.field (grown p lt terms n) x) (λ t. wave t i)
        ≡ sum_over o (rules.indices k) (λ j. o.times (rules.propagator k i j) (keyed_term_value o rules p node x j))
    unfolding joins
    joins_sum n k i x a h m ih =
        let q = (are.members k a x).0 m in
        let g = grown p lt terms n in
        let up : rank x.node < suc n = subst (λ j. rank j < suc n) (sym q.1) h in
        let here : (b : K) → In b x.branches → kept b = λ b j. are.branches x b q.0 (subst kept (sym q.1) a) j in
        let less : (b : K) → In b x.branches → rank b < n = λ b j. lesser p lt order rank ok kept terms are n x b q.0 up j in
        let entry : ℕ → List ℕ → E = rules.fused x.vertex x.choice x.node x.branches in
        let minus : Bool = rules.minus x.vertex x.node x.branches in
        let fuse : p.fuses (p.field x.node) x.vertex x.choice x.branches x.node = q.0.1 in
        sum_over-map o (join (p.field x.node) x.vertex x.choice) (choose g x.branches) _
        ∙ sum_over-same o (choose g x.branches) _ (λ bs. sum_over o (rules.indices x.node) (λ j. o.times (rules.propagator x.node i j) (signed o minus (meet_trees o rules wave bs x.branches (entry j)))))
        (λ bs c. waves.at_join (p.field x.node) x.vertex x.choice bs x.branches x.node (chosen p g bs x.branches c (λ b u j w. from_grown p lt order rank ok kept terms are n b u (here b j) (less b j) w)) fuse i)
        ∙ sums_exchange o l (choose g x.branches) (rules.indices x.node) (λ bs j. o.times (rules.propagator x.node i j) (signed o minus (meet_trees o rules wave bs x.branches (entry j))))
        ∙ sum_over-ext o (rules.indices x.node) _ (λ j. o.times (rules.propagator x.node i j) (keyed_term_value o rules p node x j)) (λ j.
        sym (times-sum_over o l (rules.propagator x.node i j) (choose g x.branches) _)
        ∙ ap (o.times (rules.propagator x.node i j)) (sym (signed_sum minus (choose g x.branches) (λ bs. meet_trees o rules wave bs x.branches (entry j))) ∙ ap (signed o minus) (all_meet rules wave node g x.branches (λ b c w. ih b (here b c) (less b c) w) (entry j))))
        ∙ ap (λ b. sum_over o (rules.indices b) (λ j. o.times (rules.propagator b i j) (keyed_term_value o rules p node x j))) q.1

    -- of a node that isn't a leg
    inner_sum : (n : ℕ) (k : K) (i : ℕ) → kept k → rank k < suc n → ((b : K) → kept b → rank b < n → (i : ℕ) → node b i ≡ sum_over o (trees n b) (λ t. wave t i))
        → sum_over o (flat_map (joins p.field (grown p lt terms n)) (terms k)) (λ t. wave t i)
        ≡ sum_over o (rules.indices k) (λ j. o.times (rules.propagator k i j) (sum_over o (terms k) (λ x. keyed_term_value o rules p node x j)))
    inner_sum n k i a h ih =
        sum_over-flat_map o l (joins p.field (grown p lt terms n)) (terms k) _
        ∙ sum_over-same o (terms k) _ _ (λ x m. joins_sum n k i x a h m ih)
        ∙ sums_exchange o l (terms k) (rules.indices k) (λ x j. o.times (rules.propagator k i j) (keyed_term_value o rules p node x j))
        ∙ sum_over-ext o (rules.indices k) _ _ (λ j. sym (times-sum_over o l (rules.propagator k i j) (terms k) (λ x. keyed_term_value o rules p node x j)))

    no_terms : (xs : List (TermOf K)) → ((x : TermOf K) → In x xs → ⊥) → xs ≡ []
    no_terms [] h = refl
    no_terms (x ∷ xs) h = absurd (h x (inl refl))

    one_leg : (j : ℕ) (js : List ℕ) → ((i : ℕ) → In i (j ∷ js) → i ≡ j) → Different (j ∷ js) → js ≡ []
    one_leg j [] h d = refl
    one_leg j (m ∷ js) h d = absurd (d.0 (subst (λ u. In u (m ∷ js)) (h m (inr (inl refl))) (inl refl)))

    node_is_sum : (n : ℕ) (k : K) → kept k → rank k < n → (i : ℕ) → node k i ≡ sum_over o (trees n k) (λ t. wave t i)
    unfolding grown
    node_is_sum zero k a h i = absurd (omega arith)
    node_is_sum (suc n) k a h i = by (legs_with p lt terms k) (inner_sum n k i a h (λ b c e. node_is_sum n b c e)) (λ j. leg_with p lt order rank ok kept terms are k j) (legs_differ p lt order rank ok kept terms are k)
      where
        by : (js : List ℕ) → sum_over o (flat_map (joins p.field (grown p lt terms n)) (terms k)) (λ t. wave t i) ≡ sum_over o (rules.indices k) (λ j. o.times (rules.propagator k i j) (sum_over o (terms k) (λ x. keyed_term_value o rules p node x j)))
            → ((j : ℕ) → In j js ↔ ((1 ≤ j) × (j ≤ p.size) × (k ≡ p.leg j))) → Different js
            → node k i ≡ sum_over o (map leaf js ++ flat_map (joins p.field (grown p lt terms n)) (terms k)) (λ t. wave t i)
        by [] inner m d = nodes.at_inner k a (λ j u w e. (m j).1 (u, w, e)) i ∙ sym inner
        by (j ∷ js) inner m d =
            let b = (m j).0 (inl refl) in
            let none_here : terms k ≡ [] = no_terms (terms k) (λ x c. let q = (are.members k a x).0 c in not_both k j x b.0 b.1 b.2 q.0 q.1) in
            let alone : js ≡ [] = one_leg j js (λ v c. let w = (m v).0 c in ok.legs_differ v j w.0 w.1 b.0 b.1 (sym w.2 ∙ b.2)) d in
            ap (λ u. node u i) b.2 ∙ nodes.at_leg j i b.0 b.1 (subst kept b.2 a) ∙ sym (waves.at_leg j i b.0 b.1)
            ∙ sym (l.plus_zero (wave (leaf j) i))
            ∙ ap₂ (λ (xs : List ℕ) (ys : List (TermOf K)). sum_over o (map leaf (j ∷ xs) ++ flat_map (joins p.field (grown p lt terms n)) ys) (λ t. wave t i)) (sym alone) (sym none_here)

    -- the diagrams of a keystone term, opened there
    abbrev opened_by : ℕ → KeyTermOf K F → List Opened
    opened_by n y = map (λ bs. record { vertex = y.vertex; choice = y.choice; parts = bs }) (choose (grown p lt terms n) y.branches)

    module _ (most : ℕ) (below : (k : K) → kept k → rank k < most) (value : Opened → E) (values : AreOpenedValues o rules p wave value) (w : F) (ys : List (KeyTermOf K F)) (keys : AreKeysOf p kept w ys) where
      have_keys : (y : KeyTermOf K F) (bs : Branches) → In y ys → In bs (choose (grown p lt terms most) y.branches) → HaveKeys p bs y.branches
      have_keys y bs m i = chosen p (grown p lt terms most) bs y.branches i (λ b u j c. from_grown p lt order rank ok kept terms are most b u (keys.branches y b m j) (below b (keys.branches y b m j)) c)

      -- what a keystone term gives is what its diagrams give
      one_key_sum : (y : KeyTermOf K F) → In y ys → keyed_key_value o rules p node y ≡ sum_over o (opened_by most y) value
      one_key_sum y m =
          let q = (keys.members y).0 m in
          let g = grown p lt terms most in
          let minus : Bool = rules.closed_minus y.vertex y.branches in
          let entry : List ℕ → E = rules.closed y.vertex y.choice y.branches in
          ap (signed o minus) (sym (all_meet rules wave node g y.branches (λ b c i. node_is_sum most b (keys.branches y b m c) (below b (keys.branches y b m c)) i) entry))
          ∙ signed_sum minus (choose g y.branches) (λ bs. meet_trees o rules wave bs y.branches entry)
          ∙ sym (sum_over-map o (λ bs. let a : Opened = record { vertex = y.vertex; choice = y.choice; parts = bs } in a) (choose g y.branches) value
          ∙ sum_over-same o (choose g y.branches) _ (λ bs. signed o minus (meet_trees o rules wave bs y.branches entry)) (λ bs c.
          values.at_keystone (record { vertex = y.vertex; choice = y.choice; parts = bs }) w y.branches (have_keys y bs m c) (subst (λ u. p.closes y.vertex y.choice y.branches u) q.1 q.0.1)))

      all_opened : List Opened
      all_opened = flat_map (opened_by most) ys

      from_opened : (a : Opened) → In a all_opened → IsOpened p a w
      unfolding all_opened
      from_opened a i =
          let r = from_flat_map (opened_by most) a ys i in
          let y = r.0 in
          let m = in_mapped (λ bs. let a : Opened = record { vertex = y.vertex; choice = y.choice; parts = bs } in a) a (choose (grown p lt terms most) y.branches) r.2 in
          let q = (keys.members y).0 r.1 in
          subst (λ b. IsOpened p b w) (sym m.2) (record { keys = y.branches; have = have_keys y m.0 r.1 m.1; close = subst (λ u. p.closes y.vertex y.choice y.branches u) q.1 q.0.1 })

      to_opened : (a : Opened) → IsOpened p a w → In a all_opened
      unfolding all_opened
      to_opened a h =
          let y : KeyTermOf K F = record { flow = w; vertex = a.vertex; choice = a.choice; branches = h.keys } in
          let m = (keys.members y).1 ((nodes_of p a.parts h.keys h.have, h.close), refl) in
          in_flat_map (opened_by most) y a ys m
          (in_map (λ bs. let a : Opened = record { vertex = y.vertex; choice = y.choice; parts = bs } in a) a.parts (choose (grown p lt terms most) h.keys)
          (in_choose p (grown p lt terms most) a.parts h.keys h.have (λ b u i c. in_grown p lt order rank ok kept terms are most b u (keys.branches y b m i) (below b (keys.branches y b m i)) c)))

      same_key : (y z : KeyTermOf K F) → y.flow ≡ z.flow → y.vertex ≡ z.vertex → y.choice ≡ z.choice → y.branches ≡ z.branches → y ≡ z
      same_key y z a b c d =
          ap (λ (n : F). record { flow = n; vertex = y.vertex; choice = y.choice; branches = y.branches }) a
          ∙ ap₂ (λ (v w : ℕ). record { flow = z.flow; vertex = v; choice = w; branches = y.branches }) b c
          ∙ ap (λ (ks : List K). record { flow = z.flow; vertex = z.vertex; choice = z.choice; branches = ks }) d

      opened_differ : Different all_opened
      unfolding all_opened
      opened_differ =
          different_flat_map (opened_by most) ys keys.once
          (λ y m. different_map (λ bs. let a : Opened = record { vertex = y.vertex; choice = y.choice; parts = bs } in a) (choose (grown p lt terms most) y.branches)
          (λ bs cs _ _ e. ap (λ (a : Opened). a.parts) e)
          (choose_differ (grown p lt terms most) y.branches (λ b j. grown_differ p lt order rank ok kept terms are most b (keys.branches y b m j) (below b (keys.branches y b m j)))))
          (λ y z a m n i j.
          let u = in_mapped (λ bs. let a : Opened = record { vertex = y.vertex; choice = y.choice; parts = bs } in a) a (choose (grown p lt terms most) y.branches) i in
          let t = in_mapped (λ bs. let a : Opened = record { vertex = z.vertex; choice = z.choice; parts = bs } in a) a (choose (grown p lt terms most) z.branches) j in
          let e : ◌≡◌ {A = Opened} (record { vertex = y.vertex; choice = y.choice; parts = u.0 }) (record { vertex = z.vertex; choice = z.choice; parts = t.0 }) = sym u.2 ∙ t.2 in
          same_key y z (((keys.members y).0 m).1 ∙ sym ((keys.members z).0 n).1) (ap (λ (a : Opened). a.vertex) e) (ap (λ (a : Opened). a.choice) e)
          (same_keys p ok.has_field rank ok u.0 y.branches z.branches (have_keys y u.0 m u.1) (subst (λ cs. HaveKeys p cs z.branches) (sym (ap (λ (a : Opened). a.parts) e)) (have_keys z t.0 n t.1))))

      pub opened_exist : (opened : List Opened) × AreOpenedOf p w opened
      opened_exist = (all_opened, record { once = opened_differ; members = λ a. (from_opened a, to_opened a) })

      -- the keystone terms of a flow give what the diagrams with that flow give
      pub flow_is_sum : (opened : List Opened) → AreOpenedOf p w opened → sum_over o ys (keyed_key_value o rules p node) ≡ sum_over o opened value
      unfolding all_opened
      flow_is_sum opened are_opened =
          sum_over-same o ys (keyed_key_value o rules p node) (λ y. sum_over o (opened_by most y) value) (λ y m. one_key_sum y m)
          ∙ sym (sum_over-flat_map o l (opened_by most) ys value)
          ∙ sum_over-same_members o l value all_opened opened opened_differ are_opened.once ((λ a i. (are_opened.members a).1 (from_opened a i)), (λ a i. to_opened a ((are_opened.members a).0 i)))
