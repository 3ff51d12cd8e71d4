-- The canonical graph by numbers gives the answer.
use Rattle.std.proofs.Common.{◌≡◌, ℕ, suc, ◌+◌, List, [], ◌∷◌, ◌++◌, map, filter, Bool, true, false, cond, eqb, ◌↔◌, inl, inr, refl, ap, ap₂, sym, subst, ◌∙◌, arith, Option, Some, None, slice_get}
use Rattle.std.specs.List.{flat_map}
use Rattle.std.proofs.lemmas.Option.{same_Some}
use Rattle.om_ring.specs.Members.{In, Different}
use Rattle.om_ring.specs.Ops.{Ops, Laws, signed}
use Rattle.om_ring.specs.Sums.{sum_over}
use Rattle.om_ring.proofs.SumLemmas.{sum_over-ext}
use Rattle.om_model.specs.Tree.{Tree}
use Rattle.om_model.specs.Diagrams.{AreDiagrams}
use Rattle.om_model.specs.Theory.{Scattering}
use Rattle.om_model.specs.Order.{IsOrder, Rising, numbers_lt}
use Rattle.om_model.specs.Event.{Event}
use Rattle.om_model.specs.FeynmanRules.{FeynmanRules}
use Rattle.om_model.specs.Lines.{Lines}
use Rattle.om_model.specs.Answer.{Answer, IsAnswer}
use Rattle.om_model.specs.Answer.Answer.{unbalanced, pole, values}
use Rattle.om_ring.proofs.Members.{in_flat_map, from_flat_map, different_flat_map}
use Rattle.om_model.specs.Opened.{Opened}
use Rattle.om_graph.specs.Fusion.{Fusion}
use Rattle.om_keystone.specs.InDiagrams.{TermOf, KeyTermOf, IsMet, IsKeyMet}
use Rattle.om_keystone.proofs.Reaching.{Reached, PruneIsExact, IsSettled}
use Rattle.om_keystone.proofs.Reaching.Reached.{from_key, from_term}
use Rattle.om_model.proofs.FormSums.{rising_different}
use Rattle.std.proofs.lemmas.Bool.{eqb-true, eq-eqb}
use Rattle.om_graph.specs.Search.{place}
use Rattle.om_graph.proofs.Places.{place_gets}
use Rattle.om_graph.proofs.Keystones.{numbered_order}
use Rattle.om_graph.specs.Graph.{Numbered, at_numbers, numbered_lt}
use Rattle.om_keystone.specs.CanonicalGraph.{IsMetAt, IsKeyMetAt, IsCanonicalGraph}
use Rattle.om_keystone.proofs.KeyedWaves.{KeyRules, meet, keyed_term_value, keyed_key_value, AreKeyedWaves}
use Rattle.om_keystone.proofs.ModelRules.{KeyView, model_rules, AreSigns, ShowsParts, AreOpenedDiagrams}
use Rattle.om_keystone.proofs.KeyedAnswer.{IsCanonical, same_by, terms_of, keys_of, graph_values, KeyedAnswers}
use Rattle.om_keystone.proofs.NumberedAnswer.{term_value_at, key_value_at, AreWavesAt, values_at, NumberedAnswers}
use Rattle.om_keystone.specs.NodeWaves.{keys_at, indices_at, meet_at}
use Rattle.om_keystone.proofs.Reached.{prune_is_exact}
use Rattle.om_keystone.proofs.Grown.{same_by_is, is_same_by}
use Rattle.om_keystone.proofs.Numbers.{keys_are, At, at_of, of_at, at_all, at_once, number_once}
use Rattle.om_graph.proofs.SetNodes.{number_of, in_by_number}
use Rattle.om_keystone.proofs.Numbers.At.{at_none, at_more}
use Rattle.om_keystone.proofs.GraphLaw.{are_terms, are_keys, is_answer}

pub numbered_differ : (xs : List Numbered) → Rising numbered_lt xs → Different xs
numbered_differ = rising_different numbered_lt numbered_order.irreflexive

pub same_numbered : (x y : Numbered) → x.made ≡ y.made → x.vertex ≡ y.vertex → x.choice ≡ y.choice → x.branches ≡ y.branches → x ≡ y
same_numbered x y a b c d =
    ap (λ (n : ℕ). let z : Numbered = record { made = n; vertex = x.vertex; choice = x.choice; branches = x.branches } in z) a
    ∙ ap₂ (λ (v w : ℕ). let z : Numbered = record { made = y.made; vertex = v; choice = w; branches = x.branches } in z) b c
    ∙ ap (λ (is : List ℕ). let z : Numbered = record { made = y.made; vertex = y.vertex; choice = y.choice; branches = is } in z) d

-- two sums over what lists are made of
sum_both : {A B E : Type 0} (o : Ops E) (f : B → E) (g : A → E) (to : A → List B) (q : B → Bool) (r : A → Bool) (xs : List A) → ((x : A) → In x xs → (b : B) × (to x ≡ b ∷ []) × (q b ≡ r x) × (r x ≡ true → f b ≡ g x))
    → sum_over o (filter q (flat_map to xs)) f ≡ sum_over o (filter r xs) g
sum_both o f g to q r [] h = refl
sum_both {A} {B} {E} o f g to q r (x ∷ xs) h =
    let t = h x (inl refl) in
    let rest : List B = flat_map to xs in
    ap (λ (us : List B). sum_over o (filter q (us ++ rest)) f) t.1 ∙ by (r x) t.0 t.2 t.3 (sum_both o f g to q r xs (λ y i. h y (inr i)))
  where
    by : (b : Bool) (t : B) → q t ≡ b → (b ≡ true → f t ≡ g x) → sum_over o (filter q (flat_map to xs)) f ≡ sum_over o (filter r xs) g
        → sum_over o (cond (q t) (t ∷ filter q (flat_map to xs)) (filter q (flat_map to xs))) f ≡ sum_over o (cond b (x ∷ filter r xs) (filter r xs)) g
    by true t e k ih = ap (λ c. sum_over o (cond c (t ∷ filter q (flat_map to xs)) (filter q (flat_map to xs))) f) e ∙ ap₂ o.plus (k refl) ih
    by false t e k ih = ap (λ c. sum_over o (cond c (t ∷ filter q (flat_map to xs)) (filter q (flat_map to xs))) f) e ∙ ih

module _ {K F : Type 0} (p : Fusion K F) (lt : K → K → Bool) (order : IsOrder lt) (before : F → F → Bool) (flow_order : IsOrder before) (rank : K → ℕ) (ok : IsSettled p rank)
    (ns : List K) (ts ys : List Numbered) (ws : List F) (graph : IsCanonicalGraph p lt before ns ts ys ws) where
  node_term : Numbered → Option K → List (TermOf K)
  node_term x None = []
  node_term x (Some k) = record { node = k; vertex = x.vertex; choice = x.choice; branches = keys_at ns x.branches } ∷ []

  term_at : Numbered → List (TermOf K)
  term_at x = node_term x (slice_get ns x.made)

  flow_term : Numbered → Option F → List (KeyTermOf K F)
  flow_term y None = []
  flow_term y (Some u) = record { flow = u; vertex = y.vertex; choice = y.choice; branches = keys_at ns y.branches } ∷ []

  key_at : Numbered → List (KeyTermOf K F)
  key_at y = flow_term y (slice_get ws y.made)

  keyed : (x : Numbered) → IsMetAt p ns x → TermOf K
  keyed x m = record { node = m.node; vertex = x.vertex; choice = x.choice; branches = m.branches }

  keyed_key : (y : Numbered) → IsKeyMetAt p ns ws y → KeyTermOf K F
  keyed_key y m = record { flow = m.flow; vertex = y.vertex; choice = y.choice; branches = m.branches }

  term_is : (x : Numbered) (m : IsMetAt p ns x) → term_at x ≡ keyed x m ∷ []
  unfolding term_at node_term keyed
  term_is x m =
      ap (node_term x) m.is_node ∙ ap (λ (ks : List K). let t : TermOf K = record { node = m.node; vertex = x.vertex; choice = x.choice; branches = ks } in t ∷ []) (keys_are (at_of ns x.branches m.branches m.are_branches))

  key_is : (y : Numbered) (m : IsKeyMetAt p ns ws y) → key_at y ≡ keyed_key y m ∷ []
  unfolding key_at flow_term keyed_key
  key_is y m =
      ap (flow_term y) m.is_flow ∙ ap (λ (ks : List K). let t : KeyTermOf K F = record { flow = m.flow; vertex = y.vertex; choice = y.choice; branches = ks } in t ∷ []) (keys_are (at_of ns y.branches m.branches m.are_branches))

  xs : List (TermOf K)
  xs = flat_map term_at ts

  kys : List (KeyTermOf K F)
  kys = flat_map key_at ys

  in_one : {A : Type 0} (x y : A) (us : List A) → us ≡ y ∷ [] → In x us → x ≡ y
  in_one x y us e i = by (subst (In x) e i)
    where
      by : In x (y ∷ []) → x ≡ y
      by (inl q) = q
      by (inr j) = absurd j

  one_differs : {A : Type 0} (y : A) (us : List A) → us ≡ y ∷ [] → Different us
  one_differs y us e = subst Different (sym e) ((λ i. i), tt)

  exact : PruneIsExact p
  exact = prune_is_exact p ok.has_field rank ok

  -- terms or keystone terms differ, where their numbers stand for members of `ms` and for nodes
  by_numbers_differ : {M T : Type 0} (le : M → M → Bool) → IsOrder le → (ms : List M) → Rising le ms → (made : T → M) (vertex choice : T → ℕ) (branches : T → List K) (to : Numbered → List T) (zs : List Numbered) → Rising numbered_lt zs
      → ((x : Numbered) → In x zs → (t : T) × (to x ≡ t ∷ []) × (slice_get ms x.made ≡ Some (made t)) × (x.vertex ≡ vertex t) × (x.choice ≡ choice t) × (at_numbers ns x.branches ≡ Some (branches t))) → Different (flat_map to zs)
  by_numbers_differ le t ms rise made vertex choice branches to zs rises stand = different_flat_map to zs (numbered_differ zs rises)
      (λ x i. let u = stand x i in one_differs u.0 (to x) u.1)
      (λ x z y i j a b.
      let u = stand x i in
      let w = stand z j in
      let q : u.0 ≡ w.0 = sym (in_one y u.0 (to x) u.1 a) ∙ in_one y w.0 (to z) w.1 b in
      same_numbered x z (number_once le t ms rise x.made z.made (made w.0) (u.2 ∙ ap (λ s. Some (made s)) q) w.2) (u.3 ∙ ap vertex q ∙ sym w.3) (u.4 ∙ ap choice q ∙ sym w.4)
      (at_once lt order ns graph.nodes_rise (at_of ns x.branches (branches u.0) u.5) (subst (At ns z.branches) (sym (ap branches q)) (at_of ns z.branches (branches w.0) w.5))))

  terms_differ : Different xs
  unfolding xs keyed
  terms_differ = by_numbers_differ lt order ns graph.nodes_rise (λ (t : TermOf K). t.node) (λ t. t.vertex) (λ t. t.choice) (λ t. t.branches) term_at ts graph.terms_rise
      (λ x i. let m = (graph.terms x).0 i in (keyed x m, term_is x m, m.is_node, refl, refl, m.are_branches))

  keys_differ : Different kys
  unfolding kys keyed_key
  keys_differ = by_numbers_differ before flow_order ws graph.flows_rise (λ (t : KeyTermOf K F). t.flow) (λ t. t.vertex) (λ t. t.choice) (λ t. t.branches) key_at ys graph.keys_rise
      (λ y i. let m = (graph.keys y).0 i in (keyed_key y m, key_is y m, m.is_flow, refl, refl, m.are_branches))

  node_in : (k : K) → Reached p k → In k ns
  node_in k r = (graph.nodes k).1 ((exact.nodes k).1 r)

  term_member : (t : TermOf K) → In t xs ↔ IsMet p t
  unfolding xs keyed
  term_member t = (
    (λ i.
        let r = from_flat_map term_at t ts i in
        let m = (graph.terms r.0).0 r.1 in
        subst (IsMet p) (sym (in_one t (keyed r.0 m) (term_at r.0) (term_is r.0 m) r.2)) m.met),
    (λ h.
        let q = (exact.terms t).0 h in
        let n = number_of t.node ns (node_in t.node q.1) in
        let b = at_all ns t.branches (λ k i. node_in k (from_term t q.0 q.1 i)) in
        let x : Numbered = record { made = n.0; vertex = t.vertex; choice = t.choice; branches = b.0 } in
        let m : IsMetAt p ns x = record { node = t.node; branches = t.branches; is_node = n.1; are_branches = of_at b.1; met = h } in
        in_flat_map term_at x t ts ((graph.terms x).1 m) (subst (In t) (sym (term_is x m)) (inl refl))),
  )

  key_member : (t : KeyTermOf K F) → In t kys ↔ IsKeyMet p t
  unfolding kys keyed_key
  key_member t = (
    (λ i.
        let r = from_flat_map key_at t ys i in
        let m = (graph.keys r.0).0 r.1 in
        subst (IsKeyMet p) (sym (in_one t (keyed_key r.0 m) (key_at r.0) (key_is r.0 m) r.2)) m.met),
    (λ h.
        let q = (exact.keys t).0 h in
        let n = number_of t.flow ws ((graph.flows t.flow).1 (record { vertex = t.vertex; choice = t.choice; parts = h.branches }, record { keys = t.branches; have = h.have; close = h.close })) in
        let b = at_all ns t.branches (λ k i. node_in k (from_key t q i)) in
        let x : Numbered = record { made = n.0; vertex = t.vertex; choice = t.choice; branches = b.0 } in
        let m : IsKeyMetAt p ns ws x = record { flow = t.flow; branches = t.branches; is_flow = n.1; are_branches = of_at b.1; met = h } in
        in_flat_map key_at x t ys ((graph.keys x).1 m) (subst (In t) (sym (key_is x m)) (inl refl))),
  )

  -- by keys it is the same graph
  is_canonical : IsCanonical p lt before ns xs kys ws
  is_canonical = record {
    nodes_rise = graph.nodes_rise;
    nodes = graph.nodes;
    terms_once = terms_differ;
    terms = term_member;
    keys_once = keys_differ;
    keys = key_member;
    flows_rise = graph.flows_rise;
    flows = graph.flows;
  }

  module _ {E : Type 0} (o : Ops E) (rules : KeyRules E K) (wave : ℕ → ℕ → E) where
    node : K → ℕ → E
    node k i = wave (place lt ns k) i

    node_is : (n : ℕ) (k : K) (i : ℕ) → slice_get ns n ≡ Some k → node k i ≡ wave n i
    unfolding node
    node_is n k i e = ap (λ m. wave m i) (number_once lt order ns graph.nodes_rise (place lt ns k) n k (place_gets lt order k ns (in_by_number ns n k e)) e)

    meet_same : {is : List ℕ} {ks : List K} → At ns is ks → (entry : List ℕ → E) → meet o rules node ks entry ≡ meet_at o rules.indices ns wave is entry
    unfolding meet meet_at
    meet_same at_none entry = refl
    meet_same (at_more {n = n} {ns = is} {y = y} {ys = ks} e a) entry =
        sum_over-ext o (rules.indices y) (λ i. o.times (node y i) (meet o rules node ks (λ js. entry (i ∷ js)))) (λ i. o.times (wave n i) (meet_at o rules.indices ns wave is (λ js. entry (i ∷ js))))
        (λ i. ap₂ o.times (node_is n y i e) (meet_same a (λ js. entry (i ∷ js))))
        ∙ ap (λ u. sum_over o (indices_at rules.indices u) (λ i. o.times (wave n i) (meet_at o rules.indices ns wave is (λ js. entry (i ∷ js))))) (sym e)

    term_same : (x : Numbered) (m : IsMetAt p ns x) (j : ℕ) → keyed_term_value o rules p node (keyed x m) j ≡ term_value_at o rules ns wave m.node x j
    unfolding keyed
    term_same x m j =
        let a = at_of ns x.branches m.branches m.are_branches in
        ap (signed o (rules.minus x.vertex m.node m.branches)) (meet_same a (rules.fused x.vertex x.choice m.node m.branches j))
        ∙ ap (λ ks. signed o (rules.minus x.vertex m.node ks) (meet_at o rules.indices ns wave x.branches (rules.fused x.vertex x.choice m.node ks j))) (sym (keys_are a))

    key_same : (y : Numbered) (m : IsKeyMetAt p ns ws y) → keyed_key_value o rules p node (keyed_key y m) ≡ key_value_at o rules ns wave y
    unfolding keyed_key
    key_same y m =
        let a = at_of ns y.branches m.branches m.are_branches in
        ap (signed o (rules.closed_minus y.vertex m.branches)) (meet_same a (rules.closed y.vertex y.choice m.branches))
        ∙ ap (λ ks. signed o (rules.closed_minus y.vertex ks) (meet_at o rules.indices ns wave y.branches (rules.closed y.vertex y.choice ks))) (sym (keys_are a))

    same_test : {A : Type 0} (le : A → A → Bool) (xs : List A) → IsOrder le → Rising le xs → (m n : ℕ) (x y : A) → slice_get xs m ≡ Some x → slice_get xs n ≡ Some y → same_by le x y ≡ eqb m n
    same_test le xs t r m n x y e g = both (same_by le x y) (eqb m n) refl refl
      where
        both : (a b : Bool) → same_by le x y ≡ a → eqb m n ≡ b → a ≡ b
        both true true u v = refl
        both false false u v = refl
        both true false u v =
            let q : x ≡ y = same_by_is le t x y u in
            sym (sym v ∙ eq-eqb m n (number_once le t xs r m n y (e ∙ ap Some q) g))
        both false true u v =
            let q : m ≡ n = eqb-true m n v in
            sym u ∙ is_same_by le t x y (same_Some x y (sym e ∙ ap (slice_get xs) q ∙ g))

    waves_same : AreWavesAt o rules ns p ts wave → AreKeyedWaves o rules p (λ k. In k ns) (terms_of lt xs) node
    unfolding node xs keyed
    waves_same w = record {
      at_leg = λ j i low high h. w.at_leg (place lt ns (p.leg j)) j i (place_gets lt order (p.leg j) ns h) low high;
      at_inner = λ k h inner i.
          let e = place_gets lt order k ns h in
          w.at_inner (place lt ns k) k e inner i
          ∙ sum_over-ext o (rules.indices k) _ (λ j. o.times (rules.propagator k i j) (sum_over o (terms_of lt xs k) (λ x. keyed_term_value o rules p node x j))) (λ j.
          ap (o.times (rules.propagator k i j)) (sym (sum_both o (λ x. keyed_term_value o rules p node x j) (λ x. term_value_at o rules ns wave k x j) term_at (λ (x : TermOf K). same_by lt x.node k) (λ (x : Numbered). eqb x.made (place lt ns k)) ts
          (λ x a.
          let m = (graph.terms x).0 a in (
            keyed x m,
            term_is x m,
            same_test lt ns order graph.nodes_rise x.made (place lt ns k) m.node k m.is_node e,
            λ c. let q : m.node ≡ k = same_Some m.node k (sym m.is_node ∙ ap (slice_get ns) (eqb-true x.made (place lt ns k) c) ∙ e) in term_same x m j ∙ ap (λ b. term_value_at o rules ns wave b x j) q,
          )))));
    }

    -- what the keystone terms of a flow give
    flow_same : (n : ℕ) (u : F) → slice_get ws n ≡ Some u → sum_over o (keys_of before kys u) (keyed_key_value o rules p node) ≡ sum_over o (filter (λ (y : Numbered). eqb y.made n) ys) (key_value_at o rules ns wave)
    unfolding kys keyed_key
    flow_same n u e =
        sum_both o (keyed_key_value o rules p node) (key_value_at o rules ns wave) key_at (λ (y : KeyTermOf K F). same_by before y.flow u) (λ (y : Numbered). eqb y.made n) ys
        (λ y a. let m = (graph.keys y).0 a in (keyed_key y m, key_is y m, same_test before ws flow_order graph.flows_rise y.made n m.flow u m.is_flow e, λ c. key_same y m))

    values_same : (ends : F → List ℕ) (n : ℕ) (us : List F) → ((j : ℕ) (u : F) → slice_get us j ≡ Some u → slice_get ws (n + j) ≡ Some u)
        → map (λ u. (ends u, sum_over o (keys_of before kys u) (keyed_key_value o rules p node))) us ≡ values_at o rules ns wave ends ys n us
    unfolding values_at
    values_same ends n [] h = refl
    values_same ends n (u ∷ us) h =
        let e : slice_get ws n ≡ Some u = ap (slice_get ws) (plus_none n) ∙ h 0 u refl in
        ap₂ (λ x rest. (ends u, x) ∷ rest) (flow_same n u e) (values_same ends (suc n) us (λ j v g. ap (slice_get ws) (plus_more n j) ∙ h (suc j) v g))
      where
        plus_none : (n : ℕ) → n ≡ n + 0
        plus_none n = omega arith

        plus_more : (n j : ℕ) → suc n + j ≡ n + suc j
        plus_more n j = omega arith

    from_none : (j : ℕ) (u : F) → slice_get ws j ≡ Some u → slice_get ws (0 + j) ≡ Some u
    from_none j u e = ap (slice_get ws) (none_plus j) ∙ e
      where
        none_plus : (j : ℕ) → 0 + j ≡ j
        none_plus j = omega arith

  module _ {E : Type 0} (o : Ops E) (l : Laws o) (s : Scattering) (r : FeynmanRules E) (w : Lines) (e : Event E) (view : KeyView K) (ends : F → List ℕ) (by_ends : (u v : F) → before u v ≡ numbers_lt (ends u) (ends v))
      (shows : ShowsParts p view s) (odd : Tree → Bool) (signs : AreSigns p view odd) (hung : Opened → Tree) (ds : List Tree) (once : Different ds) (opens : AreOpenedDiagrams o s r w e p view ends odd hung ds) (are : AreDiagrams s ds)
      (wave : ℕ → ℕ → E) (waves : AreWavesAt o (model_rules o s r e view) ns p ts wave) where
    values_are : values_at o (model_rules o s r e view) ns wave ends ys 0 ws ≡ graph_values o s r e p view ends (keys_of before kys) ws (node o (model_rules o s r e view) wave)
    values_are = sym (values_same o (model_rules o s r e view) wave ends 0 ws (from_none o (model_rules o s r e view) wave))

    keyed_answers : (a : Answer E) → KeyedAnswers o s r e p view ends ns (keys_of before kys) ws (node o (model_rules o s r e view) wave) a ↔ IsAnswer o s r w e a
    keyed_answers a =
        is_answer p lt order before flow_order rank ok ns graph.nodes (terms_of lt xs) (are_terms p lt order before flow_order rank ok ns xs kys ws is_canonical) (keys_of before kys) (are_keys p lt order before flow_order rank ok ns xs kys ws is_canonical) ws graph.flows_rise graph.flows o l
        s r w e view ends by_ends shows odd signs hung ds once opens (node o (model_rules o s r e view) wave) (waves_same o (model_rules o s r e view) wave waves) are a

    -- the answer by numbers is the answer to the event
    pub numbered_answers : (a : Answer E) → NumberedAnswers o s r e p view ends ns ys ws wave a ↔ IsAnswer o s r w e a
    numbered_answers unbalanced = keyed_answers unbalanced
    numbered_answers (pole name) = keyed_answers (pole name)
    numbered_answers (values vs) = (
      (λ h. (keyed_answers (values vs)).0 (h.0, h.1, h.2 ∙ values_are)),
      (λ h. let g = (keyed_answers (values vs)).1 h in (g.0, g.1, g.2 ∙ sym values_are)),
    )
