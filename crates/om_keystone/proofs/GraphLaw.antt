-- The answer of the canonical graph is the answer of all diagrams.
use Rattle.std.proofs.Common.{◌≡◌, ℕ, ◌+◌, ◌<◌, List, [], ◌∷◌, map, filter, Bool, true, false, ◌↔◌, inl, inr, refl, ap, ap₂, sym, subst, ◌∙◌, arith}
use Rattle.om_ring.specs.Members.{In, Different}
use Rattle.om_ring.specs.Ops.{Ops, Laws, signed}
use Rattle.om_ring.specs.Sums.{sum_over}
use Rattle.om_ring.proofs.SumLemmas.{sum_over-map, sum_over-same_members}
use Rattle.om_model.specs.Theory.{Scattering}
use Rattle.om_model.specs.Tree.{Tree}
use Rattle.om_model.specs.Tree.Tree.{leaf, join}
use Rattle.om_model.specs.Order.{IsOrder, BeforeAll, Rising, rising_of, numbers_lt}
use Rattle.om_model.specs.Event.{Event, Balances}
use Rattle.om_model.specs.FeynmanRules.{FeynmanRules}
use Rattle.om_model.specs.Lines.{Lines}
use Rattle.om_model.specs.Propagator.{EdgeName, edge_name}
use Rattle.om_model.specs.Value.{value}
use Rattle.om_model.specs.Answer.{Answer, same_flow, HasPole, flows, value_of_flow, values_of, Answers, IsAnswer}
use Rattle.om_model.specs.Diagrams.{AreDiagrams}
use Rattle.om_model.proofs.AllDiagrams.{only_one}
use Rattle.om_model.specs.Answer.Answer.{unbalanced, pole, values}
use Rattle.om_ring.proofs.Members.{in_map, in_filter, map-map, different_map, in_mapped, different_filter}
use Rattle.om_model.proofs.Rising.{rising_unique, rising_of_rising, in_rising_of, numbers_order}
use Rattle.om_model.specs.Opened.{Opened}
use Rattle.om_graph.specs.Fusion.{Fusion, HasKey}
use Rattle.om_keystone.specs.InDiagrams.{TermOf, KeyTermOf, IsOpened, IsOutward, IsFlowMet}
use Rattle.om_keystone.proofs.Reaching.{Reached, IsSettled}
use Rattle.om_keystone.proofs.Reaching.Reached.{from_key, from_term}
use Rattle.om_keystone.proofs.KeyedWaves.{keyed_key_value, AreOpenedValues, AreTermsOf, AreKeysOf}
use Rattle.om_keystone.proofs.ModelRules.{KeyView, model_rules, AreSigns, ShowsParts, IsJoin, HasEdge, AreOpenedDiagrams}
use Rattle.om_keystone.specs.EdgeRules.{name_of}
use Rattle.om_keystone.proofs.ModelRules.IsJoin.{is_join}
use Rattle.om_keystone.proofs.KeyedAnswer.{IsCanonical, same_by, terms_of, keys_of, IsInner, AreWaves, HasKeyedPole, graph_values, KeyedAnswers}
use Rattle.om_keystone.proofs.Standing.{standing, stood}
use Rattle.om_keystone.proofs.Reached.{prune_is_exact, seen_here}
use Rattle.om_keystone.proofs.Grown.{same_by_is, is_same_by}
use Rattle.om_keystone.proofs.NodeSums.{opened_exist, flow_is_sum, minus_zero}
use Rattle.om_keystone.proofs.ModelWaves.{name_is, signed_wave, are_tree_waves, opened_sum}

rising_map : {A B : Type 0} (f : A → B) (lt : A → A → Bool) (before : B → B → Bool) → ((x y : A) → lt x y ≡ before (f x) (f y)) → (xs : List A) → Rising lt xs → Rising before (map f xs)
rising_map f lt before h [] r = tt
rising_map {A} f lt before h (x ∷ xs) r = (before_all x xs r.0, rising_map f lt before h xs r.1)
  where
    before_all : (x : A) (ys : List A) → BeforeAll lt x ys → BeforeAll before (f x) (map f ys)
    before_all x [] b = tt
    before_all x (y ∷ ys) b = (sym (h x y) ∙ b.0, before_all x ys b.1)

map_same : {A B : Type 0} (f g : A → B) → ((x : A) → f x ≡ g x) → (xs : List A) → map f xs ≡ map g xs
map_same f g h [] = refl
map_same f g h (x ∷ xs) = ap₂ ◌∷◌ (h x) (map_same f g h xs)

-- a bound on the ranks of the nodes
unfoldable total : {K : Type 0} → (K → ℕ) → List K → ℕ
total rank [] = 1
total rank (k ∷ ks) = rank k + total rank ks

below_total : {K : Type 0} (rank : K → ℕ) (ks : List K) (k : K) → In k ks → rank k < total rank ks
unfolding total
below_total rank [] k i = absurd i
below_total {K} rank (j ∷ ks) k (inl e) = let q : rank k ≡ rank j = ap rank e in omega (arith, some ks)
  where
    some : (ks : List K) → 0 < total rank ks
    some [] = omega arith
    some (j ∷ ks) = omega (arith, some ks)
below_total rank (j ∷ ks) k (inr i) = omega (arith, below_total rank ks k i)

value_signed : {E : Type 0} (o : Ops E) (l : Laws o) (s : Scattering) (r : FeynmanRules E) (e : Event E) (b : Bool) (t : Tree) → value o s r e b t ≡ signed o b (value o s r e false t)
unfolding value
value_signed o l s r e true (leaf k) = sym (minus_zero o l)
value_signed o l s r e false (leaf k) = refl
value_signed o l s r e true (join f v c bs) = refl
value_signed o l s r e false (join f v c bs) = refl

module _ {K F : Type 0} (p : Fusion K F) (lt : K → K → Bool) (order : IsOrder lt) (before : F → F → Bool) (flow_order : IsOrder before) (rank : K → ℕ) (ok : IsSettled p rank)
    (ns : List K) (xs : List (TermOf K)) (ys : List (KeyTermOf K F)) (ws : List F) (canonical : IsCanonical p lt before ns xs ys ws) where
  node_reached : (k : K) → In k ns → Reached p k
  node_reached k i = ((prune_is_exact p ok.has_field rank ok).nodes k).0 ((canonical.nodes k).0 i)

  reached_node : (k : K) → Reached p k → In k ns
  reached_node k h = (canonical.nodes k).1 (((prune_is_exact p ok.has_field rank ok).nodes k).1 h)

  pub are_terms : AreTermsOf p (λ k. In k ns) (terms_of lt xs)
  are_terms = record {
    once = λ k. different_filter (λ (x : TermOf K). same_by lt x.node k) xs canonical.terms_once;
    members = λ k i x.
        let f = in_filter (λ (x : TermOf K). same_by lt x.node k) x xs in (
          (λ m. ((((prune_is_exact p ok.has_field rank ok).terms x).0 ((canonical.terms x).0 (f.0 m).0)).0, same_by_is lt order x.node k (f.0 m).1)),
          (λ q. f.1 ((canonical.terms x).1 (((prune_is_exact p ok.has_field rank ok).terms x).1 (q.0, subst (Reached p) (sym q.1) (node_reached k i))), is_same_by lt order x.node k q.1)),
        );
    branches = λ x b t i m. reached_node b (from_term x t (node_reached x.node i) m);
  }

  pub are_keys : (u : F) → AreKeysOf p (λ k. In k ns) u (keys_of before ys u)
  are_keys u = record {
    once = different_filter (λ (y : KeyTermOf K F). same_by before y.flow u) ys canonical.keys_once;
    members = λ y.
        let f = in_filter (λ (y : KeyTermOf K F). same_by before y.flow u) y ys in (
          (λ m. (((prune_is_exact p ok.has_field rank ok).keys y).0 ((canonical.keys y).0 (f.0 m).0), same_by_is before flow_order y.flow u (f.0 m).1)),
          (λ q. f.1 ((canonical.keys y).1 (((prune_is_exact p ok.has_field rank ok).keys y).1 q.0), is_same_by before flow_order y.flow u q.1)),
        );
    branches = λ y b m i. reached_node b (from_key y (((prune_is_exact p ok.has_field rank ok).keys y).0 ((canonical.keys y).0 ((in_filter (λ (y : KeyTermOf K F). same_by before y.flow u) y ys).0 m).0)) i);
  }

-- the nodes, the terms of each node, the keystone terms of each flow, and the flows
module _ {K F : Type 0} (p : Fusion K F) (lt : K → K → Bool) (order : IsOrder lt) (before : F → F → Bool) (flow_order : IsOrder before) (rank : K → ℕ) (ok : IsSettled p rank)
    (ns : List K) (nodes : (k : K) → In k ns ↔ IsOutward p k) (terms : K → List (TermOf K)) (are_terms : AreTermsOf p (λ k. In k ns) terms)
    (keys : F → List (KeyTermOf K F)) (are_keys : (u : F) → AreKeysOf p (λ k. In k ns) u (keys u)) (ws : List F) (flows_rise : Rising before ws) (flows_met : (u : F) → In u ws ↔ IsFlowMet p u) where
  reached_in : (k : K) → Reached p k → In k ns
  reached_in k h = (nodes k).1 (((prune_is_exact p ok.has_field rank ok).nodes k).1 h)

  module _ {E : Type 0} (o : Ops E) (l : Laws o) (s : Scattering) (r : FeynmanRules E) (w : Lines) (e : Event E) (view : KeyView K) (ends : F → List ℕ) (by_ends : (u v : F) → before u v ≡ numbers_lt (ends u) (ends v))
      (shows : ShowsParts p view s) (odd : Tree → Bool) (signs : AreSigns p view odd) (hung : Opened → Tree) (ts : List Tree) (once : Different ts) (opens : AreOpenedDiagrams o s r w e p view ends odd hung ts)
      (node : K → ℕ → E) (waves : AreWaves o s r e p view ends ns terms node) where
    diagram_value : Tree → E
    diagram_value t = value o s r e (w.is_odd t) t

    same_ends : (u v : F) → ends u ≡ ends v → u ≡ v
    same_ends u v h =
        flow_order.total u v
        (by_ends u v ∙ ap (λ xs. numbers_lt xs (ends v)) h ∙ numbers_order.irreflexive (ends v))
        (by_ends v u ∙ ap (numbers_lt (ends v)) h ∙ numbers_order.irreflexive (ends v))

    opened_values : Balances o e s.size → AreOpenedValues o (model_rules o s r e view) p (signed_wave o l s r e p view shows odd signs) (λ a. diagram_value (hung a))
    unfolding diagram_value
    opened_values balanced = record {
      at_keystone = λ a u ks h c.
          let it : IsOpened p a u = record { keys = ks; have = h; close = c } in
          value_signed o l s r e (w.is_odd (hung a)) (hung a)
          ∙ ap₂ (signed o) (opens.sign a u it) (opens.value a u it balanced)
          ∙ opened_sum o l s r e p view shows odd signs a ks h;
    }

    same_flow_is : (xs zs : List ℕ) → same_flow xs zs ≡ true → xs ≡ zs
    same_flow_is xs zs h = same_by_is numbers_lt numbers_order xs zs h

    -- the diagrams that have a flow
    with_flow : F → List Tree
    with_flow u = filter (λ t. same_flow (w.flow t) (ends u)) ts

    to_flow : (u : F) (a : Opened) → IsOpened p a u → In (hung a) (with_flow u)
    unfolding with_flow
    to_flow u a h = (in_filter (λ t. same_flow (w.flow t) (ends u)) (hung a) ts).1 (opens.is_diagram a u h, is_same_by numbers_lt numbers_order (w.flow (hung a)) (ends u) (opens.flow a u h))

    from_flow : (u : F) (t : Tree) → In t (with_flow u) → (a : Opened) × IsOpened p a u × (hung a ≡ t)
    unfolding with_flow
    from_flow u t i =
        let b = (in_filter (λ t. same_flow (w.flow t) (ends u)) t ts).0 i in
        let k = opens.has_keystone t b.0 in
        let q : k.1 ≡ u = same_ends k.1 u (sym (opens.flow k.0 k.1 k.2) ∙ ap w.flow k.3 ∙ same_flow_is (w.flow t) (ends u) b.1) in
        (k.0, subst (IsOpened p k.0) q k.2, k.3)

    -- a flow's keystone terms give the sum of its diagrams
    flow_value : Balances o e s.size → (u : F) → sum_over o (keys u) (keyed_key_value o (model_rules o s r e view) p node) ≡ value_of_flow o s r w e ts (ends u)
    unfolding with_flow diagram_value
    flow_value balanced u =
        let most = total rank ns in
        let tree_wave = signed_wave o l s r e p view shows odd signs in
        let tree_waves = are_tree_waves o l s r e p view shows odd signs in
        let found = opened_exist o l p lt order rank ok (λ k. In k ns) terms are_terms (model_rules o s r e view) tree_wave tree_waves node waves most (λ k i. below_total rank ns k i) (λ a. diagram_value (hung a)) (opened_values balanced) u (keys u) (are_keys u) in
        let list = found.0 in
        flow_is_sum o l p lt order rank ok (λ k. In k ns) terms are_terms (model_rules o s r e view) tree_wave tree_waves node waves most (λ k i. below_total rank ns k i) (λ a. diagram_value (hung a)) (opened_values balanced) u (keys u) (are_keys u) list found.1
        ∙ sym (sum_over-map o hung list diagram_value)
        ∙ sum_over-same_members o l diagram_value (map hung list) (with_flow u)
        (different_map hung list (λ a b i j h. opens.one_keystone a b u u ((found.1.members a).0 i) ((found.1.members b).0 j) h) found.1.once)
        (different_filter (λ t. same_flow (w.flow t) (ends u)) ts once) (
          (λ t i. let m = in_mapped hung t list i in let P : Tree → Type 0 = λ x. In x (with_flow u) in subst P (sym m.2) (to_flow u m.0 ((found.1.members m.0).0 m.1))),
          (λ t i. let k = from_flow u t i in let P : Tree → Type 0 = λ x. In x (map hung list) in subst P k.2 (in_map hung k.0 list ((found.1.members k.0).1 k.1))),
        )

    flows_are : map ends ws ≡ flows o s r w e ts
    flows_are =
        rising_unique numbers_lt numbers_order (map ends ws) (rising_of numbers_lt (map w.flow ts)) (rising_map ends before numbers_lt by_ends ws flows_rise) (rising_of_rising numbers_lt numbers_order (map w.flow ts))
        (λ z i.
        let m = in_mapped ends z ws i in
        let a = (flows_met m.0).0 m.1 in
        (in_rising_of numbers_lt numbers_order z (map w.flow ts)).0 (subst (λ x. In x (map w.flow ts)) (opens.flow a.0 m.0 a.1 ∙ sym m.2) (in_map w.flow (hung a.0) ts (opens.is_diagram a.0 m.0 a.1))))
        (λ z i.
        let m = in_mapped w.flow z ts ((in_rising_of numbers_lt numbers_order z (map w.flow ts)).1 i) in
        let k = opens.has_keystone m.0 m.1 in
        subst (λ x. In x (map ends ws)) (sym (opens.flow k.0 k.1 k.2) ∙ ap w.flow k.3 ∙ sym m.2) (in_map ends k.1 ws ((flows_met k.1).1 (k.0, k.2))))

    pub values_are : Balances o e s.size → graph_values o s r e p view ends keys ws node ≡ values_of o s r w e ts
    values_are balanced =
        map_same (λ u. (ends u, sum_over o (keys u) (keyed_key_value o (model_rules o s r e view) p node))) (λ u. (ends u, value_of_flow o s r w e ts (ends u))) (λ u. ap (λ x. (ends u, x)) (flow_value balanced u)) ws
        ∙ sym (map-map (λ flow. (flow, value_of_flow o s r w e ts flow)) ends ws)
        ∙ ap (map (λ flow. (flow, value_of_flow o s r w e ts flow))) flows_are

    inner_join : (t : Tree) → (k : K) → IsInner p k → HasKey p t k → IsJoin t
    unfolding HasKey
    inner_join (leaf j) k inner has = absurd (inner j has.0 has.1 has.2)
    inner_join (join f v c bs) k inner has = is_join

    -- the inner edges of the diagrams are the inner nodes
    from_node : (name : EdgeName) → HasKeyedPole o s r e p view ends ns name → HasPole o s r w e ts name
    from_node name h =
        let d = (nodes h.node).0 h.is_node in
        let t = d.0 in
        let a = d.1 in
        let named : name ≡ edge_name s t = h.is_named ∙ sym (ap (name_of s) (shows t h.node d.2)) ∙ sym (name_is s t) in
        let u = (opens.edges a.diagram a.flow a.opened name).1 (t, stood t a.diagram.parts a.hangs, inner_join t h.node h.is_inner d.2, named) in
        record { diagram = hung a.diagram; edge = u.0; is_diagram = opens.is_diagram a.diagram a.flow a.opened; is_edge = u.1; is_named = u.2; is_pole = h.is_pole }

    join_inner : (t : Tree) → IsJoin t → (k : K) → HasKey p t k → IsInner p k
    unfolding HasKey
    join_inner t (is_join {f = f} {v = v} {c = c}) k h j low high q =
        let a = ok.fused_rank f v c h.0 k h.2 in
        let b : rank k ≡ 1 = ap rank q ∙ ok.leg_rank j low high in
        omega arith

    to_node : (name : EdgeName) → HasPole o s r w e ts name → HasKeyedPole o s r e p view ends ns name
    to_node name h =
        let k = opens.has_keystone h.diagram h.is_diagram in
        let edge : HasEdge s h.diagram name = (h.edge, h.is_edge, h.is_named) in
        let b = (opens.edges k.0 k.1 k.2 name).0 (subst (λ x. HasEdge s x name) (sym k.3) edge) in
        let seen = seen_here p ok.has_field b.0 (record { diagram = k.0; flow = k.1; opened = k.2; hangs = standing b.0 k.0.parts b.1 }) in
        record {
          node = seen.key;
          is_node = reached_in seen.key seen.reached;
          is_inner = join_inner b.0 b.2 seen.key seen.has_key;
          is_named = b.3 ∙ name_is s b.0 ∙ ap (name_of s) (shows b.0 seen.key seen.has_key);
          is_pole = h.is_pole;
        }

    -- the answer of the graph is the answer of the diagrams
    graph_answers : (a : Answer E) → KeyedAnswers o s r e p view ends ns keys ws node a ↔ Answers o s r w e ts a
    graph_answers unbalanced = ((λ h. h), (λ h. h))
    graph_answers (pole name) = (
      (λ h. (h.0, from_node name h.1, λ other g. h.2 other (to_node other g))),
      (λ h. (h.0, to_node name h.1, λ other g. h.2 other (from_node other g))),
    )
    graph_answers (values vs) = (
      (λ h. (h.0, (λ name g. h.1 name (to_node name g)), h.2 ∙ values_are h.0)),
      (λ h. (h.0, (λ name g. h.1 name (from_node name g)), h.2 ∙ sym (values_are h.0))),
    )

    -- given that they are all diagrams of the process
    pub is_answer : AreDiagrams s ts → (a : Answer E) → KeyedAnswers o s r e p view ends ns keys ws node a ↔ IsAnswer o s r w e a
    is_answer are a = (
      (λ h. (ts, are, (graph_answers a).0 h)),
      (λ h. (graph_answers a).1 (let P : List Tree → Type 0 = λ us. Answers o s r w e us a in subst P (only_one s h.0 ts h.1 are) h.2)),
    )
