-- The answer that a graph gives with the signs that stand in it is the one by keys.
use Rattle.std.proofs.Common.{◌≡◌, ℕ, suc, ◌≤◌, List, [], ◌∷◌, map, filter, Bool, true, false, cond, inl, inr, refl, ap, ap₂, sym, ◌∙◌, ◌↔◌}
use Rattle.std.specs.Prelude.{Option, Some, None, slice_get, ◌==◌, if◌then◌else◌}
use Rattle.std.proofs.lemmas.Bool.{eqb-true}
use Rattle.om_ring.specs.Members.{In}
use Rattle.om_ring.specs.Ops.{Ops, Laws, signed}
use Rattle.om_ring.specs.Sums.{sum_over}
use Rattle.om_ring.proofs.SumLemmas.{sum_over-same, sum_over-ext}
use Rattle.om_legs.specs.Legs as sets
use Rattle.om_colour.specs.declared.Flow.{Flow}
use Rattle.om_model.specs.Theory.{Scattering}
use Rattle.om_model.specs.Event.{Event}
use Rattle.om_model.specs.FeynmanRules.{FeynmanRules}
use Rattle.om_model.specs.FermionLines.{Kinds}
use Rattle.om_model.specs.Propagator.{EdgeName}
use Rattle.om_model.specs.Answer.{Answer}
use Rattle.om_model.specs.Answer.Answer.{unbalanced, pole, values}
use Rattle.om_model.specs.ModelLines.{kinds_of}
use Rattle.om_model.specs.Entries.{feynman_rules}
use Rattle.om_ring.proofs.Members.{in_map}
use Rattle.om_graph.specs.declared.Graph.{Graph}
use Rattle.om_graph.specs.declared.Key.{Key}
use Rattle.om_graph.specs.declared.KeyTerm.{KeyTerm}
use Rattle.om_graph.specs.declared.Term.{Term}
use Rattle.om_graph.specs.Graph.{Numbered}
use Rattle.om_graph.specs.Possible.{unsigned, unsigned_key}
use Rattle.om_legs.specs.BranchNodes.{nodes_of}
use Rattle.om_graph.specs.TreeKeys.{IsReaction}
use Rattle.om_graph.specs.Vertices.{Reaction, fusion}
use Rattle.om_graph.specs.Reactions.{reaction_of}
use Rattle.om_graph.proofs.HaveReactions.{well_formed_have_reactions}
use Rattle.om_keystone.specs.Built.{terms_at, keys_at_flow}
use Rattle.om_keystone.specs.CanonicalGraph.{IsCanonicalOf}
use Rattle.om_keystone.specs.NodeWaves.{keys_at, indices_at, meet_at, node_indices, term_value, key_value, node_wave, AreNodeWaves, flow_values, HasPoleNode, GraphAnswers}
use Rattle.om_keystone.specs.Laws.{CanonicalGraphGivesAnswer}
use Rattle.om_keystone.proofs.KeyedAnswer.{IsInner, HasKeyedPole}
use Rattle.om_keystone.proofs.KeyedWaves.{KeyRules}
use Rattle.om_keystone.proofs.ModelRules.{model_rules}
use Rattle.om_keystone.proofs.Nodes.{leg_or_inner, leg_is_leg, inner_is_inner, least_leg}
use Rattle.om_keystone.proofs.NumberedAnswer.{term_value_at, key_value_at, AreWavesAt, NumberedAnswers, values_at}
use Rattle.om_keystone.proofs.Numbers.{at_of, keys_are}
use Rattle.om_graph.proofs.SetNodes.{in_by_number}
use Rattle.om_keystone.proofs.View.{key_view, flow_ends}
use Rattle.om_keystone.proofs.Canonical.{keyed_answers}

-- sums over the members that pass a test, before and after a change of each
sum_changed : {E A B : Type 0} (o : Ops E) (f : A → B) (q : B → Bool) (a : A → E) (b : B → E) (xs : List A) → ((x : A) → In x xs → q (f x) ≡ true → a x ≡ b (f x)) → sum_over o (filter (λ x. q (f x)) xs) a ≡ sum_over o (filter q (map f xs)) b
sum_changed o f q a b [] h = refl
sum_changed {E} {A} {B} o f q a b (x ∷ xs) h = by (q (f x)) refl (sum_changed o f q a b xs (λ y i. h y (inr i)))
  where
    by : (t : Bool) → q (f x) ≡ t → sum_over o (filter (λ x. q (f x)) xs) a ≡ sum_over o (filter q (map f xs)) b
        → sum_over o (cond t (x ∷ filter (λ x. q (f x)) xs) (filter (λ x. q (f x)) xs)) a ≡ sum_over o (cond t (f x ∷ filter q (map f xs)) (filter q (map f xs))) b
    by true e ih = ap₂ o.plus (h x (inl refl) e) ih
    by false e ih = ih

-- two wave functions that agree at the indices of the nodes meet in the same sum
meet_agrees : {E K : Type 0} (o : Ops E) (indices : K → List ℕ) (ns : List K) (v w : ℕ → ℕ → E) → ((n : ℕ) (k : K) → slice_get ns n ≡ Some k → (i : ℕ) → In i (indices k) → v n i ≡ w n i)
    → (is : List ℕ) (entry : List ℕ → E) → meet_at o indices ns v is entry ≡ meet_at o indices ns w is entry
unfolding meet_at
meet_agrees o indices ns v w h [] entry = refl
meet_agrees {E} {K} o indices ns v w h (n ∷ is) entry = by (slice_get ns n) refl (λ i. meet_agrees o indices ns v w h is (λ js. entry (i ∷ js)))
  where
    by : (u : Option K) → slice_get ns n ≡ u → ((i : ℕ) → meet_at o indices ns v is (λ js. entry (i ∷ js)) ≡ meet_at o indices ns w is (λ js. entry (i ∷ js)))
        → sum_over o (indices_at indices u) (λ i. o.times (v n i) (meet_at o indices ns v is (λ js. entry (i ∷ js)))) ≡ sum_over o (indices_at indices u) (λ i. o.times (w n i) (meet_at o indices ns w is (λ js. entry (i ∷ js))))
    by None e ih = refl
    by (Some k) e ih = sum_over-same o (indices k) (λ i. o.times (v n i) (meet_at o indices ns v is (λ js. entry (i ∷ js)))) (λ i. o.times (w n i) (meet_at o indices ns w is (λ js. entry (i ∷ js))))
        (λ i m. ap₂ o.times (h n k e i m) (ih i))

module _ {E : Type 0} (o : Ops E) (r : Reaction) (kinds : Kinds) (is : IsReaction r kinds) (g : Graph) (canonical : IsCanonicalOf r g) (f : FeynmanRules E) (e : Event E) where
  abbrev s : Scattering
  s = r.scattering

  abbrev rules : KeyRules E Key
  rules = model_rules o r.scattering f e (key_view r)

  -- numbers at all indices, by those at the indices of each node
  extended_at : (ℕ → ℕ → E) → Option Key → ℕ → ℕ → E
  extended_at wave None n i = o.zero
  extended_at wave (Some k) n i = node_wave o s f e g wave n k i

  extended : (ℕ → ℕ → E) → ℕ → ℕ → E
  extended wave n i = extended_at wave (slice_get g.nodes n) n i

  extended_is : (wave : ℕ → ℕ → E) (n : ℕ) (k : Key) → slice_get g.nodes n ≡ Some k → (i : ℕ) → extended wave n i ≡ node_wave o s f e g wave n k i
  unfolding extended extended_at
  extended_is wave n k q i = ap (λ u. extended_at wave u n i) q

  module _ (wave : ℕ → ℕ → E) (waves : AreNodeWaves o s f e g wave) where
    agrees : (n : ℕ) (k : Key) → slice_get g.nodes n ≡ Some k → (i : ℕ) → In i (node_indices o s f e g k) → wave n i ≡ extended wave n i
    agrees n k q i m = waves n k q i m ∙ sym (extended_is wave n k q i)

    term_same : (n : ℕ) (k : Key) → slice_get g.nodes n ≡ Some k → (j : ℕ) (x : Term) → In x g.terms → (x.node == n) ≡ true
        → term_value o s f e g wave k j x ≡ term_value_at o rules g.nodes (extended wave) k (unsigned x) j
    term_same n k q j x i t =
        let m = (canonical.graph.terms (unsigned x)).0 (in_map unsigned x g.terms i) in
        let sign = canonical.signs.signs x k m.branches i (ap (slice_get g.nodes) (eqb-true x.node n t) ∙ q) m.are_branches in
        let ks = keys_are (at_of g.nodes (nodes_of x.branches) m.branches m.are_branches) in
        ap₂ (signed o) (sign ∙ ap ((key_view r).minus x.vertex k) (sym ks))
        (meet_agrees o (node_indices o s f e g) g.nodes wave (extended wave) agrees (nodes_of x.branches) (rules.fused x.vertex x.choice k (keys_at g.nodes (nodes_of x.branches)) j))

    key_same : (y : KeyTerm) → In y g.keys → key_value o s f e g wave y ≡ key_value_at o rules g.nodes (extended wave) (unsigned_key y)
    key_same y i =
        let m = (canonical.graph.keys (unsigned_key y)).0 (in_map unsigned_key y g.keys i) in
        let sign = canonical.signs.key_signs y m.branches i m.are_branches in
        let ks = keys_are (at_of g.nodes (nodes_of y.branches) m.branches m.are_branches) in
        ap₂ (signed o) (sign ∙ ap ((key_view r).closed_minus y.vertex) (sym ks))
        (meet_agrees o (node_indices o s f e g) g.nodes wave (extended wave) agrees (nodes_of y.branches) (rules.closed y.vertex y.choice (keys_at g.nodes (nodes_of y.branches))))

    leg_wave : (n j i : ℕ) → slice_get g.nodes n ≡ Some ((fusion r).leg j) → 1 ≤ j → j ≤ s.size → extended wave n i ≡ e.wave j i
    leg_wave n j i q low high =
        extended_is wave n ((fusion r).leg j) q i
        ∙ ap (λ b. if b then sum_over o (node_indices o s f e g ((fusion r).leg j)) (λ l. o.times (rules.propagator ((fusion r).leg j) i l) (sum_over o (terms_at g.terms n) (term_value o s f e g wave ((fusion r).leg j) l))) else e.wave (sets.least (sets.set_of_one j)) i)
        (leg_is_leg r kinds is j low high)
        ∙ ap (λ l. e.wave l i) (least_leg r kinds is j low high)

    inner_wave : (n : ℕ) (k : Key) → slice_get g.nodes n ≡ Some k → IsInner (fusion r) k → (i : ℕ)
        → extended wave n i ≡ sum_over o (rules.indices k) (λ j. o.times (rules.propagator k i j) (sum_over o (filter (λ (x : Numbered). x.made == n) (map unsigned g.terms)) (λ x. term_value_at o rules g.nodes (extended wave) k x j)))
    unfolding terms_at
    inner_wave n k q inner i =
        extended_is wave n k q i
        ∙ ap (λ b. if b then sum_over o (node_indices o s f e g k) (λ j. o.times (rules.propagator k i j) (sum_over o (terms_at g.terms n) (term_value o s f e g wave k j))) else e.wave (sets.least k.legs) i)
        (inner_is_inner r kinds is k ((canonical.graph.nodes k).0 (in_by_number g.nodes n k q)) inner)
        ∙ sum_over-ext o (rules.indices k) (λ j. o.times (rules.propagator k i j) (sum_over o (terms_at g.terms n) (term_value o s f e g wave k j)))
        (λ j. o.times (rules.propagator k i j) (sum_over o (filter (λ (x : Numbered). x.made == n) (map unsigned g.terms)) (λ x. term_value_at o rules g.nodes (extended wave) k x j)))
        (λ j. ap (o.times (rules.propagator k i j))
        (sum_changed o unsigned (λ (x : Numbered). x.made == n) (term_value o s f e g wave k j) (λ x. term_value_at o rules g.nodes (extended wave) k x j) g.terms (λ x i t. term_same n k q j x i t)))

    waves_are : AreWavesAt o rules g.nodes (fusion r) (map unsigned g.terms) (extended wave)
    waves_are = record { at_leg = leg_wave; at_inner = inner_wave }

    values_are : (m : ℕ) (us : List Flow) → flow_values o s f e g wave m us ≡ values_at o rules g.nodes (extended wave) flow_ends (map unsigned_key g.keys) m us
    unfolding flow_values values_at keys_at_flow
    values_are m [] = refl
    values_are m (u ∷ us) = ap₂ (λ x vs. (u.ends, x) ∷ vs)
        (sum_changed o unsigned_key (λ (y : Numbered). y.made == m) (key_value o s f e g wave) (key_value_at o rules g.nodes (extended wave)) g.keys (λ y i t. key_same y i))
        (values_are (suc m) us)

    to_keyed : (name : EdgeName) → HasPoleNode o s f e g name → HasKeyedPole o s f e (fusion r) (key_view r) flow_ends g.nodes name
    to_keyed name h = record { node = h.node; is_node = h.is_node; is_inner = leg_or_inner r kinds is h.node h.inner; is_named = h.is_named; is_pole = h.is_pole }

    from_keyed : (name : EdgeName) → HasKeyedPole o s f e (fusion r) (key_view r) flow_ends g.nodes name → HasPoleNode o s f e g name
    from_keyed name h = record { node = h.node; is_node = h.is_node; inner = inner_is_inner r kinds is h.node ((canonical.graph.nodes h.node).0 h.is_node) h.is_inner; is_named = h.is_named; is_pole = h.is_pole }

    same_answers : (a : Answer E) → GraphAnswers o s f e g wave a ↔ NumberedAnswers o s f e (fusion r) (key_view r) flow_ends g.nodes (map unsigned_key g.keys) g.flows (extended wave) a
    same_answers unbalanced = ((λ h. h), (λ h. h))
    same_answers (pole name) = (
      (λ h. (h.0, to_keyed name h.1, λ other q. h.2 other (from_keyed other q))),
      (λ h. (h.0, from_keyed name h.1, λ other q. h.2 other (to_keyed other q))),
    )
    same_answers (values vs) = (
      (λ h. (h.0, (λ name q. h.1 name (from_keyed name q)), h.2 ∙ values_are 0 g.flows)),
      (λ h. (h.0, (λ name q. h.1 name (to_keyed name q)), h.2 ∙ sym (values_are 0 g.flows))),
    )

pub canonical_graph_gives_answer : {E : Type 0} (o : Ops E) → Laws o → CanonicalGraphGivesAnswer o
canonical_graph_gives_answer {E} o l m p formed is g canonical t e wave waves a =
    let r = reaction_of m p in
    let reaction = well_formed_have_reactions m p formed is in
    let f = feynman_rules o m t in
    let same = same_answers o r (kinds_of m.particles) reaction g canonical f e wave waves a in
    let answers = keyed_answers o l m p formed is g canonical t e (extended o r (kinds_of m.particles) reaction g canonical f e wave) (waves_are o r (kinds_of m.particles) reaction g canonical f e wave waves) a in
    ((λ h. answers.0 (same.0 h)), (λ h. same.1 (answers.1 h)))
