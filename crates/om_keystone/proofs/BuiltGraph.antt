-- The canonical graph of a process can be built node by node.
use Rattle.std.proofs.Common.{◌≡◌, ℕ, suc, ◌+◌, ◌<◌, ◌≤◌, List, [], ◌∷◌, map, length, filter, true, false, inl, inr, refl, ap, sym, subst, ◌∙◌, arith, true≢false}
use Rattle.std.specs.Prelude.{Some, slice_get, ◌==◌}
use Rattle.std.specs.List.{AllByRecursion}
use Rattle.std.proofs.lemmas.Bool.{eqb-true}
use Rattle.std.proofs.lemmas.Bool.Decides.{nat_tests}
use Rattle.std.proofs.lemmas.Option.{same_Some}
use Rattle.om_ring.specs.Members.{In}
use Rattle.om_legs.specs.Legs as sets
use Rattle.om_model.specs.Order.{Rising, BeforeAll}
use Rattle.om_model.specs.FermionLines.{Kinds}
use Rattle.om_model.specs.ModelLines.{kinds_of}
use Rattle.om_ring.proofs.Members.{in_map, in_filter, in_mapped}
use Rattle.om_graph.specs.declared.Graph.{Graph}
use Rattle.om_graph.specs.declared.Key.{Key}
use Rattle.om_graph.specs.declared.KeyTerm.{KeyTerm}
use Rattle.om_graph.specs.declared.Term.{Term}
use Rattle.om_graph.specs.Graph.{Numbered, numbered_lt}
use Rattle.om_graph.specs.Possible.{key_lt, flow_lt, unsigned, unsigned_key}
use Rattle.om_legs.specs.BranchNodes.{nodes_of}
use Rattle.om_graph.specs.Reactions.{reaction_of}
use Rattle.om_graph.specs.TreeKeys.{IsReaction}
use Rattle.om_graph.specs.Vertices.{Reaction, fusion}
use Rattle.om_graph.proofs.HaveReactions.{well_formed_have_reactions}
use Rattle.om_graph.proofs.Orders.{key_order}
use Rattle.om_keystone.specs.Built.{is_inner, terms_at, IsBelow, NodeIsBuilt, NodesAreBuilt, AreInOrder, LegsHaveNone, IsBuilt}
use Rattle.om_keystone.specs.CanonicalGraph.{IsCanonicalOf}
use Rattle.om_keystone.specs.Laws.{CanonicalIsBuilt}
use Rattle.om_keystone.proofs.Built.{is_built_up}
use Rattle.om_keystone.proofs.KeyedAnswer.{IsInner}
use Rattle.om_keystone.proofs.Nodes.{leg_or_inner}
use Rattle.om_keystone.proofs.ReachedPart.{made_rises}
use Rattle.om_keystone.proofs.Reaching.{IsBuiltUp}
use Rattle.om_keystone.proofs.Settled.{is_settled, branches_first}

all_by : {A : Type 0} (P : A → Type 0) (xs : List A) → ((x : A) → In x xs → P x) → AllByRecursion P xs
all_by P [] h = tt
all_by P (x ∷ xs) h = (h x (inl refl), all_by P xs (λ y i. h y (inr i)))

some_in : {A : Type 0} (x : A) (xs : List A) → In x xs → 0 < length xs
some_in x [] i = absurd i
some_in x (y ∷ xs) i = omega arith

none_in : {A : Type 0} (xs : List A) → ((x : A) → In x xs → ⊥) → xs ≡ []
none_in [] h = refl
none_in (x ∷ xs) h = absurd (h x (inl refl))

-- what holds of each node by its number, node by node
nodes_from : (terms : List Term) (k : ℕ) (nodes : List Key)
    → ((n : ℕ) (node : Key) → slice_get nodes n ≡ Some node → NodeIsBuilt terms (k + n) node) → NodesAreBuilt terms k nodes
nodes_from terms k [] h = tt
nodes_from terms k (node ∷ nodes) h =
    let here : k + 0 ≡ k = omega arith in (
      (λ inner. subst (λ m. (0 < length (terms_at terms m)) × AllByRecursion (IsBelow m) (terms_at terms m)) here (h 0 node refl inner)),
      nodes_from terms (suc k) nodes (λ n other e inner.
          let next : k + suc n ≡ suc k + n = omega arith in
          subst (λ m. (0 < length (terms_at terms m)) × AllByRecursion (IsBelow m) (terms_at terms m)) next (h (suc n) other e inner)),
    )

legs_from : (terms : List Term) (k : ℕ) (nodes : List Key) → ((n : ℕ) (node : Key) → slice_get nodes n ≡ Some node → is_inner node ≡ false → terms_at terms (k + n) ≡ []) → LegsHaveNone terms k nodes
legs_from terms k [] h = tt
legs_from terms k (node ∷ nodes) h =
    let here : k + 0 ≡ k = omega arith in (
      (λ leg. subst (λ m. terms_at terms m ≡ []) here (h 0 node refl leg)),
      legs_from terms (suc k) nodes (λ n other e leg. let next : k + suc n ≡ suc k + n = omega arith in subst (λ m. terms_at terms m ≡ []) next (h (suc n) other e leg)),
    )

in_order : (k : ℕ) (terms : List Term) → ((t : Term) → In t terms → k ≤ t.node) → Rising numbered_lt (map unsigned terms) → AreInOrder k terms
in_order k [] low r = tt
in_order k (t ∷ []) low r = (low t (inl refl), tt)
in_order k (t ∷ u ∷ us) low r =
    (low t (inl refl), in_order t.node (u ∷ us) (later (u ∷ us) r.0) r.1)
  where
    later : (ts : List Term) → BeforeAll numbered_lt (unsigned t) (map unsigned ts) → (x : Term) → In x ts → t.node ≤ x.node
    later [] b x i = absurd i
    later (y ∷ ys) b x (inl e) = subst (λ (z : Term). t.node ≤ z.node) (sym e) (made_rises (unsigned t) (unsigned y) b.0)
    later (y ∷ ys) b x (inr i) = later ys b.1 x i

module _ (r : Reaction) (kinds : Kinds) (is : IsReaction r kinds) (g : Graph) (canonical : IsCanonicalOf r g) where
  pub built_up : IsBuiltUp (fusion r) (IsInner (fusion r)) g.nodes (map unsigned g.terms) (map unsigned_key g.keys) g.flows
  built_up = is_built_up (fusion r) key_lt key_order flow_lt (λ (k : Key). sets.size k.legs) (is_settled r kinds is) (branches_first r) g.nodes (map unsigned g.terms) (map unsigned_key g.keys) g.flows canonical.graph

  node_built : (n : ℕ) (node : Key) → slice_get g.nodes n ≡ Some node → NodeIsBuilt g.terms n node
  unfolding terms_at
  node_built n node e inner =
      let made = built_up.made n node e (leg_or_inner r kinds is node inner) in
      let term = in_mapped unsigned made.0 g.terms made.1 in
      let there : (term.0.node == n) ≡ true = grind (arith, nat_tests, ap (λ (x : Numbered). x.made) term.2, made.2) in (
        some_in term.0 (filter (λ t. t.node == n) g.terms) ((in_filter (λ t. t.node == n) term.0 g.terms).1 (term.1, there)),
        all_by (IsBelow n) (filter (λ t. t.node == n) g.terms) (λ t i.
            let f = (in_filter (λ t. t.node == n) t g.terms).0 i in
            all_by (λ b. b < n) (nodes_of t.branches) (λ b j. subst (λ m. b < m) (eqb-true t.node n f.1) (built_up.lower (unsigned t) (in_map unsigned t g.terms f.0) b j))),
      )

  leg_built : (n : ℕ) (node : Key) → slice_get g.nodes n ≡ Some node → is_inner node ≡ false → terms_at g.terms n ≡ []
  unfolding terms_at
  leg_built n node e leg = none_in (filter (λ t. t.node == n) g.terms) (λ t i.
      let f = (in_filter (λ t. t.node == n) t g.terms).0 i in
      let met = (canonical.graph.terms (unsigned t)).0 (in_map unsigned t g.terms f.0) in
      let same : met.node ≡ node = same_Some met.node node (sym met.is_node ∙ ap (slice_get g.nodes) (eqb-true t.node n f.1) ∙ e) in
      let many = (is_settled r kinds is).fused_rank met.met.field t.vertex t.choice met.branches met.node met.met.fuse in
      let inner : is_inner met.node ≡ true = grind (arith, nat_tests) in
      true≢false (sym inner ∙ ap is_inner same ∙ leg))

  built : IsBuilt g
  built = record {
    nodes = nodes_from g.terms 0 g.nodes (λ n node e. let same : n ≡ 0 + n = omega arith in subst (λ m. NodeIsBuilt g.terms m node) same (node_built n node e));
    legs = legs_from g.terms 0 g.nodes (λ n node e leg. let same : n ≡ 0 + n = omega arith in subst (λ m. terms_at g.terms m ≡ []) same (leg_built n node e leg));
    order = in_order 0 g.terms (λ t i. omega arith) canonical.graph.terms_rise;
    within = all_by (λ (t : Term). t.node < length g.nodes) g.terms (λ t i. built_up.within (unsigned t) (in_map unsigned t g.terms i));
    keys = all_by (λ (t : KeyTerm). AllByRecursion (λ b. b < length g.nodes) (nodes_of t.branches)) g.keys (λ t i.
        all_by (λ b. b < length g.nodes) (nodes_of t.branches) (λ b j. built_up.keys_within (unsigned_key t) (in_map unsigned_key t g.keys i) b j));
    flows = all_by (λ (t : KeyTerm). t.flow < length g.flows) g.keys (λ t i. built_up.flows_within (unsigned_key t) (in_map unsigned_key t g.keys i));
  }

pub canonical_is_built : CanonicalIsBuilt
canonical_is_built m p formed is g canonical = built (reaction_of m p) (kinds_of m.particles) (well_formed_have_reactions m p formed is) g canonical
