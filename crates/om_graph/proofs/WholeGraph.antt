-- The nodes and terms of the walk and what closes are the possible graph.
use Rattle.std.proofs.Common.{◌≡◌, ℕ, zero, suc, ◌+◌, ◌-◌, ◌<◌, ◌≤◌, List, [], ◌∷◌, map, length, Bool, false, ◌⊎◌, inl, inr, refl, ap, ap₂, sym, subst, ◌∙◌, arith, Option, Some, None, slice_get}
use Rattle.std.specs.Prelude.{slice_index}
use Rattle.std.proofs.lemmas.List.{length-map}
use Rattle.std.proofs.lemmas.Option.{same_Some}
use Rattle.om_ring.specs.Members.{In}
use Rattle.om_legs.specs.declared.branches.Branches.{Branches}
use Rattle.om_colour.specs.declared.Flow.{Flow}
use Rattle.om_model.specs.FermionLines.{Kinds}
use Rattle.om_graph.specs.declared.Graph.{Graph}
use Rattle.om_graph.specs.declared.Key.{Key}
use Rattle.om_graph.specs.declared.KeyTerm.{KeyTerm}
use Rattle.om_graph.specs.declared.Term.{Term}
use Rattle.om_graph.specs.declared.TheConstants.{MOST_TERMS}
use Rattle.om_graph.specs.Graph.{Numbered, IsGraph, at_numbers}
use Rattle.om_graph.specs.Possible.{IsPossible, flow_lt, key_lt, state_of, term_count, unsigned, unsigned_key}
use Rattle.om_legs.specs.BranchNodes.{nodes_of}
use Rattle.om_graph.specs.Search.{HasDone, State, flows_of, numbered, walk}
use Rattle.om_graph.specs.SetSearch.{all_nodes, closings_of, leg_keys, leg_state, outward_sets, set_search}
use Rattle.om_graph.specs.SetWalk.{CanCloseAll, CanWalk, HasClosed, HasKeySign, HasTermSign, HasWalked, HaveSigns, KeysHaveSigns}
use Rattle.om_graph.specs.TreeKeys.{IsReaction}
use Rattle.om_graph.specs.Vertices.{Reaction, closed_minus, fused_minus, fusion}
use Rattle.om_graph.proofs.KeyStep.{numbered-length}
use Rattle.om_ring.proofs.Members.{in_mapped, map-map}
use Rattle.om_graph.proofs.LegNodes.{all_sets, leg_sets, legs_done, sets_ready}
use Rattle.om_graph.proofs.Orders.{flow_order}
use Rattle.om_graph.proofs.SetNodes.{in_by_number}
use Rattle.om_graph.proofs.SignedLists.{length_at_numbers}
use Rattle.om_graph.proofs.SplitMembers.{are_closings, closings_once, is_search}
use Rattle.om_graph.proofs.Splits.{search_gives_graph}

module _ (r : Reaction) (kinds : Kinds) (is : IsReaction r kinds) where
  -- the walk begins with the legs
  pub can_begin : (ns : List Key) (ts : List Term) → state_of ns ts ≡ leg_state r → ts ≡ [] → CanWalk r ns ts (outward_sets r.scattering.size)
  can_begin ns ts e none = record {
    kinds = kinds;
    reaction = is;
    done = leg_sets r.scattering.size;
    have = subst (λ (s : State Key). HasDone (fusion r) (set_search r) (leg_sets r.scattering.size) s) (sym e) (legs_done r kinds is);
    ready = sets_ready r kinds is;
    few = let l = ap (λ (us : List Term). length us) none in let z : MOST_TERMS ≡ 4194304 = refl in omega (arith, l, z);
    signs = subst (HaveSigns r ns) (sym none) (λ x i. absurd i);
  }

  pub graph_of : IsGraph (fusion r) key_lt flow_lt (all_nodes r).nodes (all_nodes r).terms (numbered flow_lt (flows_of (fusion r) (set_search r) flow_lt (closings_of r (all_nodes r).nodes)) (closings_of r (all_nodes r).nodes)) (flows_of (fusion r) (set_search r) flow_lt (closings_of r (all_nodes r).nodes))
  unfolding all_nodes
  graph_of =
      search_gives_graph (fusion r) (set_search r) (is_search r is.fields) (leg_sets r.scattering.size) (outward_sets r.scattering.size) (leg_state r) (sets_ready r kinds is) (legs_done r kinds is) (all_sets r kinds is) flow_lt flow_order
      (closings_of r (walk (fusion r) (set_search r) (leg_state r) (outward_sets r.scattering.size)).nodes) (are_closings r is.fields (walk (fusion r) (set_search r) (leg_state r) (outward_sets r.scattering.size)).nodes)

  pub can_close_all : (ns : List Key) → ns ≡ (all_nodes r).nodes → CanCloseAll r ns
  can_close_all ns e = record { kinds = kinds; reaction = is; nodes = λ k i. (graph_of.nodes k).0 (subst (In k) e i) }

  -- the graph that was built
  pub possible : (ns : List Key) (ts : List Term) (limit : ℕ) (ys : List KeyTerm) (ws : List Flow) → state_of ns ts ≡ all_nodes r → HaveSigns r ns ts → HasClosed r ns limit ys ws → IsPossible r (record { nodes = ns; terms = ts; keys = ys; flows = ws })
  possible ns ts limit ys ws e signs c = record {
    graph = rw_graph ns (map unsigned ts) (map unsigned_key ys) ws n (ap (λ (s : State Key). s.terms) e) (c.keys ∙ ap₂ (λ (us : List Flow) (ms : List Key). numbered flow_lt us (closings_of r ms)) f n) f;
    signs = λ k x node keys a b d. by_term x node keys (signs x (in_by_number ts k x a)) b d;
    key_signs = λ k y keys a d. let s = c.signs y (in_by_number ys k y a) in s.2 ∙ ap (closed_minus r y.vertex) (same_Some s.0 keys (sym s.1 ∙ d));
  }
    where
      n : ns ≡ (all_nodes r).nodes
      n = ap (λ (s : State Key). s.nodes) e

      f : ws ≡ flows_of (fusion r) (set_search r) flow_lt (closings_of r (all_nodes r).nodes)
      f = c.flows ∙ ap (λ (ms : List Key). flows_of (fusion r) (set_search r) flow_lt (closings_of r ms)) n

      rw_graph : (ms : List Key) (ss zs : List Numbered) (us : List Flow) → ms ≡ (all_nodes r).nodes → ss ≡ (all_nodes r).terms → zs ≡ numbered flow_lt (flows_of (fusion r) (set_search r) flow_lt (closings_of r (all_nodes r).nodes)) (closings_of r (all_nodes r).nodes) → us ≡ flows_of (fusion r) (set_search r) flow_lt (closings_of r (all_nodes r).nodes)
          → IsGraph (fusion r) key_lt flow_lt ms ss zs us
      rw_graph ms ss zs us a b c d = rw (a, b, c, d) graph_of

      by_term : (x : Term) (node : Key) (keys : List Key) → HasTermSign r ns x → slice_get ns x.node ≡ Some node → at_numbers ns (nodes_of x.branches) ≡ Some keys → x.minus ≡ fused_minus r node.field x.vertex node.legs keys
      by_term x node keys s b d = s.minus ∙ ap₂ (λ (k : Key) (ks : List Key). fused_minus r k.field x.vertex k.legs ks) (same_Some s.node node (sym s.is_node ∙ b)) (same_Some s.branches keys (sym s.are_branches ∙ d))

-- ---- a graph past the limit

no_branches : Branches
no_branches = record { count = 2; nodes = 0 ∷ 0 ∷ 0 ∷ 0 ∷ []; valid = record { several = omega arith; within = omega arith; zeros = λ k l. zeros k } }
  where
    zeros : (k : ℕ) → slice_index (0 ∷ 0 ∷ 0 ∷ 0 ∷ []) k ≡ 0
    zeros zero = refl
    zeros (suc zero) = refl
    zeros (suc (suc zero)) = refl
    zeros (suc (suc (suc zero))) = refl
    zeros (suc (suc (suc (suc k)))) = refl

branches_of : List ℕ → Branches
branches_of (a ∷ b ∷ []) = record { count = 2; nodes = a ∷ b ∷ 0 ∷ 0 ∷ []; valid = record { several = omega arith; within = omega arith; zeros = zeros } }
  where
    zeros : (k : ℕ) → 2 ≤ k → slice_index (a ∷ b ∷ 0 ∷ 0 ∷ []) k ≡ 0
    zeros zero l = absurd (omega (arith, l))
    zeros (suc zero) l = absurd (omega (arith, l))
    zeros (suc (suc zero)) l = refl
    zeros (suc (suc (suc zero))) l = refl
    zeros (suc (suc (suc (suc k)))) l = refl
branches_of (a ∷ b ∷ c ∷ []) = record { count = 3; nodes = a ∷ b ∷ c ∷ 0 ∷ []; valid = record { several = omega arith; within = omega arith; zeros = zeros } }
  where
    zeros : (k : ℕ) → 3 ≤ k → slice_index (a ∷ b ∷ c ∷ 0 ∷ []) k ≡ 0
    zeros zero l = absurd (omega (arith, l))
    zeros (suc zero) l = absurd (omega (arith, l))
    zeros (suc (suc zero)) l = absurd (omega (arith, l))
    zeros (suc (suc (suc zero))) l = refl
    zeros (suc (suc (suc (suc k)))) l = refl
branches_of (a ∷ b ∷ c ∷ d ∷ []) = record { count = 4; nodes = a ∷ b ∷ c ∷ d ∷ []; valid = record { several = omega arith; within = omega arith; zeros = zeros } }
  where
    zeros : (k : ℕ) → 4 ≤ k → slice_index (a ∷ b ∷ c ∷ d ∷ []) k ≡ 0
    zeros zero l = absurd (omega (arith, l))
    zeros (suc zero) l = absurd (omega (arith, l))
    zeros (suc (suc zero)) l = absurd (omega (arith, l))
    zeros (suc (suc (suc zero))) l = absurd (omega (arith, l))
    zeros (suc (suc (suc (suc k)))) l = refl
branches_of _ = no_branches

few_are : (n : ℕ) → (n ≡ 2) ⊎ (n ≡ 3) ⊎ (n ≡ 4) → (2 ≤ n) × (n ≤ 4)
few_are n (inl e) = (omega (arith, e), omega (arith, e))
few_are n (inr (inl e)) = (omega (arith, e), omega (arith, e))
few_are n (inr (inr e)) = (omega (arith, e), omega (arith, e))

branches_are : (ns : List ℕ) → (length ns ≡ 2) ⊎ (length ns ≡ 3) ⊎ (length ns ≡ 4) → nodes_of (branches_of ns) ≡ ns
unfolding branches_of
branches_are [] h = absurd (let l = (few_are 0 h).0 in omega (arith, l))
branches_are (a ∷ []) h = absurd (let l = (few_are 1 h).0 in omega (arith, l))
branches_are (a ∷ b ∷ []) h = refl
branches_are (a ∷ b ∷ c ∷ []) h = refl
branches_are (a ∷ b ∷ c ∷ d ∷ []) h = refl
branches_are (a ∷ b ∷ c ∷ d ∷ e ∷ ns) h = absurd (let l = (few_are (length (a ∷ b ∷ c ∷ d ∷ e ∷ ns)) h).1 in omega (arith, l))

map_back : {A : Type 0} (f : A → A) (xs : List A) → ((x : A) → In x xs → f x ≡ x) → map f xs ≡ xs
map_back f [] h = refl
map_back f (x ∷ xs) h = ap₂ ◌∷◌ (h x (inl refl)) (map_back f xs (λ y i. h y (inr i)))

module _ (r : Reaction) (ns : List Key) where
  minus_of : ℕ → Option Key → Option (List Key) → Bool
  minus_of v None ks = false
  minus_of v (Some k) None = false
  minus_of v (Some k) (Some ks) = fused_minus r k.field v k.legs ks

  key_minus_of : ℕ → Option (List Key) → Bool
  key_minus_of v None = false
  key_minus_of v (Some ks) = closed_minus r v ks

  term_of : Numbered → Term
  term_of x = record { node = x.made; vertex = x.vertex; branches = branches_of x.branches; choice = x.choice; minus = minus_of x.vertex (slice_get ns x.made) (at_numbers ns x.branches) }

  key_term_of : Numbered → KeyTerm
  key_term_of x = record { flow = x.made; vertex = x.vertex; branches = branches_of x.branches; choice = x.choice; minus = key_minus_of x.vertex (at_numbers ns x.branches) }

module _ (r : Reaction) (kinds : Kinds) (is : IsReaction r kinds) where
  abbrev graph : IsGraph (fusion r) key_lt flow_lt (all_nodes r).nodes (all_nodes r).terms (numbered flow_lt (flows_of (fusion r) (set_search r) flow_lt (closings_of r (all_nodes r).nodes)) (closings_of r (all_nodes r).nodes)) (flows_of (fusion r) (set_search r) flow_lt (closings_of r (all_nodes r).nodes))
  graph = graph_of r kinds is

  abbrev keys_all : List Numbered
  keys_all = numbered flow_lt (flows_of (fusion r) (set_search r) flow_lt (closings_of r (all_nodes r).nodes)) (closings_of r (all_nodes r).nodes)

  few_branches : (x : Numbered) → In x (all_nodes r).terms → nodes_of (branches_of x.branches) ≡ x.branches
  few_branches x i =
      let t = (graph.terms.members x).0 i in
      branches_are x.branches (by (length t.branches) (length x.branches) (length_at_numbers (all_nodes r).nodes x.branches t.branches t.are_branches) t.fuse.counted)
    where
      by : (a b : ℕ) → b ≡ a → (a ≡ 2) ⊎ (a ≡ 3) → (b ≡ 2) ⊎ (b ≡ 3) ⊎ (b ≡ 4)
      by a b e (inl q) = inl (e ∙ q)
      by a b e (inr q) = inr (inl (e ∙ q))

  few_parts : (y : Numbered) → In y keys_all → nodes_of (branches_of y.branches) ≡ y.branches
  few_parts y i =
      let t = (graph.keys y).0 i in
      branches_are y.branches (by (length t.branches) (length y.branches) (length_at_numbers (all_nodes r).nodes y.branches t.branches t.are_branches) t.close.counted)
    where
      by : (a b : ℕ) → b ≡ a → (a ≡ 3) ⊎ (a ≡ 4) → (b ≡ 2) ⊎ (b ≡ 3) ⊎ (b ≡ 4)
      by a b e (inl q) = inr (inl (e ∙ q))
      by a b e (inr q) = inr (inr (e ∙ q))

  terms_back : map unsigned (map (term_of r (all_nodes r).nodes) (all_nodes r).terms) ≡ (all_nodes r).terms
  unfolding term_of
  terms_back =
      map-map unsigned (term_of r (all_nodes r).nodes) (all_nodes r).terms
      ∙ map_back (λ x. unsigned (term_of r (all_nodes r).nodes x)) (all_nodes r).terms (λ x i. ap (λ (l : List ℕ). record { made = x.made; vertex = x.vertex; choice = x.choice; branches = l }) (few_branches x i))

  keys_back : map unsigned_key (map (key_term_of r (all_nodes r).nodes) keys_all) ≡ keys_all
  unfolding key_term_of
  keys_back =
      map-map unsigned_key (key_term_of r (all_nodes r).nodes) keys_all
      ∙ map_back (λ y. unsigned_key (key_term_of r (all_nodes r).nodes y)) keys_all (λ y i. ap (λ (l : List ℕ). record { made = y.made; vertex = y.vertex; choice = y.choice; branches = l }) (few_parts y i))

  term_signs : HaveSigns r (all_nodes r).nodes (map (term_of r (all_nodes r).nodes) (all_nodes r).terms)
  unfolding term_of minus_of
  term_signs x i =
      let m = in_mapped (term_of r (all_nodes r).nodes) x (all_nodes r).terms i in
      let t = (graph.terms.members m.0).0 m.1 in
      subst (λ (y : Term). HasTermSign r (all_nodes r).nodes y) (sym m.2) (record {
        node = t.node;
        branches = t.branches;
        is_node = t.is_node;
        are_branches = ap (at_numbers (all_nodes r).nodes) (few_branches m.0 m.1) ∙ t.are_branches;
        minus = ap₂ (minus_of r (all_nodes r).nodes m.0.vertex) t.is_node t.are_branches;
      })

  key_term_signs : KeysHaveSigns r (all_nodes r).nodes (map (key_term_of r (all_nodes r).nodes) keys_all)
  unfolding key_term_of key_minus_of
  key_term_signs y i =
      let m = in_mapped (key_term_of r (all_nodes r).nodes) y keys_all i in
      let t = (graph.keys m.0).0 m.1 in
      subst (λ (z : KeyTerm). HasKeySign r (all_nodes r).nodes z) (sym m.2)
      (t.branches, ap (at_numbers (all_nodes r).nodes) (few_parts m.0 m.1) ∙ t.are_branches, ap (key_minus_of r (all_nodes r).nodes m.0.vertex) t.are_branches)

  -- past the limit there is a graph with too many terms
  pub too_large : MOST_TERMS < length (all_nodes r).terms + length (closings_of r (all_nodes r).nodes) → (g : Graph) × IsPossible r g × (MOST_TERMS < term_count g)
  too_large l =
      let ts = map (term_of r (all_nodes r).nodes) (all_nodes r).terms in
      let ys = map (key_term_of r (all_nodes r).nodes) keys_all in
      let ws = flows_of (fusion r) (set_search r) flow_lt (closings_of r (all_nodes r).nodes) in (
        record { nodes = (all_nodes r).nodes; terms = ts; keys = ys; flows = ws },
        possible r kinds is (all_nodes r).nodes ts (length ys) ys ws (ap (λ (us : List Numbered). record { nodes = (all_nodes r).nodes; terms = us }) terms_back) term_signs (record { flows = refl; keys = keys_back; few = omega arith; signs = key_term_signs }),
        (let a = length-map (all_nodes r).terms (term_of r (all_nodes r).nodes) in
            let b = length-map keys_all (key_term_of r (all_nodes r).nodes) in
            let c = numbered-length (closings_of r (all_nodes r).nodes) ws (closings_once r is.fields (all_nodes r).nodes) in
            omega (arith, a, b, c, l)),
      )

-- ---- what `build` puts together

module _ (r : Reaction) (kinds : Kinds) (is : IsReaction r kinds) (ns : List Key) (ts : List Term) (legs : ns ≡ leg_keys r) (none : ts ≡ []) where
  begin : state_of ns ts ≡ leg_state r
  begin = ap₂ (λ (ks : List Key) (us : List Term). state_of ks us) legs none

  pub can_walk : CanWalk r ns ts (outward_sets r.scattering.size)
  can_walk = can_begin r kinds is ns ts begin none

  pub sets_too_large : MOST_TERMS < length (walk (fusion r) (set_search r) (state_of ns ts) (outward_sets r.scattering.size)).terms → (g : Graph) × IsPossible r g × (MOST_TERMS < term_count g)
  unfolding all_nodes
  sets_too_large l =
      let e = ap (λ (s : State Key). length (walk (fusion r) (set_search r) s (outward_sets r.scattering.size)).terms) begin in
      too_large r kinds is (omega (arith, l, e))

  module _ (ms : List Key) (us : List Term) (w : HasWalked r ns ts (outward_sets r.scattering.size) ms us) where
    walked : state_of ms us ≡ all_nodes r
    unfolding all_nodes
    walked = w.state ∙ ap (λ (s : State Key). walk (fusion r) (set_search r) s (outward_sets r.scattering.size)) begin

    nodes_are : ms ≡ (all_nodes r).nodes
    nodes_are = ap (λ (s : State Key). s.nodes) walked

    terms_are : length us ≡ length (all_nodes r).terms
    terms_are = sym (length-map us unsigned) ∙ ap (λ (s : State Key). length s.terms) walked

    pub can_close : CanCloseAll r ms
    can_close = can_close_all r kinds is ms nodes_are

    module _ (limit : ℕ) (e : limit ≡ MOST_TERMS - length us) where
      pub keys_too_large : limit < length (closings_of r ms) → (g : Graph) × IsPossible r g × (MOST_TERMS < term_count g)
      keys_too_large l =
          let a = ap (λ (ks : List Key). length (closings_of r ks)) nodes_are in
          let b = terms_are in
          let c = w.few in
          too_large r kinds is (omega (arith, a, b, c, e, l))

      pub whole : (ks : List Key) (ys : List KeyTerm) (vs ws : List Flow) → ks ≡ ms → vs ≡ ws → HasClosed r ms limit ys ws
          → IsPossible r (record { nodes = ks; terms = us; keys = ys; flows = vs }) × (term_count (record { nodes = ks; terms = us; keys = ys; flows = vs }) ≤ MOST_TERMS)
      whole ks ys vs ws f g c = (
        subst (λ (l : List Key). IsPossible r (record { nodes = l; terms = us; keys = ys; flows = vs })) (sym f)
            (subst (λ (l : List Flow). IsPossible r (record { nodes = ms; terms = us; keys = ys; flows = l })) (sym g) (possible r kinds is ms us limit ys ws walked w.signs c)),
        (let a = c.few in let b = w.few in omega (arith, a, b, e)),
      )
