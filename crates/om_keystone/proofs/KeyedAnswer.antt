-- The answer to an event that the canonical graph gives.
use Rattle.std.specs.Prelude.{◌≡◌, ℕ, ◌≤◌, List, map, filter, Bool, false, not, ◌&&◌, ◌↔◌}
use Rattle.om_ring.specs.Members.{In, Different}
use Rattle.om_ring.specs.Ops.{Ops}
use Rattle.om_ring.specs.Sums.{sum_over}
use Rattle.om_model.specs.Order.{Rising}
use Rattle.om_model.specs.Theory.{Scattering}
use Rattle.om_model.specs.Event.{Event, Balances}
use Rattle.om_model.specs.FeynmanRules.{FeynmanRules}
use Rattle.om_model.specs.Propagator.{EdgeName, name_lt, IsPole}
use Rattle.om_model.specs.Answer.{Answer}
use Rattle.om_model.specs.Answer.Answer.{unbalanced, pole, values}
use Rattle.om_graph.specs.Fusion.{Fusion}
use Rattle.om_keystone.specs.InDiagrams.{TermOf, KeyTermOf, IsOutward, IsMet, IsKeyMet, IsFlowMet}
use Rattle.om_keystone.proofs.KeyedWaves.{keyed_key_value, AreKeyedWaves}
use Rattle.om_keystone.proofs.ModelRules.{KeyView, model_rules}
use Rattle.om_keystone.specs.EdgeRules.{name_of}

-- The canonical graph: a node for each outward edge of any diagram, the terms and keystone terms that are met in some diagram,
-- and the flows that some diagram has, each once.
pub record IsCanonical {K F : Type 0} (p : Fusion K F) (lt : K → K → Bool) (before : F → F → Bool) (ns : List K) (xs : List (TermOf K)) (ys : List (KeyTermOf K F)) (ws : List F) : Type 0 where
  pub nodes_rise : Rising lt ns
  pub nodes : (k : K) → In k ns ↔ IsOutward p k
  pub terms_once : Different xs
  pub terms : (x : TermOf K) → In x xs ↔ IsMet p x
  pub keys_once : Different ys
  pub keys : (y : KeyTermOf K F) → In y ys ↔ IsKeyMet p y
  pub flows_rise : Rising before ws
  pub flows : (u : F) → In u ws ↔ IsFlowMet p u

-- neither is before the other
abbrev pub same_by : {A : Type 0} → (A → A → Bool) → A → A → Bool
same_by lt x y = not (lt x y) && not (lt y x)

-- the terms of a node, and the keystone terms of a flow
abbrev pub terms_of : {K : Type 0} → (K → K → Bool) → List (TermOf K) → K → List (TermOf K)
terms_of {K} lt xs k = filter (λ (x : TermOf K). same_by lt x.node k) xs

abbrev pub keys_of : {K F : Type 0} → (F → F → Bool) → List (KeyTermOf K F) → F → List (KeyTermOf K F)
keys_of {K} {F} before ys u = filter (λ (y : KeyTermOf K F). same_by before y.flow u) ys

-- a node that is no leg
abbrev pub IsInner : {K F : Type 0} → Fusion K F → K → Type 0
IsInner p k = (j : ℕ) → 1 ≤ j → j ≤ p.size → k ≡ p.leg j → ⊥

module _ {E K F : Type 0} (o : Ops E) (s : Scattering) (r : FeynmanRules E) (e : Event E) (p : Fusion K F) (view : KeyView K) (ends : F → List ℕ) where
  -- the wave functions of the nodes: that of a leg is given, each other one is the sum over its terms of their signs times what
  -- their branches make, propagated once
  abbrev pub AreWaves : List K → (K → List (TermOf K)) → (K → ℕ → E) → Type 0
  AreWaves ns terms node = AreKeyedWaves o (model_rules o s r e view) p (λ k. In k ns) terms node

  -- the edge of an inner node has this name, and its denominator has no inverse
  pub record HasKeyedPole (ns : List K) (name : EdgeName) : Type 0 where
    pub node : K
    pub is_node : In node ns
    pub is_inner : IsInner p node
    pub is_named : name ≡ name_of s (view.part node)
    pub is_pole : IsPole o r e name

  -- for each flow, in order, the sum over its keystone terms of their signs times what their branches make
  abbrev pub graph_values : (F → List (KeyTermOf K F)) → List F → (K → ℕ → E) → List (List ℕ × E)
  graph_values keys ws node = map (λ u. (ends u, sum_over o (keys u) (keyed_key_value o (model_rules o s r e view) p node))) ws

  -- the answer of the graph
  abbrev pub KeyedAnswers : List K → (F → List (KeyTermOf K F)) → List F → (K → ℕ → E) → Answer E → Type 0
  KeyedAnswers ns keys ws node unbalanced = Balances o e s.size → ⊥
  KeyedAnswers ns keys ws node (pole name) = Balances o e s.size × HasKeyedPole ns name × ((other : EdgeName) → HasKeyedPole ns other → name_lt other name ≡ false)
  KeyedAnswers ns keys ws node (values vs) = Balances o e s.size × ((name : EdgeName) → HasKeyedPole ns name → ⊥) × (vs ≡ graph_values keys ws node)
