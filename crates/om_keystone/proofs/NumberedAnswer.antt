-- The answer to an event that the canonical graph gives, node by node in the order of their numbers.
use Rattle.std.specs.Prelude.{◌≡◌, ℕ, suc, ◌≤◌, List, [], ◌∷◌, filter, false, eqb, Some, slice_get}
use Rattle.om_ring.specs.Ops.{Ops, signed}
use Rattle.om_ring.specs.Sums.{sum_over}
use Rattle.om_model.specs.Theory.{Scattering}
use Rattle.om_model.specs.Event.{Event, Balances}
use Rattle.om_model.specs.FeynmanRules.{FeynmanRules}
use Rattle.om_model.specs.Propagator.{EdgeName, name_lt}
use Rattle.om_model.specs.Answer.{Answer}
use Rattle.om_model.specs.Answer.Answer.{unbalanced, pole, values}
use Rattle.om_graph.specs.Fusion.{Fusion}
use Rattle.om_graph.specs.Graph.{Numbered}
use Rattle.om_keystone.specs.NodeWaves.{keys_at, meet_at}
use Rattle.om_keystone.proofs.KeyedWaves.{KeyRules}
use Rattle.om_keystone.proofs.ModelRules.{KeyView, model_rules}
use Rattle.om_keystone.proofs.KeyedAnswer.{IsInner, HasKeyedPole}

module _ {E K : Type 0} (o : Ops E) (rules : KeyRules E K) (ns : List K) where
  -- what a term adds to its node, which has key k, at the lower end of the node's edge
  abbrev pub term_value_at : (ℕ → ℕ → E) → K → Numbered → ℕ → E
  term_value_at wave k x j = signed o (rules.minus x.vertex k (keys_at ns x.branches)) (meet_at o rules.indices ns wave x.branches (rules.fused x.vertex x.choice k (keys_at ns x.branches) j))

  -- what a keystone term adds to its flow
  abbrev pub key_value_at : (ℕ → ℕ → E) → Numbered → E
  key_value_at wave y = signed o (rules.closed_minus y.vertex (keys_at ns y.branches)) (meet_at o rules.indices ns wave y.branches (rules.closed y.vertex y.choice (keys_at ns y.branches)))

  -- the wave functions of the nodes: that of a leg is given; that of another node is the sum over its terms, propagated once
  pub record AreWavesAt {F : Type 0} (p : Fusion K F) (ts : List Numbered) (wave : ℕ → ℕ → E) : Type 0 where
    pub at_leg : (n j i : ℕ) → slice_get ns n ≡ Some (p.leg j) → 1 ≤ j → j ≤ p.size → wave n i ≡ rules.leg j i
    pub at_inner : (n : ℕ) (k : K) → slice_get ns n ≡ Some k → IsInner p k → (i : ℕ) →
        wave n i ≡ sum_over o (rules.indices k) (λ j. o.times (rules.propagator k i j) (sum_over o (filter (λ (x : Numbered). eqb x.made n) ts) (λ x. term_value_at wave k x j)))

  -- for each flow, of which the first has number m, the sum over its keystone terms
  unfoldable pub values_at : {F : Type 0} → (ℕ → ℕ → E) → (F → List ℕ) → List Numbered → ℕ → List F → List (List ℕ × E)
  values_at wave ends ys m [] = []
  values_at wave ends ys m (u ∷ us) = (ends u, sum_over o (filter (λ (y : Numbered). eqb y.made m) ys) (key_value_at wave)) ∷ values_at wave ends ys (suc m) us

module _ {E K F : Type 0} (o : Ops E) (s : Scattering) (r : FeynmanRules E) (e : Event E) (p : Fusion K F) (view : KeyView K) (ends : F → List ℕ) where
  -- the answer of the graph
  abbrev pub NumberedAnswers : List K → List Numbered → List F → (ℕ → ℕ → E) → Answer E → Type 0
  NumberedAnswers ns ys ws wave unbalanced = Balances o e s.size → ⊥
  NumberedAnswers ns ys ws wave (pole name) = Balances o e s.size × HasKeyedPole o s r e p view ends ns name × ((other : EdgeName) → HasKeyedPole o s r e p view ends ns other → name_lt other name ≡ false)
  NumberedAnswers ns ys ws wave (values vs) = Balances o e s.size × ((name : EdgeName) → HasKeyedPole o s r e p view ends ns name → ⊥) × (vs ≡ values_at o (model_rules o s r e view) ns wave ends ys 0 ws)
