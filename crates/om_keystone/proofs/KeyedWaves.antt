-- Wave functions of trees and of nodes.
use Rattle.std.specs.Prelude.{◌≡◌, ℕ, ◌≤◌, List, [], ◌∷◌, Bool, ◌↔◌}
use Rattle.om_ring.specs.Members.{In, Different}
use Rattle.om_ring.specs.Ops.{Ops, signed}
use Rattle.om_ring.specs.Sums.{sum_over}
use Rattle.om_model.specs.Tree.{Tree, Branches}
use Rattle.om_model.specs.Tree.Tree.{leaf, join}
use Rattle.om_model.specs.Tree.Branches.{none, and}
use Rattle.om_model.specs.Opened.{Opened}
use Rattle.om_graph.specs.Fusion.{Fusion, HaveKeys}
use Rattle.om_keystone.specs.InDiagrams.{TermOf, KeyTermOf, IsOpened}
use Rattle.om_keystone.proofs.Reaching.{IsPossibleTerm, IsPossibleKeyTerm}

-- The rules by which wave functions are made, by the keys of what meets.
pub record KeyRules (E K : Type 0) : Type 0 where
  -- the indices at an edge
  pub indices : K → List ℕ
  -- the wave function of a leg
  pub leg : ℕ → ℕ → E
  -- the entry of a vertex row at which branches with these keys make a node: at the index of the edge upwards and those of the branches
  pub fused : (v c : ℕ) → K → List K → ℕ → List ℕ → E
  -- the propagator of a node's edge, by the indices at its upper and its lower end
  pub propagator : K → ℕ → ℕ → E
  -- the entry of a keystone, at the indices of the branches
  pub closed : (v c : ℕ) → List K → List ℕ → E
  -- the sign of a term and of a keystone term is -1
  pub minus : ℕ → K → List K → Bool
  pub closed_minus : ℕ → List K → Bool

module _ {E K : Type 0} (o : Ops E) (rules : KeyRules E K) where
  -- the sum over the indices of some nodes of an entry times their wave functions
  unfoldable pub meet : (K → ℕ → E) → List K → (List ℕ → E) → E
  meet wave [] entry = entry []
  meet wave (k ∷ ks) entry = sum_over o (rules.indices k) (λ i. o.times (wave k i) (meet wave ks (λ is. entry (i ∷ is))))

  -- the same over trees with these keys
  unfoldable pub meet_trees : (Tree → ℕ → E) → Branches → List K → (List ℕ → E) → E
  meet_trees wave none ks entry = entry []
  meet_trees wave (and t bs) [] entry = entry []
  meet_trees wave (and t bs) (k ∷ ks) entry = sum_over o (rules.indices k) (λ i. o.times (wave t i) (meet_trees wave bs ks (λ is. entry (i ∷ is))))

  module _ {F : Type 0} (p : Fusion K F) where
    -- The wave functions of trees with their signs: that of a leg is given; that of a join is the sign of its vertex times the
    -- propagator times what its branches make.
    pub record AreTreeWaves (wave : Tree → ℕ → E) : Type 0 where
      pub at_leg : (j i : ℕ) → 1 ≤ j → j ≤ p.size → wave (leaf j) i ≡ rules.leg j i
      pub at_join : (f v c : ℕ) (bs : Branches) (ks : List K) (k : K) → HaveKeys p bs ks → p.fuses f v c ks k → (i : ℕ) →
          wave (join f v c bs) i ≡ sum_over o (rules.indices k) (λ j. o.times (rules.propagator k i j) (signed o (rules.minus v k ks) (meet_trees wave bs ks (rules.fused v c k ks j))))

    -- the values of diagrams with their signs, each opened at its keystone
    pub record AreOpenedValues (wave : Tree → ℕ → E) (value : Opened → E) : Type 0 where
      pub at_keystone : (a : Opened) (w : F) (ks : List K) → HaveKeys p a.parts ks → p.closes a.vertex a.choice ks w →
          value a ≡ signed o (rules.closed_minus a.vertex ks) (meet_trees wave a.parts ks (rules.closed a.vertex a.choice ks))

    -- what a term adds to its node, at the lower end of the node's edge
    abbrev pub keyed_term_value : (K → ℕ → E) → TermOf K → ℕ → E
    keyed_term_value wave x j = signed o (rules.minus x.vertex x.node x.branches) (meet wave x.branches (rules.fused x.vertex x.choice x.node x.branches j))

    -- what a keystone term adds to its flow
    abbrev pub keyed_key_value : (K → ℕ → E) → KeyTermOf K F → E
    keyed_key_value wave y = signed o (rules.closed_minus y.vertex y.branches) (meet wave y.branches (rules.closed y.vertex y.choice y.branches))

    -- The wave functions of the nodes that are kept: that of a leg is given; that of another node is the sum over its terms,
    -- propagated once.
    pub record AreKeyedWaves (kept : K → Type 0) (terms : K → List (TermOf K)) (wave : K → ℕ → E) : Type 0 where
      pub at_leg : (j i : ℕ) → 1 ≤ j → j ≤ p.size → kept (p.leg j) → wave (p.leg j) i ≡ rules.leg j i
      pub at_inner : (k : K) → kept k → ((j : ℕ) → 1 ≤ j → j ≤ p.size → k ≡ p.leg j → ⊥) → (i : ℕ) →
          wave k i ≡ sum_over o (rules.indices k) (λ j. o.times (rules.propagator k i j) (sum_over o (terms k) (λ x. keyed_term_value wave x j)))

-- the terms of each node that is kept, each once, and with a node all of its branches are kept
pub record AreTermsOf {K F : Type 0} (p : Fusion K F) (kept : K → Type 0) (terms : K → List (TermOf K)) : Type 0 where
  pub once : (k : K) → Different (terms k)
  pub members : (k : K) → kept k → (x : TermOf K) → In x (terms k) ↔ (IsPossibleTerm p x × (x.node ≡ k))
  pub branches : (x : TermOf K) (b : K) → IsPossibleTerm p x → kept x.node → In b x.branches → kept b

-- the keystone terms of a flow, each once, of nodes that are kept
pub record AreKeysOf {K F : Type 0} (p : Fusion K F) (kept : K → Type 0) (w : F) (ys : List (KeyTermOf K F)) : Type 0 where
  pub once : Different ys
  pub members : (y : KeyTermOf K F) → In y ys ↔ (IsPossibleKeyTerm p y × (y.flow ≡ w))
  pub branches : (y : KeyTermOf K F) (b : K) → In y ys → In b y.branches → kept b

-- the diagrams with a flow, each opened at its keystone and once
pub record AreOpenedOf {K F : Type 0} (p : Fusion K F) (w : F) (opened : List Opened) : Type 0 where
  pub once : Different opened
  pub members : (a : Opened) → In a opened ↔ IsOpened p a w
