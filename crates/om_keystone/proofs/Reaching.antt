-- What is reached from keystone terms by terms, and what pruning asks of keys.
use Rattle.std.specs.Prelude.{◌≡◌, ℕ, ◌<◌, ◌≤◌, List, map, length, Bool, true, ◌↔◌, Some, slice_get}
use Rattle.om_ring.specs.Members.{In}
use Rattle.om_graph.specs.Fusion.{Fusion, AllNodes}
use Rattle.om_graph.specs.Graph.{Numbered}
use Rattle.om_keystone.specs.InDiagrams.{TermOf, KeyTermOf, IsOutward, IsMet, IsKeyMet}
use Rattle.om_keystone.specs.CanonicalGraph.{IsCanonicalGraph}
use Rattle.om_keystone.specs.Pruning.{marks_of, marked_of, numbers_from, kept_terms, renumbered_key}

module _ {K F : Type 0} (p : Fusion K F) where
  -- a term and a keystone term of the possible graph
  abbrev pub IsPossibleTerm : TermOf K → Type 0
  IsPossibleTerm x = AllNodes p x.branches × p.fuses (p.field x.node) x.vertex x.choice x.branches x.node

  abbrev pub IsPossibleKeyTerm : KeyTermOf K F → Type 0
  IsPossibleKeyTerm y = AllNodes p y.branches × p.closes y.vertex y.choice y.branches y.flow

  -- reached from the keystone terms by terms
  pub data Reached : K → Type 0 where
    from_key : {k : K} (y : KeyTermOf K F) → IsPossibleKeyTerm y → In k y.branches → Reached k
    from_term : {k : K} (x : TermOf K) → IsPossibleTerm x → Reached x.node → In k x.branches → Reached k

  -- pruning keeps just what is reached
  pub record PruneIsExact : Type 0 where
    pub nodes : (k : K) → IsOutward p k ↔ Reached k
    pub terms : (x : TermOf K) → IsMet p x ↔ (IsPossibleTerm x × Reached x.node)
    pub keys : (y : KeyTermOf K F) → IsKeyMet p y ↔ IsPossibleKeyTerm y

  -- branches stand before their node
  abbrev pub BranchesFirst : (K → K → Bool) → Type 0
  BranchesFirst lt = (f v c : ℕ) (ks : List K) (k b : K) → p.fuses f v c ks k → In b ks → lt b k ≡ true

  -- what a vertex asks is settled by the keys that meet there
  pub record IsSettled (rank : K → ℕ) : Type 0 where
    pub has_field : (f v c : ℕ) (ks : List K) (k : K) → p.fuses f v c ks k → p.field k ≡ f
    pub fuse_once : (f v c : ℕ) (ks : List K) (j k : K) → p.fuses f v c ks j → p.fuses f v c ks k → j ≡ k
    -- legs have the least rank, and what is fused has a greater one than its branches
    pub leg_rank : (j : ℕ) → 1 ≤ j → j ≤ p.size → rank (p.leg j) ≡ 1
    pub fused_rank : (f v c : ℕ) (ks : List K) (k : K) → p.fuses f v c ks k → 1 < rank k
    pub rises : (f v c : ℕ) (ks : List K) (k b : K) → p.fuses f v c ks k → In b ks → rank b < rank k
    pub legs_differ : (i j : ℕ) → 1 ≤ i → i ≤ p.size → 1 ≤ j → j ≤ p.size → p.leg i ≡ p.leg j → i ≡ j

  -- the part of a graph that its keystone terms reach is the canonical graph
  abbrev pub ReachedIsCanonical : (K → K → Bool) → (F → F → Bool) → List K → List Numbered → List Numbered → List F → Type 0
  ReachedIsCanonical lt before ns ts ys ws =
      let marks = marks_of (length ns) ts ys in let numbers = numbers_from 0 marks in
      IsCanonicalGraph p lt before (marked_of marks ns) (kept_terms marks numbers ts) (map (renumbered_key numbers) ys) ws

  -- Node by node: each node that is no leg has a term, the branches of a term have lesser numbers than its node, and all numbers
  -- are those of nodes and flows.
  pub record IsBuiltUp (IsInner : K → Type 0) (ns : List K) (ts ys : List Numbered) (ws : List F) : Type 0 where
    pub lower : (x : Numbered) → In x ts → (n : ℕ) → In n x.branches → n < x.made
    pub made : (n : ℕ) (k : K) → slice_get ns n ≡ Some k → IsInner k → (x : Numbered) × In x ts × (x.made ≡ n)
    pub within : (x : Numbered) → In x ts → x.made < length ns
    pub keys_within : (y : Numbered) → In y ys → (n : ℕ) → In n y.branches → n < length ns
    pub flows_within : (y : Numbered) → In y ys → y.made < length ws
