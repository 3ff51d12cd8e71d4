-- A graph that can be built node by node: its nodes are made of earlier ones.
use Rattle.std.specs.Prelude.{◌≡◌, ℕ, suc, ◌<◌, ◌≤◌, ◌==◌, Bool, true, false, List, [], ◌∷◌, length, nat_lt}
use Rattle.std.specs.List.{filter, AllByRecursion}
use Rattle.om_legs.specs.Legs.{size}
use Rattle.om_graph.specs.declared.Graph.{Graph}
use Rattle.om_graph.specs.declared.Key.{Key}
use Rattle.om_graph.specs.declared.KeyTerm.{KeyTerm}
use Rattle.om_graph.specs.declared.Term.{Term}
use Rattle.om_legs.specs.BranchNodes.{nodes_of}

-- a node of two legs or more
abbrev pub is_inner : Key → Bool
is_inner node = nat_lt 1 (size node.legs)

-- the terms of node k, and the keystone terms of flow m
unfoldable pub terms_at : List Term → ℕ → List Term
terms_at terms k = filter (λ t. t.node == k) terms

unfoldable pub keys_at_flow : List KeyTerm → ℕ → List KeyTerm
keys_at_flow keys m = filter (λ t. t.flow == m) keys

-- the nodes that meet have lesser numbers than the one that they make
abbrev pub IsBelow : ℕ → Term → Type 0
IsBelow k t = AllByRecursion (λ b. b < k) (nodes_of t.branches)

-- node k, if it is inner, has a term, and each of its terms is made of earlier nodes
abbrev pub NodeIsBuilt : List Term → ℕ → Key → Type 0
NodeIsBuilt terms k node = is_inner node ≡ true → (0 < length (terms_at terms k)) × AllByRecursion (IsBelow k) (terms_at terms k)

-- so is each node from number k on
abbrev pub NodesAreBuilt : List Term → ℕ → List Key → Type 0
NodesAreBuilt terms k [] = Unit {0}
NodesAreBuilt terms k (node ∷ nodes) = NodeIsBuilt terms k node × NodesAreBuilt terms (suc k) nodes

-- terms stand in the order of their nodes, from number k on
abbrev pub AreInOrder : ℕ → List Term → Type 0
AreInOrder k [] = Unit {0}
AreInOrder k (t ∷ ts) = (k ≤ t.node) × AreInOrder t.node ts

-- the nodes of one leg, from number k on, have no terms
abbrev pub LegsHaveNone : List Term → ℕ → List Key → Type 0
LegsHaveNone terms k [] = Unit {0}
LegsHaveNone terms k (node ∷ nodes) = (is_inner node ≡ false → terms_at terms k ≡ []) × LegsHaveNone terms (suc k) nodes

-- a graph whose nodes are made of earlier ones, its terms in the order of their nodes, and whose keystones are made of its nodes
pub record IsBuilt (g : Graph) : Type 0 where
  pub nodes : NodesAreBuilt g.terms 0 g.nodes
  pub legs : LegsHaveNone g.terms 0 g.nodes
  pub order : AreInOrder 0 g.terms
  pub within : AllByRecursion (λ (t : Term). t.node < length g.nodes) g.terms
  pub keys : AllByRecursion (λ (t : KeyTerm). AllByRecursion (λ b. b < length g.nodes) (nodes_of t.branches)) g.keys
  pub flows : AllByRecursion (λ (t : KeyTerm). t.flow < length g.flows) g.keys
