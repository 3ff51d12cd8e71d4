-- The code of a graph of nodes, whatever the nodes hold: W is a wave, S are the sums.
use Rattle.std.specs.Prelude.{◌≡◌, ℕ, suc, ◌<◌, List, [], ◌∷◌, ◌++◌, map, length}
use Rattle.std.specs.List.{AllByRecursion}
use Rattle.om_code.specs.Registers.{Step, load, fuse, prop, key}

-- nodes that meet, and the wave that they make
pub record Fusion (W : Type 0) : Type 0 where
  pub branches : List ℕ
  pub made : List W → W

-- a leg with its wave, or fusions, of which a propagator turns the sum into the wave of the node
pub data Node (W : Type 0) : Type 0 where
  leg : W → Node W
  inner : List (Fusion W) → (W → W) → Node W

-- nodes that meet at a keystone, and what they add to the sums
pub record Keystone (W S : Type 0) : Type 0 where
  pub branches : List ℕ
  pub summed : List W → S → S

-- a node's load, or its fusions and then its propagator
unfoldable pub node_code : {W S : Type 0} → ℕ → Node W → List (Step W S)
node_code k (leg w) = load k w ∷ []
node_code k (inner fusions moved) = map (λ f. fuse k f.branches f.made) fusions ++ prop k moved ∷ []

-- the nodes from number k on
unfoldable pub nodes_code : {W S : Type 0} → ℕ → List (Node W) → List (Step W S)
nodes_code k [] = []
nodes_code k (node ∷ nodes) = node_code k node ++ nodes_code (suc k) nodes

-- the nodes in order, and then the keystones; a register is the number of its node
unfoldable pub graph_code : {W S : Type 0} → List (Node W) → List (Keystone W S) → List (Step W S)
graph_code nodes keystones = nodes_code 0 nodes ++ map (λ y. key y.branches y.summed) keystones

-- each node has a fusion, and its branches have lesser numbers
abbrev pub IsBuiltBelow : {W : Type 0} → ℕ → Node W → Type 0
IsBuiltBelow k (leg w) = Unit {0}
IsBuiltBelow k (inner fusions moved) = (0 < length fusions) × AllByRecursion (λ f. AllByRecursion (λ b. b < k) f.branches) fusions

abbrev pub AreBuilt : {W : Type 0} → ℕ → List (Node W) → Type 0
AreBuilt k [] = Unit {0}
AreBuilt k (node ∷ nodes) = IsBuiltBelow k node × AreBuilt (suc k) nodes

-- a sum of one or more waves
abbrev pub added : {W : Type 0} → (W → W → W) → W → List W → W
added plus x [] = x
added plus x (y ∷ ys) = added plus (plus x y) ys

abbrev pub gathered : {W : Type 0} → (W → W → W) → W → List W → W
gathered plus blank [] = blank
gathered plus blank (x ∷ xs) = added plus x xs

-- the wave of a leg is its own; that of an inner node is made of the waves of its branches
abbrev pub IsWaveOf : {W : Type 0} → (W → W → W) → W → (ℕ → W) → ℕ → Node W → Type 0
IsWaveOf plus blank wave k (leg w) = wave k ≡ w
IsWaveOf plus blank wave k (inner fusions moved) = wave k ≡ moved (gathered plus blank (map (λ f. f.made (map wave f.branches)) fusions))

abbrev pub AreWaves : {W : Type 0} → (W → W → W) → W → (ℕ → W) → ℕ → List (Node W) → Type 0
AreWaves plus blank wave k [] = Unit {0}
AreWaves plus blank wave k (node ∷ nodes) = IsWaveOf plus blank wave k node × AreWaves plus blank wave (suc k) nodes

-- what the keystones add up to, with these waves
unfoldable pub keystone_sums : {W S : Type 0} → (ℕ → W) → S → List (Keystone W S) → S
keystone_sums wave sums [] = sums
keystone_sums wave sums (y ∷ ys) = keystone_sums wave (y.summed (map wave y.branches) sums) ys

-- a graph in which each node is built of earlier ones, with the waves of its nodes
pub record IsGraphOf {W S : Type 0} (plus : W → W → W) (blank : W) (nodes : List (Node W)) (keystones : List (Keystone W S)) (wave : ℕ → W)
    : Type 0 where
  pub built : AreBuilt 0 nodes
  pub closed : AllByRecursion (λ y. AllByRecursion (λ b. b < length nodes) y.branches) keystones
  pub waves : AreWaves plus blank wave 0 nodes
