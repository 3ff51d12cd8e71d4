-- Marks on the nodes that are kept, and the graph of these nodes alone.
use Rattle.std.specs.Prelude.{◌≡◌, ℕ, ◌+◌, ◌<◌, ◌≤◌, List, [], ◌∷◌, map, filter, length, replicate, Bool, true, false, cond, slice_index, slice_index_or}
use Rattle.om_ring.specs.Members.{In}
use Rattle.om_graph.specs.Graph.{Numbered}
use Rattle.om_graph.specs.declared.Graph.{Graph}
use Rattle.om_graph.specs.declared.KeyTerm.{KeyTerm}
use Rattle.om_graph.specs.declared.Term.{Term}
use Rattle.om_graph.specs.Possible.{unsigned, unsigned_key}
use Rattle.om_legs.specs.BranchNodes.{mark_each, nodes_of}

abbrev pub is_marked : List Bool → ℕ → Bool
is_marked marks n = slice_index_or marks n false

-- the nodes of keystone terms get marks
unfoldable pub mark_keys : List Bool → List Numbered → List Bool
mark_keys marks [] = marks
mark_keys marks (y ∷ ys) = mark_keys (mark_each true marks y.branches) ys

-- the branches of a node with a mark get marks; the later terms mark first
unfoldable pub mark_terms : List Bool → List Numbered → List Bool
mark_terms marks [] = marks
mark_terms marks (x ∷ xs) = cond (is_marked (mark_terms marks xs) x.made) (mark_each true (mark_terms marks xs) x.branches) (mark_terms marks xs)

unfoldable pub marks_of : ℕ → List Numbered → List Numbered → List Bool
marks_of n xs ys = mark_terms (mark_keys (replicate n false) ys) xs

-- the members with marks
unfoldable pub marked_of : {A : Type 0} → List Bool → List A → List A
marked_of [] xs = []
marked_of (b ∷ marks) [] = []
marked_of (b ∷ marks) (x ∷ xs) = cond b (x ∷ marked_of marks xs) (marked_of marks xs)

-- the new number of each node, where c nodes with marks stand before
unfoldable pub numbers_from : ℕ → List Bool → List ℕ
numbers_from c [] = []
numbers_from c (b ∷ marks) = c ∷ numbers_from (c + cond b 1 0) marks

-- no number is greater than its place
abbrev pub AreLow : List ℕ → Type 0
AreLow numbers = (n : ℕ) → slice_index numbers n ≤ n

abbrev pub new_number : List ℕ → ℕ → ℕ
new_number numbers n = slice_index numbers n

-- the same term over the nodes with marks
abbrev pub renumbered : List ℕ → Numbered → Numbered
renumbered numbers x = record { made = new_number numbers x.made; vertex = x.vertex; choice = x.choice; branches = map (new_number numbers) x.branches }

-- the same keystone term
abbrev pub renumbered_key : List ℕ → Numbered → Numbered
renumbered_key numbers y = record { made = y.made; vertex = y.vertex; choice = y.choice; branches = map (new_number numbers) y.branches }

unfoldable pub kept_terms : List Bool → List ℕ → List Numbered → List Numbered
kept_terms marks numbers xs = map (renumbered numbers) (filter (λ (x : Numbered). is_marked marks x.made) xs)

-- the signs of the terms that are kept
unfoldable pub kept_signs : List Bool → List Term → List Bool
kept_signs marks xs = map (λ (x : Term). x.minus) (filter (λ (x : Term). is_marked marks x.node) xs)

-- the terms and keystone terms of a graph name nodes that are there
pub record NamesItsNodes (g : Graph) : Type 0 where
  pub terms : (x : Term) → In x g.terms → (x.node < length g.nodes) × ((n : ℕ) → In n (nodes_of x.branches) → n < length g.nodes)
  pub keys : (y : KeyTerm) → In y g.keys → (n : ℕ) → In n (nodes_of y.branches) → n < length g.nodes

-- the graph of the nodes with marks
pub record IsMarkedPart (marks : List Bool) (old new : Graph) : Type 0 where
  pub nodes : new.nodes ≡ marked_of marks old.nodes
  pub terms : map unsigned new.terms ≡ kept_terms marks (numbers_from 0 marks) (map unsigned old.terms)
  pub signs : map (λ (x : Term). x.minus) new.terms ≡ kept_signs marks old.terms
  pub keys : map unsigned_key new.keys ≡ map (renumbered_key (numbers_from 0 marks)) (map unsigned_key old.keys)
  pub key_signs : map (λ (y : KeyTerm). y.minus) new.keys ≡ map (λ (y : KeyTerm). y.minus) old.keys
  pub flows : new.flows ≡ old.flows

-- the part that is reached from the keystone terms
abbrev pub IsReachedPart : Graph → Graph → Type 0
IsReachedPart old new = IsMarkedPart (marks_of (length old.nodes) (map unsigned old.terms) (map unsigned_key old.keys)) old new
