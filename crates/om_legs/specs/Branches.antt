-- The nodes that meet at a vertex.
use Rattle.std.specs.Prelude.{◌≡◌, ℕ, ◌≤◌, List, slice_index}

-- two to four nodes, and 0 in the places past them
pub record AreBranches (count : ℕ) (nodes : List ℕ) : Type 0 where
  pub several : 2 ≤ count
  pub within : count ≤ 4
  pub zeros : (k : ℕ) → count ≤ k → slice_index nodes k ≡ 0
