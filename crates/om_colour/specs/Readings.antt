-- Orders in which the slots of a vertex are read.
use Rattle.std.specs.Prelude.{◌≡◌, ◌≢◌, ℕ, ◌-◌, ◌<◌, ◌≤◌, List, slice_index}

-- a list names each of the slots 1 to n once at its places 1 to n, and 0 at those up to 4 past them
pub record NamesEachSlot (n : ℕ) (slots : List ℕ) : Type 0 where
  pub in_range : (place : ℕ) → 1 ≤ place → place ≤ n → (1 ≤ slice_index slots (place - 1)) × (slice_index slots (place - 1) ≤ n)
  pub distinct : (place later : ℕ) → 1 ≤ place → place < later → later ≤ n → slice_index slots (place - 1) ≢ slice_index slots (later - 1)
  pub past : (place : ℕ) → n < place → place ≤ 4 → slice_index slots (place - 1) ≡ 0
