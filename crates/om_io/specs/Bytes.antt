-- Bytes that an object may tell: what is left to read, what a file holds, what was written.
use Rattle.std.specs.Prelude.{ℕ, ◌≡◌, ◌<◌, ◌≤◌, ◌-◌, ◌↔◌, List, ◌++◌, length, take, drop, Option, option_map}

-- these bytes, and then the told ones
abbrev pub before_told : List ℕ → Option (List ℕ) → Option (List ℕ)
before_told bytes told = option_map (λ rest. bytes ++ rest) told

-- the told bytes, and then these
abbrev pub after_told : Option (List ℕ) → List ℕ → Option (List ℕ)
after_told told bytes = option_map (λ held. held ++ bytes) told

-- a prefix of the piece, perhaps empty, was appended
abbrev pub AppendsPrefix : Option (List ℕ) → Option (List ℕ) → List ℕ → Type 0
AppendsPrefix before now piece = (n : ℕ) × (n ≤ length piece) × (now ≡ after_told before (take n piece))

-- n bytes of the file from a place stand at the front of the buffer, the rest of it is as before, and in a buffer with room n is 0 exactly at the file's end
pub record HoldsPart (file : List ℕ) (at n : ℕ) (old new : List ℕ) : Type 0 where
  pub within : n ≤ length file - at
  pub bytes : new ≡ take n (drop at file) ++ drop n old
  pub end : 0 < length old → (n ≡ 0) ↔ (length file ≤ at)
