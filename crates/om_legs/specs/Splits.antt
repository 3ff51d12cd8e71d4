-- The splits of a set of legs into parts, and the lists of all of them.
use Rattle.std.specs.Prelude.{◌≡◌, ◌≢◌, ℕ, ◌<◌, List, length, map, if◌then◌else◌, ◌↔◌, IsTrue}
use Rattle.std.specs.List.{All, AllPairs, Contains, count_by}
use Rattle.std.specs.List.Sorted.{IsStrictlyIncreasing}
use Rattle.std.specs.Ordering.{nat_cmp, is_lt}
use Rattle.std.specs.Cmp.Lexicographic.{slice_cmp}
use Rattle.om_legs.specs.Legs.{holds, least}

-- how many of the parts hold a leg
unfoldable pub times_held : ℕ → List ℕ → ℕ
times_held leg parts = count_by (λ part. holds part leg) parts

-- parts that share out a set: none is empty, each leg of the set stands in one part, every other leg in none, and the least legs of the parts rise
pub record IsSplit (count set : ℕ) (parts : List ℕ) : Type 0 where
  pub counted : length parts ≡ count
  pub filled : All (λ part. 0 < part) parts
  pub shared : (leg : ℕ) → times_held leg parts ≡ (if holds set leg then 1 else 0)
  pub ordered : IsStrictlyIncreasing (map least parts)

-- the first number that differs is less
abbrev pub IsBefore : List ℕ → List ℕ → Type 0
IsBefore xs ys = IsTrue (is_lt (slice_cmp nat_cmp xs ys))

-- every split of a set into so many parts, each once, by the numbers of the first part, then of the second and so on
pub record AreSplits (count set : ℕ) (items : List (List ℕ)) : Type 0 where
  pub members : (parts : List ℕ) → Contains items parts ↔ IsSplit count set parts
  pub once : AllPairs ◌≢◌ items
  pub rising : AllPairs IsBefore items
