-- Sets of the legs 1 to MOST_LEGS, as numbers in which leg k counts 2 ^ (k - 1).
use Rattle.std.specs.Prelude.{◌≡◌, ℕ, zero, suc, ◌-◌, ◌/◌, ◌%◌, ◌^◌, ◌<◌, List, length, Bool, false, not, ◌&&◌, ◌||◌, ◌==◌, nat_le, if◌then◌else◌, slice_index, IsTrue}
use Rattle.om_legs.specs.declared.leg_set.TheConstants.{MOST_LEGS}
use Rattle.std.specs.List.{filter, sum_by, range_with_len}

-- the number of a set of legs
abbrev pub IsLegSet : ℕ → Type 0
IsLegSet set = set < 2 ^ MOST_LEGS

-- whether a set holds a leg, which counts 2 ^ (leg - 1) in the number of the set
unfoldable pub holds : ℕ → ℕ → Bool
holds set zero = false
holds set (suc k) = set / 2 ^ k % 2 == 1

-- all legs, in rising order
abbrev pub every_leg : List ℕ
every_leg = range_with_len 1 MOST_LEGS

-- the legs of a set, in rising order
unfoldable pub legs_of : ℕ → List ℕ
legs_of set = filter (holds set) every_leg

-- how many legs a set has
unfoldable pub size : ℕ → ℕ
size set = length (legs_of set)

-- the least leg of a set, or 0 where it has none
unfoldable pub least : ℕ → ℕ
least set = slice_index (legs_of set) 0

-- the set of the legs that pass a test
unfoldable pub set_of : (ℕ → Bool) → ℕ
set_of test = sum_by (λ leg. if test leg then 2 ^ (leg - 1) else 0) every_leg

-- the set of one leg
unfoldable pub set_of_one : ℕ → ℕ
set_of_one leg = set_of (λ k. k == leg)

-- the set of the legs 1 to n
unfoldable pub all_legs : ℕ → ℕ
all_legs n = set_of (λ leg. nat_le leg n)

-- the legs that stand in a or in b
unfoldable pub union : ℕ → ℕ → ℕ
union a b = set_of (λ leg. holds a leg || holds b leg)

-- the legs of a that do not stand in b
unfoldable pub minus : ℕ → ℕ → ℕ
minus a b = set_of (λ leg. holds a leg && not (holds b leg))

-- the legs that stand in a and in b
unfoldable pub meeting : ℕ → ℕ → ℕ
meeting a b = set_of (λ leg. holds a leg && holds b leg)

-- the legs 1 to n that do not stand in a
unfoldable pub complement : ℕ → ℕ → ℕ
complement a n = set_of (λ leg. nat_le leg n && not (holds a leg))

-- some leg stands in a and in b
abbrev pub Meet : ℕ → ℕ → Type 0
Meet a b = (leg : ℕ) × IsTrue (holds a leg) × IsTrue (holds b leg)

-- each leg of a stands in b
abbrev pub IsSubset : ℕ → ℕ → Type 0
IsSubset a b = meeting a b ≡ a
