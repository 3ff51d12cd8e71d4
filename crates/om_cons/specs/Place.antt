-- Where a key stands in a list of keys.
use Rattle.std.specs.Prelude.{ℕ, ◌≡◌, Bool, true, List, Option, Some, position, slice_get}

module _ {K : Type 0} (eq : K → K → Bool) where
  -- two keys that are equal are one value
  abbrev pub IsIdentity : Type 0
  IsIdentity = (x y : K) → eq x y ≡ true → x ≡ y

  -- the first place of a key that is equal to k
  abbrev pub place_of : List K → K → Option ℕ
  place_of keys k = position (eq k) keys

  -- a key that is equal to k stands at the place
  abbrev pub StandsAt : List K → K → ℕ → Type 0
  StandsAt keys k place = (there : K) × (slice_get keys place ≡ Some there) × (eq k there ≡ true)
