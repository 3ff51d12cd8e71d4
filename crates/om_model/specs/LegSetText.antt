-- The text of a set of legs, as 1+4+7: decimals from 1 to 99 without leading zeros, strictly rising, joined by plus signs.
use Rattle.std.specs.Prelude.{◌≡◌, ℕ, ◌<◌, ◌==◌, List, [], ◌∷◌, map, decimal, Bool, nat_le, nat_lt, Option, Some, None, option_map, is_some, if◌then◌else◌}
use Rattle.std.specs.List.{join_with_byte, list_any, slice_split}
use Rattle.om_ring.specs.Spelt.{decimal_below}
use Rattle.om_legs.specs.declared.leg_set.TheConstants.{MOST_LEGS}
use Rattle.om_legs.specs.Legs.{IsLegSet, legs_of, set_of, set_of_one, union}
use Rattle.om_model.specs.declared.leg_set_text.LegsRead.{LegsRead}

-- the number below 100 whose decimal the text is
abbrev pub leg_number : List ℕ → Option ℕ
leg_number text = decimal_below 100 text

-- the numbers of the pieces, each greater than the one before, the first greater than `last`
unfoldable pub numbers_above : ℕ → List (List ℕ) → Option (List ℕ)
numbers_above last [] = Some []
numbers_above last (piece ∷ pieces) =
    elim (leg_number piece) as (λ _. Option (List ℕ)) [
      | None ↦ None
      | Some k ↦ if nat_lt last k then option_map (λ ks. k ∷ ks) (numbers_above k pieces) else None
    ]

-- the numbers of a set, or none where the bytes are no set
abbrev pub set_numbers : List ℕ → Option (List ℕ)
set_numbers bytes = numbers_above 0 (slice_split (λ b. b == 43) bytes)

abbrev pub is_set : List ℕ → Bool
is_set bytes = is_some (set_numbers bytes)

-- the legs with these numbers; a number above 12 is no leg
abbrev pub legs_numbered : List ℕ → ℕ
legs_numbered numbers = set_of (λ leg. list_any (λ k. k == leg) numbers)

-- the last of the numbers
abbrev pub last_number : ℕ → List ℕ → ℕ
last_number k [] = k
last_number k (n ∷ ns) = last_number n ns

-- what is kept of the numbers
abbrev pub legs_read : List ℕ → LegsRead
legs_read numbers = record { legs = legs_numbered numbers; greatest = last_number 0 numbers }

-- one number more, which is to be greater than those before
abbrev pub one_more : LegsRead → Option ℕ → Option LegsRead
one_more read None = None
one_more read (Some k) = if nat_lt read.greatest k then Some (record { legs = union read.legs (set_of_one k); greatest = k }) else None

-- the legs that were read, if none of them is above 12
abbrev pub legs_among : Option LegsRead → Option ℕ
legs_among None = None
legs_among (Some read) = if nat_le read.greatest MOST_LEGS then Some read.legs else None

-- the set of legs that a word means
abbrev pub leg_set_of_word : List ℕ → Option ℕ
leg_set_of_word word = legs_among (option_map legs_read (set_numbers word))

-- the decimals of the legs of a set, rising, with plus signs between
abbrev pub leg_set_word : ℕ → List ℕ
leg_set_word set = join_with_byte 43 (map decimal (legs_of set))

-- a set that has legs is read from its word, and a word that is read as a set is its word
abbrev pub LegSetsAreRead : Type 0
LegSetsAreRead =
    ((set : ℕ) → IsLegSet set → 0 < set → leg_set_of_word (leg_set_word set) ≡ Some set)
    × ((set : ℕ) (word : List ℕ) → leg_set_of_word word ≡ Some set → IsLegSet set × (word ≡ leg_set_word set))
