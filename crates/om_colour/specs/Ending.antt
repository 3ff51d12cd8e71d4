-- Where colours match, each line ends, and it ends at one leg.
use Rattle.std.specs.Prelude.{◌≡◌, ℕ, ◌<◌, ◌≤◌, true, ◌≢◌, ◌↔◌}
use Rattle.om_colour.specs.declared.Colour.{Colour}
use Rattle.om_colour.specs.Lines.{Side, IsSlot, starts_line, ends_line}
use Rattle.om_colour.specs.Lines.Side.{leg, vertex}

-- a line that goes over the edge into the side goes on in it
abbrev pub TakesLine : Side → Type 0
TakesLine (leg k c) = ends_line c ≡ true
TakesLine (vertex to h beyond) = 0 < to h

-- a line comes over the edge out of the side
abbrev pub GivesLine : Side → Type 0
GivesLine (leg k c) = starts_line c ≡ true
GivesLine (vertex to h beyond) = (s : ℕ) × IsSlot s × (to s ≡ h)

-- at each vertex of the side the lines that come in from beyond its slots are those that the choice sends on
abbrev pub IsMatched : Side → Type 0
IsMatched (leg k c) = Unit {0}
IsMatched (vertex to h beyond) = IsSlot h
    × ((s : ℕ) → IsSlot s → (to s ≤ 4) × (to s ≢ s))
    × ((s : ℕ) → IsSlot s → s ≢ h → IsMatched (beyond s) × (GivesLine (beyond s) ↔ 0 < to s) × (TakesLine (beyond s) ↔ ((r : ℕ) × IsSlot r × (to r ≡ s))))

-- lines match within the side, and over its edge they go as at a leg of colour c
pub record HasColour (t : Side) (c : Colour) : Type 0 where
  pub matched : IsMatched t
  pub gives : GivesLine t ↔ (starts_line c ≡ true)
  pub takes : TakesLine t ↔ (ends_line c ≡ true)

-- leg k of the side starts a line
abbrev pub StartsIn : ℕ → Side → Type 0
StartsIn k (leg j c) = (k ≡ j) × (starts_line c ≡ true)
StartsIn k (vertex to h beyond) = (s : ℕ) × IsSlot s × (s ≢ h) × StartsIn k (beyond s)

-- no leg starts lines behind two slots
abbrev pub IsApart : Side → Type 0
IsApart (leg k c) = Unit {0}
IsApart (vertex to h beyond) = (s : ℕ) → IsSlot s → s ≢ h → IsApart (beyond s) × ((r k : ℕ) → IsSlot r → r ≢ h → StartsIn k (beyond s) → StartsIn k (beyond r) → s ≡ r)

-- no leg starts lines beyond two slots of a vertex, or behind two slots of another
abbrev pub AreApart : (ℕ → Side) → Type 0
AreApart beyond = ((s : ℕ) → IsSlot s → IsApart (beyond s)) × ((s r k : ℕ) → IsSlot s → IsSlot r → StartsIn k (beyond s) → StartsIn k (beyond r) → s ≡ r)

-- legs that end lines have numbers from 1
abbrev pub IsNumbered : Side → Type 0
IsNumbered (leg k c) = ends_line c ≡ true → 0 < k
IsNumbered (vertex to h beyond) = (s : ℕ) → IsNumbered (beyond s)
