-- Colour lines, followed through the vertices of a diagram.
use Rattle.std.specs.Prelude.{◌≡◌, ℕ, ◌<◌, ◌≤◌, Bool, true, false, cond, eqb, ◌≢◌, ◌⊎◌}
use Rattle.om_colour.specs.declared.TheConstants.{UPWARDS}
use Rattle.om_colour.specs.declared.Colour.{Colour}
use Rattle.om_colour.specs.declared.Colour.TheVariants.{One, Three, AntiThree, Eight}

-- a leg of this colour starts a line
abbrev pub starts_line : Colour → Bool
starts_line One = false
starts_line Three = true
starts_line AntiThree = false
starts_line Eight = true

-- a leg of this colour ends a line
abbrev pub ends_line : Colour → Bool
ends_line One = false
ends_line Three = false
ends_line AntiThree = true
ends_line Eight = true

-- the colour of the antiparticle
abbrev pub anti_colour : Colour → Colour
anti_colour One = One
anti_colour Three = AntiThree
anti_colour AntiThree = Three
anti_colour Eight = Eight

-- vertices have the slots 1 to 4
abbrev pub IsSlot : ℕ → Type 0
IsSlot s = (0 < s) × (s ≤ 4)

-- what lies beyond an edge: a leg, or a vertex that the edge enters through slot `hole`; there the line that arrives through slot s goes to slot `to s`, and `beyond s` lies behind it
pub data Side : Type 0 where
  leg : ℕ → Colour → Side
  vertex : (to : ℕ → ℕ) (hole : ℕ) (beyond : ℕ → Side) → Side

-- the line that goes over an edge into this side ends at leg e: at a leg, or through a vertex, by the slot to which the choice sends it, and so on
abbrev pub Ends : Side → ℕ → Type 0
Ends (leg k c) e = (e ≡ k) × (ends_line c ≡ true)
Ends (vertex to h beyond) e = (0 < to h) × Ends (beyond (to h)) e

-- the sides beyond all slots, with u beyond slot h
abbrev pub with_slot : (ℕ → Side) → ℕ → Side → ℕ → Side
with_slot beyond h u s = cond (eqb s h) u (beyond s)

-- the line that starts at leg k of the side t ends at leg e, where u lies at the other end of the edge: seen from leg k, all else lies beyond one edge, and the line goes in there
abbrev pub Goes : ℕ → Side → Side → ℕ → Type 0
Goes k (leg j c) u e = (k ≡ j) × (starts_line c ≡ true) × Ends u e
Goes k (vertex to h beyond) u e = (s : ℕ) × IsSlot s × (s ≢ h) × Goes k (beyond s) (vertex to s (with_slot beyond h u)) e

-- a line from leg k to leg e of a diagram that is cut at an edge into the sides t and u
abbrev pub Line : Side → Side → ℕ → ℕ → Type 0
Line t u k e = Goes k t u e ⊎ Goes k u t e

-- a line from leg k to leg e of a diagram that is opened at a vertex, with these sides beyond its slots
abbrev pub LineAt : (ℕ → ℕ) → (ℕ → Side) → ℕ → ℕ → Type 0
LineAt to beyond k e = (s : ℕ) × IsSlot s × Goes k (beyond s) (vertex to s beyond) e

-- the outside of a side is like a leg UPWARDS that starts a line and ends one
abbrev pub outside : Side
outside = leg UPWARDS Eight

-- the legs of the side have numbers below UPWARDS
abbrev pub IsInner : Side → Type 0
IsInner (leg k c) = k < UPWARDS
IsInner (vertex to h beyond) = (s : ℕ) → IsInner (beyond s)
