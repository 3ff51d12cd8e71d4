-- Partial flows of parts that hold different legs fit a choice that sends their colours on.
use Rattle.std.specs.Prelude.{◌≡◌, ℕ, ◌<◌, Bool, true, ◌≢◌, ◌↔◌, Option, None}
use Rattle.om_legs.specs.declared.leg_set.TheConstants.{MOST_LEGS}
use Rattle.om_colour.specs.declared.Colour.{Colour}
use Rattle.om_colour.specs.declared.Partial.{Partial}
use Rattle.om_colour.specs.declared.SlotPartials.{SlotPartials}
use Rattle.om_colour.specs.Lines.{IsSlot, starts_line, ends_line}
use Rattle.om_colour.specs.Partials.{part_at, into_at, LeavesUpwards, StandsIn, IsSound}

-- a partial flow over whose edge lines go as at a leg of colour c, and whose legs lie behind it, as `behind k` says of leg k + 1
pub record IsPartialBehind (behind : ℕ → Bool) (c : Colour) (o : Option Partial) : Type 0 where
  pub sound : IsSound o
  pub within : (k : ℕ) → k < MOST_LEGS → StandsIn o k → behind k ≡ true
  pub leaves : LeavesUpwards o ↔ (starts_line c ≡ true)
  pub enters : (0 < into_at o) ↔ (ends_line c ≡ true)

-- no leg lies behind two slots
abbrev pub AreDisjoint : (ℕ → ℕ → Bool) → Type 0
AreDisjoint behind = (s r k : ℕ) → IsSlot s → IsSlot r → r ≢ s → behind s k ≡ true → behind r k ≡ true → ⊥

-- behind each slot but h stands such a partial flow, and slot h is free
pub record AreBehind (q : SlotPartials) (h : ℕ) (colours : ℕ → Colour) (behind : ℕ → ℕ → Bool) : Type 0 where
  pub free : part_at q h ≡ None
  pub apart : AreDisjoint behind
  pub parts : (s : ℕ) → IsSlot s → s ≢ h → IsPartialBehind (behind s) (colours s) (part_at q s)
