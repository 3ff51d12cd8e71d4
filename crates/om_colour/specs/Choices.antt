-- Choices: where the lines that arrive at a vertex go.
use Rattle.std.specs.Prelude.{◌≡◌, ℕ, ◌-◌, ◌<◌, ◌≤◌, cond, eqb, true, ◌≢◌, ◌↔◌, List, [], ◌∷◌, slice_index}
use Rattle.om_colour.specs.declared.Colour.{Colour}
use Rattle.om_colour.specs.declared.Colour.TheVariants.{One}
use Rattle.om_colour.specs.declared.Choice.{Choice}
use Rattle.om_colour.specs.Lines.{IsSlot, starts_line, ends_line}

-- the slot to which the line that arrives through slot s goes, or 0
abbrev pub goes_to : Choice → ℕ → ℕ
goes_to c s = cond (eqb s 0) 0 (slice_index c.to (s - 1))

-- lines go to slots, none back through its own slot, and no two through one slot
pub record IsChoice (to : ℕ → ℕ) : Type 0 where
  pub slots : (s : ℕ) → IsSlot s → to s ≤ 4
  pub away : (s : ℕ) → IsSlot s → to s ≢ s
  pub once : (s r : ℕ) → IsSlot s → IsSlot r → 0 < to s → to s ≡ to r → s ≡ r

-- the choice sends on each line that arrives at slots of these colours, one to one to the slots at which one leaves, and none back
pub record SendsOn (to : ℕ → ℕ) (colour : ℕ → Colour) : Type 0 where
  pub choice : IsChoice to
  pub arrives : (s : ℕ) → IsSlot s → (0 < to s) ↔ (starts_line (colour s) ≡ true)
  pub leaves : (s : ℕ) → IsSlot s → ((r : ℕ) × IsSlot r × (to r ≡ s)) ↔ (ends_line (colour s) ≡ true)

-- the colour of slot s, counted from 1, and 1 past the vertex
abbrev pub colour_at : List Colour → ℕ → Colour
colour_at [] s = One
colour_at (c ∷ cs) s = cond (eqb s 1) c (colour_at cs (s - 1))
