-- Partial flows, and what they make of each other at a vertex.
use Rattle.std.specs.Prelude.{◌≡◌, ℕ, ◌+◌, ◌<◌, ◌≤◌, cond, eqb, ◌&&◌, ◌≢◌, ◌⊎◌, ◌↔◌, Option, Some, None, List, [], ◌∷◌, slice_index}
use Rattle.om_legs.specs.declared.leg_set.TheConstants.{MOST_LEGS}
use Rattle.om_colour.specs.declared.TheConstants.{UPWARDS}
use Rattle.om_colour.specs.declared.Choice.{Choice}
use Rattle.om_colour.specs.declared.Colour.{Colour}
use Rattle.om_colour.specs.declared.Partial.{Partial}
use Rattle.om_colour.specs.declared.Flow.{Flow}
use Rattle.om_colour.specs.declared.SlotPartials.{SlotPartials}
use Rattle.om_colour.specs.Lines.{Side, Goes, Ends, IsSlot, outside, IsInner, LineAt, starts_line, ends_line}
use Rattle.om_colour.specs.Lines.Side.{vertex}
use Rattle.om_colour.specs.Choices.{goes_to, IsChoice}

-- where the line that starts at leg k + 1 ends: a leg, UPWARDS where it leaves upwards, 0 where none starts
abbrev pub end_at : Option Partial → ℕ → ℕ
end_at None k = 0
end_at (Some p) k = slice_index p.ends k

-- the leg where a line that enters from above ends, or 0
abbrev pub into_at : Option Partial → ℕ
into_at None = 0
into_at (Some p) = p.into

-- the partial flow behind slot s
abbrev pub part_at : SlotPartials → ℕ → Option Partial
part_at q s = cond (eqb s 1) q.first (cond (eqb s 2) q.second (cond (eqb s 3) q.third (cond (eqb s 4) q.fourth None)))

-- x is the end e
abbrev pub IsEnd : ℕ → ℕ → Type 0
IsEnd x e = (0 < e) × (x ≡ e)

-- the partial flow of the side t: the lines from each leg within t, and the line that enters
pub record IsPartialOf (t : Side) (o : Option Partial) : Type 0 where
  pub line : (k e : ℕ) → k < MOST_LEGS → Goes (k + 1) t outside e ↔ IsEnd (end_at o k) e
  pub into : (e : ℕ) → Ends t e ↔ IsEnd (into_at o) e

-- the flow of a diagram that is opened at a vertex, with these sides beyond its slots: where its lines end
abbrev pub IsFlowOf : (ℕ → ℕ) → (ℕ → Side) → Flow → Type 0
IsFlowOf to beyond w = (k e : ℕ) → k < MOST_LEGS → LineAt to beyond (k + 1) e ↔ IsEnd (slice_index w.ends k) e

-- the end of a line that goes to slot s, where slot h is open
abbrev pub target_end : SlotPartials → ℕ → ℕ → ℕ
target_end q h s = cond (eqb s h) UPWARDS (into_at (part_at q s))

-- a line that leaves upwards ends where it ends beyond
abbrev pub end_through : ℕ → ℕ → ℕ
end_through e beyond = cond (eqb e UPWARDS) beyond e

-- a, or b where a is 0
abbrev pub first_of : ℕ → ℕ → ℕ
first_of a b = cond (eqb a 0) b a

-- the first of the numbers at slots 1 to 4 that isn't 0, or 0
abbrev pub first_at_slots : (ℕ → ℕ) → ℕ
first_at_slots x = first_of (x 1) (first_of (x 2) (first_of (x 3) (first_of (x 4) 0)))

-- the end of the line from leg k + 1 behind slot s, or 0, where a line that goes to slot r ends at `beyond r`
abbrev pub end_by_slot : SlotPartials → Choice → (ℕ → ℕ) → ℕ → ℕ → ℕ
end_by_slot q c beyond k s = end_through (end_at (part_at q s) k) (beyond (goes_to c s))

-- the end of the line that starts at leg k + 1 behind any slot, or 0
abbrev pub ends_by : SlotPartials → Choice → (ℕ → ℕ) → ℕ → ℕ
ends_by q c beyond k = first_at_slots (end_by_slot q c beyond k)

-- the same where slot h is open
abbrev pub joined_end : SlotPartials → Choice → ℕ → ℕ → ℕ
joined_end q c h = ends_by q c (target_end q h)

-- a number for each of the twelve legs
abbrev pub each_leg : (ℕ → ℕ) → List ℕ
each_leg f = f 0 ∷ f 1 ∷ f 2 ∷ f 3 ∷ f 4 ∷ f 5 ∷ f 6 ∷ f 7 ∷ f 8 ∷ f 9 ∷ f 10 ∷ f 11 ∷ []

-- where a line ends that leaves the vertex through a slot, for the slots from 1 on; the first stands for no slot
abbrev pub all_beyond : SlotPartials → List ℕ
all_beyond q = 0 ∷ into_at q.first ∷ into_at q.second ∷ into_at q.third ∷ into_at q.fourth ∷ []

-- the end of a line of a part, at `beyond` where it leaves upwards, or else another end
abbrev pub merged_end : (ℕ → ℕ) → ℕ → (ℕ → ℕ) → ℕ → ℕ
merged_end line beyond other k = first_of (end_through (line k) beyond) (other k)

-- the partial flow of leg n
abbrev pub leg_partial : ℕ → Colour → Partial
leg_partial n c = record { ends = each_leg (λ k. cond (starts_line c && eqb (k + 1) n) UPWARDS 0); into = cond (ends_line c) n 0 }

-- the partial flow that leaves a vertex through slot h
abbrev pub joined : SlotPartials → Choice → ℕ → Partial
joined q c h = record { ends = each_leg (joined_end q c h); into = into_at (part_at q (goes_to c h)) }

-- no slot has this number
abbrev pub no_hole : ℕ
no_hole = 5

-- the flow of a diagram, from the partial flows behind all slots of a vertex
abbrev pub closed : SlotPartials → Choice → Flow
closed q c = record { ends = each_leg (joined_end q c no_hole) }

-- a line leaves upwards
abbrev pub LeavesUpwards : Option Partial → Type 0
LeavesUpwards o = (k : ℕ) × (k < MOST_LEGS) × (end_at o k ≡ UPWARDS)

-- leg k + 1 is the start or the end of a line
abbrev pub StandsIn : Option Partial → ℕ → Type 0
StandsIn o k = (0 < end_at o k) ⊎ (((j : ℕ) × (j < MOST_LEGS) × (end_at o j ≡ k + 1)) ⊎ (into_at o ≡ k + 1))

-- ends are legs or UPWARDS, and nothing is an end twice
pub record IsSound (o : Option Partial) : Type 0 where
  pub ends : (k : ℕ) → k < MOST_LEGS → end_at o k ≤ UPWARDS
  pub into : into_at o ≤ MOST_LEGS
  pub once : (k j : ℕ) → k < MOST_LEGS → j < MOST_LEGS → 0 < end_at o k → end_at o k ≡ end_at o j → k ≡ j
  pub not_into : (k : ℕ) → k < MOST_LEGS → 0 < into_at o → end_at o k ≢ into_at o

-- the partial flows fit the choice: no leg stands in two, and over each edge but that of slot h the lines go that the choice sends on
pub record Fits (q : SlotPartials) (c : Choice) (h : ℕ) : Type 0 where
  pub choice : IsChoice (goes_to c)
  pub sound : (s : ℕ) → IsSlot s → IsSound (part_at q s)
  pub apart : (s r k : ℕ) → IsSlot s → IsSlot r → r ≢ s → k < MOST_LEGS → StandsIn (part_at q s) k → StandsIn (part_at q r) k → ⊥
  pub leaves : (s : ℕ) → IsSlot s → s ≢ h → LeavesUpwards (part_at q s) ↔ (0 < goes_to c s)
  pub enters : (s : ℕ) → IsSlot s → s ≢ h → (0 < into_at (part_at q s)) ↔ ((r : ℕ) × IsSlot r × (goes_to c r ≡ s))

-- these are the partial flows of the sides beyond all slots but h
abbrev pub ArePartials : SlotPartials → ℕ → (ℕ → Side) → Type 0
ArePartials q h f = ((s : ℕ) → IsInner (f s)) × ((s : ℕ) → IsSlot s → s ≢ h → IsPartialOf (f s) (part_at q s))

-- p is the partial flow of the side that is made of the sides beyond the slots
abbrev pub Joins : SlotPartials → Choice → ℕ → Partial → Type 0
Joins q c h p = (f : ℕ → Side) → ArePartials q h f → IsPartialOf (vertex (goes_to c) h f) (Some p)

-- w is the flow of the diagram that is made of the sides beyond the slots
abbrev pub Closes : SlotPartials → Choice → Flow → Type 0
Closes q c w = (f : ℕ → Side) → ArePartials q no_hole f → IsFlowOf (goes_to c) f w

-- p, which leaves through slot h, can be joined further: its legs are those of its parts, and over its edge the lines go that the choice sends there
pub record FitsOnwards (q : SlotPartials) (c : Choice) (h : ℕ) (p : Partial) : Type 0 where
  pub sound : IsSound (Some p)
  pub leaves : LeavesUpwards (Some p) ↔ ((s : ℕ) × IsSlot s × (goes_to c s ≡ h))
  pub enters : (0 < p.into) ↔ (0 < goes_to c h)
  pub within : (k : ℕ) → k < MOST_LEGS → StandsIn (Some p) k → (s : ℕ) × IsSlot s × StandsIn (part_at q s) k
