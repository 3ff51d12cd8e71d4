-- The laws of colour lines.
use Rattle.std.specs.Prelude.{◌≡◌, ℕ, ◌+◌, ◌<◌, ◌≤◌, Bool, true, eqb, count_by, ◌≢◌, ◌⊎◌, ◌↔◌, Some, None, List, length}
use Rattle.om_legs.specs.declared.leg_set.TheConstants.{MOST_LEGS}
use Rattle.om_colour.specs.declared.Colour.{Colour}
use Rattle.om_colour.specs.declared.Colour.TheVariants.{One}
use Rattle.om_colour.specs.declared.Choice.{Choice}
use Rattle.om_colour.specs.declared.Partial.{Partial}
use Rattle.om_colour.specs.declared.Flow.{Flow}
use Rattle.om_colour.specs.declared.SlotPartials.{SlotPartials}
use Rattle.om_colour.specs.Lines.{Side, Goes, Line, LineAt, IsSlot, with_slot, anti_colour}
use Rattle.om_colour.specs.Lines.Side.{leg, vertex}
use Rattle.om_colour.specs.Ending.{TakesLine, GivesLine, IsMatched, HasColour, StartsIn, IsApart, AreApart, IsNumbered}
use Rattle.om_colour.specs.Follow.{follow, partial_of, flow_of}
use Rattle.om_colour.specs.Choices.{goes_to, SendsOn, colour_at}
use Rattle.om_colour.specs.Table.{Row, row_of, choice_count, choice_of, reading_of, coloured_slots, fits_pattern, table}
use Rattle.om_colour.specs.Readings.{NamesEachSlot}
use Rattle.om_colour.specs.Partials.{IsPartialOf, IsFlowOf, FitsOnwards, Fits, leg_partial}
use Rattle.om_colour.specs.Fitting.{IsPartialBehind, AreBehind}

-- each choice of each row sends on each line, one to one, and none back through its own slot
abbrev pub ChoicesSendOn : Type 0
ChoicesSendOn =
    (cs : List Colour) → (length cs ≡ 3) ⊎ (length cs ≡ 4) → (r : Row) → row_of cs ≡ Some r → (k : ℕ) → k < choice_count r
    → SendsOn (goes_to (choice_of r k)) (colour_at cs)

-- at most one row of the table has the colours of three or four slots
abbrev pub OneRow : Type 0
OneRow = (cs : List Colour) → (length cs ≡ 3) ⊎ (length cs ≡ 4) → count_by (fits_pattern (coloured_slots cs)) table ≤ 1

-- each choice of each row is read in an order that names each slot once
abbrev pub ReadingsNameEachSlot : Type 0
ReadingsNameEachSlot =
    (cs : List Colour) → (length cs ≡ 3) ⊎ (length cs ≡ 4) → (r : Row) → row_of cs ≡ Some r → (k : ℕ) → k < choice_count r
    → NamesEachSlot (length cs) (reading_of r k)

-- where lines match on both sides of an edge, and over it, each line from the side t ends
abbrev pub EachLineEnds : Type 0
EachLineEnds = (t u : Side) → IsMatched t → IsMatched u → (GivesLine t → TakesLine u) → (k : ℕ) → StartsIn k t → (e : ℕ) × Goes k t u e

-- at a vertex whose choice sends on the colours of its slots, each line from beyond a slot ends
abbrev pub EachLineEndsAt : Type 0
EachLineEndsAt =
    (to : ℕ → ℕ) (colours : ℕ → Colour) (beyond : ℕ → Side) → SendsOn to colours → ((s : ℕ) → IsSlot s → HasColour (beyond s) (colours s))
    → (s k : ℕ) → IsSlot s → StartsIn k (beyond s) → (e : ℕ) × LineAt to beyond k e

-- a leg is a side of its colour
abbrev pub LegHasColour : Type 0
LegHasColour = (k : ℕ) (c : Colour) → HasColour (leg k c) c

-- sides of the colours that a choice sends on make a side of the colour that slot h has at the other end of its edge
abbrev pub VertexHasColour : Type 0
VertexHasColour =
    (to : ℕ → ℕ) (h : ℕ) (colours : ℕ → Colour) (beyond : ℕ → Side) → SendsOn to colours → IsSlot h → ((s : ℕ) → IsSlot s → s ≢ h → HasColour (beyond s) (colours s))
    → HasColour (vertex to h beyond) (anti_colour (colours h))

-- a line ends at one leg
abbrev pub LinesEndOnce : Type 0
LinesEndOnce = (t u : Side) → IsApart t → (k e d : ℕ) → Goes k t u e → Goes k t u d → e ≡ d

-- the same of a diagram that is opened at a vertex
abbrev pub LinesEndOnceAt : Type 0
LinesEndOnceAt = (to : ℕ → ℕ) (beyond : ℕ → Side) → AreApart beyond → (k e d : ℕ) → LineAt to beyond k e → LineAt to beyond k d → e ≡ d

-- a line is the same over each edge of a vertex
abbrev pub SameLinesOverVertex : Type 0
SameLinesOverVertex =
    (to : ℕ → ℕ) (h s k e : ℕ) (beyond : ℕ → Side) (u : Side) → IsSlot h → IsSlot s → s ≢ h → to h ≢ h
    → Line (vertex to h beyond) u k e ↔ Line (beyond s) (vertex to s (with_slot beyond h u)) k e

-- a line is the same at both vertices of an edge, which enters the one at slot s and the other at slot h
abbrev pub SameLinesOverEdge : Type 0
SameLinesOverEdge =
    (to too : ℕ → ℕ) (s h k e : ℕ) (beyond below : ℕ → Side) → IsSlot s → IsSlot h → to s ≢ s → too h ≢ h
    → LineAt to (with_slot beyond s (vertex too h below)) k e ↔ LineAt too (with_slot below h (vertex to s beyond)) k e

-- `follow` computes the end of each line
abbrev pub FollowsLines : Type 0
FollowsLines = (t u : Side) (k e : ℕ) → IsApart t → 0 < e → Goes k t u e ↔ (follow k t u ≡ e)

-- `partial_of` computes the partial flow of a side
abbrev pub ComputesPartial : Type 0
ComputesPartial = (t : Side) → IsApart t → IsNumbered t → IsPartialOf t (Some (partial_of t))

-- `flow_of` computes the flow of a diagram
abbrev pub ComputesFlow : Type 0
ComputesFlow = (to : ℕ → ℕ) (beyond : ℕ → Side) → AreApart beyond → ((s : ℕ) → IsNumbered (beyond s)) → IsFlowOf to beyond (flow_of to beyond)

-- a diagram has one flow
abbrev pub OneFlow : Type 0
OneFlow = (to : ℕ → ℕ) (beyond : ℕ → Side) (v w : Flow) → length v.ends ≡ MOST_LEGS → length w.ends ≡ MOST_LEGS → IsFlowOf to beyond v → IsFlowOf to beyond w → v ≡ w

-- a side has one partial flow
abbrev pub OnePartial : Type 0
OnePartial = (t : Side) (p q : Partial) → length p.ends ≡ MOST_LEGS → length q.ends ≡ MOST_LEGS → IsPartialOf t (Some p) → IsPartialOf t (Some q) → p ≡ q

-- the partial flow of a leg holds that leg alone
abbrev pub LegPartialIsBehind : Type 0
LegPartialIsBehind = (n : ℕ) (c : Colour) → 1 ≤ n → n ≤ MOST_LEGS → IsPartialBehind (λ k. eqb (k + 1) n) c (Some (leg_partial n c))

-- behind a slot past the vertex stands no line
abbrev pub NothingIsBehind : Type 0
NothingIsBehind = (behind : ℕ → Bool) → IsPartialBehind behind One None

-- partial flows of parts that hold different legs fit a choice that sends their colours on
abbrev pub PartialsFit : Type 0
PartialsFit =
    (q : SlotPartials) (c : Choice) (h : ℕ) (colours : ℕ → Colour) (behind : ℕ → ℕ → Bool)
    → SendsOn (goes_to c) colours → AreBehind q h colours behind → Fits q c h

-- and what leaves through slot h is a partial flow of these parts together, as fits at the other end
abbrev pub JoinedPartialFits : Type 0
JoinedPartialFits =
    (q : SlotPartials) (c : Choice) (h : ℕ) (colours : ℕ → Colour) (behind : ℕ → ℕ → Bool) (all : ℕ → Bool) (p : Partial)
    → SendsOn (goes_to c) colours → AreBehind q h colours behind → IsSlot h → ((s k : ℕ) → IsSlot s → s ≢ h → behind s k ≡ true → all k ≡ true)
    → FitsOnwards q c h p → IsPartialBehind all (anti_colour (colours h)) (Some p)
