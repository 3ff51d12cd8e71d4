-- The table of colour patterns: which colours may meet at a vertex, and where their lines go.
use Rattle.std.specs.Prelude.{ℕ, ◌+◌, ◌-◌, ◌*◌, Bool, true, false, cond, eqb, ◌&&◌, ◌||◌, List, [], ◌∷◌, length, slice_index, slice_index_or, map, take, position, ◌==◌, Option, Some, None}
use Rattle.om_colour.specs.declared.Colour.{Colour}
use Rattle.om_colour.specs.declared.Colour.TheVariants.{One, Three, AntiThree, Eight}
use Rattle.om_colour.specs.declared.Choice.{Choice}

-- a place that a line passes at a vertex: the slot of colour 3, that of colour -3, or the nth slot of colour 8
pub data Place : Type 0 where
  three : Place
  anti_three : Place
  eight : ℕ → Place

-- a row: its number, how many slots have colour 3 and as many -3, how many have 8, whether slots of colour 1 may stand beside them, and for each choice the places that a line passes
pub record Pattern : Type 0 where
  pub number : ℕ
  pub threes : ℕ
  pub eights : ℕ
  pub ones : Bool
  pub choices : List (List Place)

-- a row by its parts
abbrev pattern_row : ℕ → ℕ → ℕ → Bool → List (List Place) → Pattern
pattern_row n t e o cs = record { number = n; threes = t; eights = e; ones = o; choices = cs }

-- the table of patterns
abbrev pub table : List Pattern
table =
    pattern_row 1 0 0 true ([] ∷ [])
    ∷ pattern_row 2 1 0 true ((three ∷ anti_three ∷ []) ∷ [])
    ∷ pattern_row 3 1 1 true ((three ∷ eight 1 ∷ anti_three ∷ []) ∷ [])
    ∷ pattern_row 4 0 2 true ((eight 1 ∷ eight 2 ∷ eight 1 ∷ []) ∷ [])
    ∷ pattern_row 5 0 3 false ((eight 1 ∷ eight 2 ∷ eight 3 ∷ eight 1 ∷ []) ∷ (eight 1 ∷ eight 3 ∷ eight 2 ∷ eight 1 ∷ []) ∷ [])
    ∷ pattern_row 6 0 4 false (
    (eight 1 ∷ eight 2 ∷ eight 3 ∷ eight 4 ∷ eight 1 ∷ [])
    ∷ (eight 1 ∷ eight 2 ∷ eight 4 ∷ eight 3 ∷ eight 1 ∷ [])
    ∷ (eight 1 ∷ eight 3 ∷ eight 2 ∷ eight 4 ∷ eight 1 ∷ [])
    ∷ (eight 1 ∷ eight 3 ∷ eight 4 ∷ eight 2 ∷ eight 1 ∷ [])
    ∷ (eight 1 ∷ eight 4 ∷ eight 2 ∷ eight 3 ∷ eight 1 ∷ [])
    ∷ (eight 1 ∷ eight 4 ∷ eight 3 ∷ eight 2 ∷ eight 1 ∷ [])
    ∷ [])
    ∷ pattern_row 7 1 2 false ((three ∷ eight 1 ∷ eight 2 ∷ anti_three ∷ []) ∷ (three ∷ eight 2 ∷ eight 1 ∷ anti_three ∷ []) ∷ [])
    ∷ []

-- whether two colours are the same
abbrev pub same_colour : Colour → Colour → Bool
same_colour One One = true
same_colour Three Three = true
same_colour AntiThree AntiThree = true
same_colour Eight Eight = true
same_colour _ _ = false

-- the slots of a colour, in order, where the first slot has number s
abbrev pub slots_from : ℕ → Colour → List Colour → List ℕ
slots_from s k [] = []
slots_from s k (c ∷ cs) = cond (same_colour c k) (s ∷ slots_from (s + 1) k cs) (slots_from (s + 1) k cs)

-- the slots of a vertex by their colours
pub record ColouredSlots : Type 0 where
  pub number : ℕ
  pub threes : List ℕ
  pub anti_threes : List ℕ
  pub eights : List ℕ

-- the slots of a vertex, whose colours are listed from slot 1 on
abbrev pub coloured_slots : List Colour → ColouredSlots
coloured_slots cs = record { number = length cs; threes = slots_from 1 Three cs; anti_threes = slots_from 1 AntiThree cs; eights = slots_from 1 Eight cs }

-- the colours of the slots are those of the row
abbrev pub fits_pattern : ColouredSlots → Pattern → Bool
fits_pattern v p =
    eqb (length v.threes) p.threes && eqb (length v.anti_threes) p.threes && eqb (length v.eights) p.eights
    && (p.ones || eqb v.number (2 * p.threes + p.eights))

-- the slot of a place
abbrev pub slot_of : ColouredSlots → Place → ℕ
slot_of v three = slice_index v.threes 0
slot_of v anti_three = slice_index v.anti_threes 0
slot_of v (eight n) = slice_index v.eights (n - 1)

-- a row at the slots of a vertex: its number, how many slots there are, and for each choice the slots that a line passes in turn, five numbers with 0 at the end
pub record Row : Type 0 where
  pub number : ℕ
  pub slots : ℕ
  pub ways : List (List ℕ)

-- the first five numbers of a list, with 0 past its end
abbrev pub five_of : List ℕ → List ℕ
five_of w = slice_index w 0 ∷ slice_index w 1 ∷ slice_index w 2 ∷ slice_index w 3 ∷ slice_index w 4 ∷ []

-- a row of the table at the slots of a vertex that fits it
abbrev pub row_at : ColouredSlots → Pattern → Row
row_at v p = record { number = p.number; slots = v.number; ways = map (λ places. five_of (map (slot_of v) places)) p.choices }

-- the first of these patterns that the slots have
abbrev pub first_row : ColouredSlots → List Pattern → Option Row
first_row v [] = None
first_row v (p ∷ ps) = cond (fits_pattern v p) (Some (row_at v p)) (first_row v ps)

-- the row of the table that has the colours of these slots
abbrev pub row_of : List Colour → Option Row
row_of cs = first_row (coloured_slots cs) table

-- the number of the row in the table, from 1 to 7
abbrev pub row_number : Row → ℕ
row_number r = r.number

-- how many choices the row has
abbrev pub choice_count : Row → ℕ
choice_count r = length r.ways

-- the slots that a line passes in turn by choice k
abbrev pub way_of : Row → ℕ → List ℕ
way_of r k = slice_index_or r.ways k []

-- the number after a place on a way, or 0
abbrev pub place_after : List ℕ → Option ℕ → ℕ
place_after w None = 0
place_after w (Some k) = slice_index w (k + 1)

-- the slot after slot s on a way, or 0
abbrev pub next_slot : List ℕ → ℕ → ℕ
next_slot w s = place_after w (position (λ t. t == s) w)

-- where the way sends the lines that arrive through the four slots
abbrev pub choice_along : List ℕ → Choice
choice_along w = record { to = next_slot w 1 ∷ next_slot w 2 ∷ next_slot w 3 ∷ next_slot w 4 ∷ [] }

-- choice k of a row
abbrev pub choice_of : Row → ℕ → Choice
choice_of r k = choice_along (way_of r k)

-- the first four numbers of a list, with 0 past its end
abbrev pub four_of : List ℕ → List ℕ
four_of w = slice_index w 0 ∷ slice_index w 1 ∷ slice_index w 2 ∷ slice_index w 3 ∷ []

-- the slots in the order of choice k, five numbers like a way: the cyclic order from slot 1 for three or four octets, and else as they are written
abbrev pub order_of : Row → ℕ → List ℕ
order_of r k = cond (eqb r.number 5 || eqb r.number 6) (way_of r k) (1 ∷ 2 ∷ 3 ∷ 4 ∷ 0 ∷ [])

-- the order in which a vertex reads its slots by choice k, and 0 past them
abbrev pub reading_of : Row → ℕ → List ℕ
reading_of r k = four_of (take r.slots (order_of r k))
