-- What the loops find, in the order in which they find it.
use Rattle.std.specs.Prelude.{◌≡◌, ℕ, zero, suc, ◌+◌, ◌≤◌, ◌<◌, ◌⊎◌, List, [], ◌∷◌, ◌++◌, flat_map, length, take, Bool, true, false, cond, ◌&&◌, Option, Some, None, Result, MatchResult}
use Rattle.om_legs.specs.Legs.{all_legs}
use Rattle.om_legs.specs.Splits.{IsSplit}
use Rattle.om_colour.specs.Partials.{joined, closed, no_hole, Fits}
use Rattle.om_colour.specs.declared.Flow.{Flow}
use Rattle.om_ring.specs.Members.{In}
use Rattle.om_model.specs.Diagram.{all_in, same_numbers}
use Rattle.om_graph.specs.declared.BuildFault.{BuildFault}
use Rattle.om_graph.specs.declared.BuildFault.TheVariants.{TooLarge}
use Rattle.om_graph.specs.declared.Key.{Key}
use Rattle.om_graph.specs.declared.fields.Meeting.{Meeting}
use Rattle.om_graph.specs.declared.chosen.Chosen.{Chosen}
use Rattle.om_graph.specs.declared.closings.Closed.{Closed}
use Rattle.om_graph.specs.declared.fusions.Fused.{Fused}
use Rattle.om_graph.specs.declared.closed_rows.Row.{Row}
use Rattle.om_graph.specs.ColoursFit.{CanJoin}
use Rattle.om_graph.specs.Graph.{Found, Numbered, at_numbers}
use Rattle.om_graph.specs.Tuples.{met_from, tuples}
use Rattle.om_graph.specs.Vertices.{Reaction, is_outward, keeps_edges, sets_of, fields_of, union_of, fused_slots, closed_slots, fused_minus, closed_minus, slot_partials, hole_of, four_slots}

-- the whole of xs behind what was there, within the limit; or too large because of its length
abbrev pub Adds : {A : Type 0} → ℕ → List A → List A → List A → Result (Unit {0}) BuildFault → Type 0
Adds limit old xs new result =
    MatchResult result (λ _. (new ≡ old ++ xs) × (length old ≤ limit → length new ≤ limit)) (λ fault. fault ≡ TooLarge → limit < length old + length xs)

-- the numbers below n
unfoldable pub counts : ℕ → List ℕ
counts zero = []
counts (suc n) = counts n ++ n ∷ []

-- the first of some fields that, beside the others, fills the slots
unfoldable pub left_over : List ℕ → List ℕ → List ℕ → Option ℕ
left_over slots [] fields = None
left_over slots (f ∷ fs) fields = cond (same_numbers (f ∷ fields) slots) (Some f) (left_over slots fs fields)

abbrev pub meeting_with : (ℕ → ℕ) → ℕ → Option ℕ → Option Meeting
meeting_with anti v None = None
meeting_with anti v (Some f) = Some (record { vertex = v; up = Some (anti f) })

-- where nodes with these fields meet at a vertex
abbrev pub meeting_at : Reaction → Bool → List ℕ → ℕ → Option Meeting
meeting_at r true fields v = cond (same_numbers fields (r.scattering.theory.slots v)) (Some (record { vertex = v; up = None })) None
meeting_at r false fields v = meeting_with r.scattering.theory.anti v (left_over (r.scattering.theory.slots v) (r.scattering.theory.slots v) fields)

abbrev pub one_or_none : {A : Type 0} → Option A → List A
one_or_none None = []
one_or_none (Some x) = x ∷ []

unfoldable pub meetings_of : Reaction → Bool → List ℕ → List Meeting
meetings_of r closing fields = flat_map (λ v. one_or_none (meeting_at r closing fields v)) (counts r.scattering.theory.vertices)

-- the key that nodes make with a field, and the flow
unfoldable pub fused_key : Reaction → (f v c : ℕ) → List Key → Key
fused_key r f v c ks =
    let legs = union_of (sets_of ks) in
    let slots = fused_slots r f v legs ks in
    record { legs = legs; field = f; partial = joined (slot_partials slots) (r.choice v c) (hole_of slots) }

unfoldable pub closed_flow : Reaction → (v c : ℕ) → List Key → Flow
closed_flow r v c ks = closed (slot_partials (closed_slots r v ks)) (r.choice v c)

-- what was found, with its sign
pub record Signed (M : Type 0) : Type 0 where
  pub found : Found M
  pub minus : Bool

-- what nodes fuse to at a vertex by a choice, with field f upwards
unfoldable pub fused_at : Reaction → List ℕ → List Key → (f v c : ℕ) → Signed Key
fused_at r is ks f v c = record { found = record { made = fused_key r f v c ks; vertex = v; choice = c; branches = is }; minus = fused_minus r f v (union_of (sets_of ks)) ks }

abbrev pub fused_with : Reaction → List ℕ → List Key → ℕ → Option ℕ → List (Signed Key)
fused_with r is ks v None = []
fused_with r is ks v (Some f) = flat_map (λ c. fused_at r is ks f v c ∷ []) (counts (r.scattering.theory.choices v))

abbrev pub fused_by : Reaction → List ℕ → List Key → Meeting → List (Signed Key)
fused_by r is ks m = fused_with r is ks m.vertex m.up

-- what nodes with these numbers and keys make where they meet, by what they make at one vertex
abbrev pub meet_by : {X : Type 0} → Reaction → Bool → (List ℕ → List Key → Meeting → List X) → List ℕ → List Key → List X
meet_by r closing made is ks = flat_map (made is ks) (meetings_of r closing (fields_of ks))

-- what they fuse to
unfoldable pub meet_fused : Reaction → List ℕ → List Key → List (Signed Key)
meet_fused r = meet_by r false (fused_by r)

-- the same for what they close to
unfoldable pub closed_at : Reaction → List ℕ → List Key → (v c : ℕ) → Signed Flow
closed_at r is ks v c = record { found = record { made = closed_flow r v c ks; vertex = v; choice = c; branches = is }; minus = closed_minus r v ks }

abbrev pub closed_by : Reaction → List ℕ → List Key → Meeting → List (Signed Flow)
closed_by r is ks m = flat_map (λ c. closed_at r is ks m.vertex c ∷ []) (counts (r.scattering.theory.choices m.vertex))

unfoldable pub meet_closed : Reaction → List ℕ → List Key → List (Signed Flow)
meet_closed r = meet_by r true (closed_by r)

-- what nodes make over some parts, which leave the rest, where the named edges stay whole
unfoldable pub met_parts : {X : Type 0} → Reaction → (List ℕ → List Key → List X) → List Key → ℕ → List ℕ → List X
met_parts r meet ns rest parts = cond (keeps_edges r (rest ∷ parts)) (met_from (λ (k : Key). k.legs) meet ns [] parts) []

-- what they make where they lie away from the keystone and the named edges stay whole
unfoldable pub met_partition : {X : Type 0} → Reaction → (List ℕ → List Key → List X) → List Key → List ℕ → List X
met_partition r meet ns parts = cond (all_in (is_outward r.scattering.size) parts && keeps_edges r parts) (met_from (λ (k : Key). k.legs) meet ns [] parts) []

-- all four places, with 0 where nothing is chosen
abbrev pub four_nodes : Chosen → List ℕ
four_nodes c = c.first ∷ c.second ∷ c.third ∷ c.fourth ∷ []

abbrev pub chosen_nodes : Chosen → List ℕ
chosen_nodes c = take c.count (four_nodes c)

-- what was found, without its sign
abbrev pub fused_found : Fused → Found Key
fused_found x = record { made = x.key; vertex = x.vertex; choice = x.choice; branches = chosen_nodes x.branches }

abbrev pub closed_found : Closed → Found Flow
closed_found x = record { made = x.flow; vertex = x.vertex; choice = x.choice; branches = chosen_nodes x.branches }

-- what closes, by the number of its flow
abbrev pub row_seen : Row → Numbered
row_seen x = record { made = x.flow; vertex = x.vertex; choice = x.choice; branches = chosen_nodes x.branches }

-- and with it
abbrev pub fused_seen : Fused → Signed Key
fused_seen x = record { found = fused_found x; minus = x.minus }

abbrev pub closed_seen : Closed → Signed Flow
closed_seen x = record { found = closed_found x; minus = x.minus }

-- it is one of the meetings of nodes with these keys
abbrev pub IsMeeting : Reaction → Bool → List Key → Meeting → Type 0
IsMeeting r closing ks m = In m (meetings_of r closing (fields_of ks))

-- for each choice of the vertex, the slot that nodes leave free and the colour lines there are as `join` asks for
abbrev pub CanJoinAt : Reaction → List Key → ℕ → Option ℕ → Type 0
CanJoinAt r ks v None = Unit {0}
CanJoinAt r ks v (Some f) =
    let slots = fused_slots r f v (union_of (sets_of ks)) ks in
    (c : ℕ) → c < r.scattering.theory.choices v → CanJoin (slot_partials (four_slots slots)) (r.choice v c) (hole_of slots)

-- P holds of nodes and each place where they meet
abbrev pub MeetWell : Reaction → Bool → (List Key → Meeting → Type 0) → List Key → Type 0
MeetWell r closing P ks = (m : Meeting) → IsMeeting r closing ks m → P ks m

-- the colour lines fit wherever these nodes fuse
abbrev pub CanMeet : Reaction → List Key → Type 0
CanMeet r = MeetWell r false (λ ks m. CanJoinAt r ks m.vertex m.up)

-- it holds for all nodes of which some are chosen and one of each part is added
abbrev pub AllFrom : (List Key → Type 0) → List Key → List ℕ → List ℕ → Type 0
AllFrom P ns is parts = (js : List ℕ) (ks : List Key) → In js (tuples (λ (k : Key). k.legs) ns parts) → at_numbers ns (is ++ js) ≡ Some ks → P ks

abbrev pub CanMeetFrom : Reaction → List Key → List ℕ → List ℕ → Type 0
CanMeetFrom r = AllFrom (CanMeet r)

-- and over all splits of a set
abbrev pub CanMeetOver : Reaction → List Key → ℕ → Type 0
CanMeetOver r ns set = (n : ℕ) (parts : List ℕ) → (n ≡ 2) ⊎ (n ≡ 3) → IsSplit n set parts → CanMeetFrom r ns [] parts

-- the same where nodes meet at a keystone
abbrev pub CanClose : Reaction → List Key → ℕ → Type 0
CanClose r ks v = (c : ℕ) → c < r.scattering.theory.choices v → Fits (slot_partials (four_slots (closed_slots r v ks))) (r.choice v c) no_hole

-- and wherever they close
abbrev pub CanCloseAt : Reaction → List Key → Type 0
CanCloseAt r = MeetWell r true (λ ks m. CanClose r ks m.vertex)

abbrev pub CanCloseFrom : Reaction → List Key → List ℕ → List ℕ → Type 0
CanCloseFrom r = AllFrom (CanCloseAt r)

abbrev pub CanCloseOver : Reaction → List Key → Type 0
CanCloseOver r ns = (n : ℕ) (parts : List ℕ) → (n ≡ 3) ⊎ (n ≡ 4) → IsSplit n (all_legs r.scattering.size) parts → CanCloseFrom r ns [] parts
