-- What a vertex asks of the wave functions that meet at it, and what they make.
use Rattle.std.specs.Prelude.{◌≡◌, ℕ, suc, ◌+◌, ◌*◌, ◌<◌, ◌⊎◌, List, [], ◌∷◌, map, length, Bool, true, not, ◌&&◌, ◌||◌, eqb, ltb, Option, Some, None, slice_get}
use Rattle.om_legs.specs.Legs.{IsLegSet, holds, size, union, minus, meeting, complement, all_legs, set_of_one, legs_of}
use Rattle.om_legs.specs.Splits.{IsSplit}
use Rattle.om_legs.specs.Crossings.{crossings, is_odd}
use Rattle.om_colour.specs.declared.Choice.{Choice}
use Rattle.om_colour.specs.declared.Colour.{Colour}
use Rattle.om_colour.specs.declared.Flow.{Flow}
use Rattle.om_colour.specs.declared.Partial.{Partial}
use Rattle.om_colour.specs.declared.SlotPartials.{SlotPartials}
use Rattle.om_colour.specs.Partials.{joined, closed, leg_partial}
use Rattle.om_model.specs.Theory.{Scattering}
use Rattle.om_model.specs.Diagram.{all_in, same_numbers}
use Rattle.om_model.specs.Diagrams.{any_in}
use Rattle.om_model.specs.Parts.{Part, others}
use Rattle.om_model.specs.Slots.{in_slots}
use Rattle.om_graph.specs.declared.Key.{Key}
use Rattle.om_graph.specs.Fusion.{Fusion}

-- A process over its model, with what its vertices see beside the fields: the colour that enters with a field, the choices of
-- each vertex, which legs are fermions, and the named sets of legs.
pub record Reaction : Type 0 where
  pub scattering : Scattering
  pub colour : ℕ → Colour
  pub choice : ℕ → ℕ → Choice
  pub fermions : ℕ
  pub edges : List ℕ

-- the sets and the fields of keys
abbrev pub sets_of : List Key → List ℕ
sets_of ks = map (λ (k : Key). k.legs) ks

abbrev pub fields_of : List Key → List ℕ
fields_of ks = map (λ (k : Key). k.field) ks

-- the legs of all of them
unfoldable pub union_of : List ℕ → ℕ
union_of [] = 0
union_of (s ∷ ss) = union s (union_of ss)

-- a side of an edge of n legs lies away from the keystone: it has at most half of the legs, and not leg 1 where it has half
abbrev pub is_outward : ℕ → ℕ → Bool
is_outward n s = ltb (2 * size s) n || (eqb (2 * size s) n && not (holds s 1))

-- each leg of the set stands in the other
abbrev pub lies_in : ℕ → ℕ → Bool
lies_in a b = eqb (minus a b) 0

module _ (r : Reaction) where
  -- for each named set, the set or what it leaves lies within one of the parts
  unfoldable pub keeps_edges : List ℕ → Bool
  keeps_edges parts = all_in (λ e. any_in (λ part. lies_in e part || lies_in (complement e r.scattering.size) part) parts) r.edges

  -- the edge above a wave function, seen from its upper end, and the edge upwards of what is fused, seen from its lower end
  abbrev pub branch : Key → Part × Option Key
  branch k = (record { field = k.field; behind = holds k.legs }, Some k)

  abbrev pub upward : ℕ → ℕ → Part × Option Key
  upward f s = (record { field = r.scattering.theory.anti f; behind = others r.scattering.size (holds s) }, None)

  -- what stands at the slots of a vertex: a wave function, or nothing at the slot of the edge upwards
  unfoldable pub slots_of : ℕ → List (Part × Option Key) → List (Option Key)
  slots_of v parts = map (λ (q : Part × Option Key). q.1) (in_slots r.scattering v parts)

  unfoldable pub fused_slots : (f v legs : ℕ) → List Key → List (Option Key)
  fused_slots f v legs ks = slots_of v (upward f legs ∷ map branch ks)

  unfoldable pub closed_slots : ℕ → List Key → List (Option Key)
  closed_slots v ks = slots_of v (map branch ks)

abbrev pub partial_in : Option (Option Key) → Option Partial
partial_in None = None
partial_in (Some None) = None
partial_in (Some (Some k)) = Some k.partial

abbrev pub slot_partials : List (Option Key) → SlotPartials
slot_partials slots = record { first = partial_in (slice_get slots 0); second = partial_in (slice_get slots 1); third = partial_in (slice_get slots 2); fourth = partial_in (slice_get slots 3) }

abbrev pub slot_at : Option (Option Key) → Option Key
slot_at None = None
slot_at (Some k) = k

-- what stands at the slots 1 to 4, nothing past the vertex
abbrev pub four_slots : List (Option Key) → List (Option Key)
four_slots slots = slot_at (slice_get slots 0) ∷ slot_at (slice_get slots 1) ∷ slot_at (slice_get slots 2) ∷ slot_at (slice_get slots 3) ∷ []

-- the first slot, from 1, at which nothing stands
unfoldable pub hole_of : List (Option Key) → ℕ
hole_of [] = 1
hole_of (None ∷ slots) = 1
hole_of (Some k ∷ slots) = suc (hole_of slots)

abbrev pub legs_in : Option Key → ℕ
legs_in None = 0
legs_in (Some k) = k.legs

-- how many pairs of fermions have the one behind an earlier slot, the other behind a later slot, and the greater leg first
unfoldable pub crossings_with : ℕ → ℕ → List (Option Key) → ℕ
crossings_with fermions a [] = 0
crossings_with fermions a (b ∷ slots) = crossings (legs_of (meeting a fermions)) (legs_of (meeting (legs_in b) fermions)) + crossings_with fermions a slots

unfoldable pub slot_crossings : ℕ → List (Option Key) → ℕ
slot_crossings fermions [] = 0
slot_crossings fermions (a ∷ slots) = crossings_with fermions (legs_in a) slots + slot_crossings fermions slots

module _ (r : Reaction) where
  -- Two or three wave functions fuse to one with field f: their sets are a split of its set, which lies away from the
  -- keystone, their fields with that of the edge upwards are those of the slots, the named edges stay whole, and its colour
  -- lines are theirs, joined by the choice.
  pub record Fuses (f v c : ℕ) (ks : List Key) (k : Key) : Type 0 where
    pub has_field : k.field ≡ f
    pub field : f < r.scattering.theory.fields
    pub vertex : v < r.scattering.theory.vertices
    pub choice : c < r.scattering.theory.choices v
    pub counted : (length ks ≡ 2) ⊎ (length ks ≡ 3)
    pub legs : IsLegSet k.legs
    pub split : IsSplit (length ks) k.legs (sets_of ks)
    pub outward : is_outward r.scattering.size k.legs ≡ true
    pub slots : same_numbers (r.scattering.theory.anti f ∷ fields_of ks) (r.scattering.theory.slots v) ≡ true
    pub edges : keeps_edges r (complement k.legs r.scattering.size ∷ sets_of ks) ≡ true
    pub partial : let slots = fused_slots r f v k.legs ks in k.partial ≡ joined (slot_partials slots) (r.choice v c) (hole_of slots)

  -- Three or four wave functions meet at a keystone: their sets are a split of all legs, each lies away from the keystone,
  -- their fields are those of the slots, the named edges stay whole, and the flow closes their colour lines by the choice.
  pub record Closes (v c : ℕ) (ks : List Key) (w : Flow) : Type 0 where
    pub vertex : v < r.scattering.theory.vertices
    pub choice : c < r.scattering.theory.choices v
    pub counted : (length ks ≡ 3) ⊎ (length ks ≡ 4)
    pub split : IsSplit (length ks) (all_legs r.scattering.size) (sets_of ks)
    pub outward : all_in (is_outward r.scattering.size) (sets_of ks) ≡ true
    pub slots : same_numbers (fields_of ks) (r.scattering.theory.slots v) ≡ true
    pub edges : keeps_edges r (sets_of ks) ≡ true
    pub flow : w ≡ closed (slot_partials (closed_slots r v ks)) (r.choice v c)

  -- the sign of a term, and of a keystone term, is -1
  unfoldable pub fused_minus : (f v legs : ℕ) → List Key → Bool
  fused_minus f v legs ks = is_odd (slot_crossings r.fermions (fused_slots r f v legs ks))

  unfoldable pub closed_minus : ℕ → List Key → Bool
  closed_minus v ks = is_odd (slot_crossings r.fermions (closed_slots r v ks))

  abbrev pub leg_key : ℕ → Key
  leg_key k = record { legs = set_of_one k; field = r.scattering.field k; partial = leg_partial k (r.colour (r.scattering.field k)) }

  -- what can be fused out of the legs of the process
  abbrev pub fusion : Fusion Key Flow
  fusion = record { size = r.scattering.size; leg = leg_key; field = λ (k : Key). k.field; fuses = Fuses; closes = Closes }
