-- What the slots of a code hold, as one value each, and what instructions make of them.
use Rattle.std.specs.Prelude.{◌≡◌, ℕ, ◌<◌, List, [], ◌∷◌, ◌++◌, map, length, replicate, ◌/◌, Bool, Option, Some, None, slice_get, slice_set, slice_index_or}
use Rattle.std.specs.List.{AllByRecursion}
use Rattle.om_ring.specs.Ops.{Ops, signed}
use Rattle.om_legs.specs.Legs.{set_of_one, complement}
use Rattle.om_kernel.specs.Slots.{Slot, Slots}
use Rattle.om_kernel.specs.declared.waves.Wave.{Wave}
use Rattle.om_kernel.specs.Waves.{kind_of}
use Rattle.om_kernel.specs.IndexSums.{full_sum, fused_kind, index_sum}
use Rattle.om_kernel.specs.EdgeSums.{edge_sum}
use Rattle.om_model.specs.Entries.{factors_of}
use Rattle.om_model.specs.FeynmanRules.{Table}
use Rattle.om_model.specs.Model.{anti_field}
use Rattle.om_code.specs.declared.code.Instr.{Instr}
use Rattle.om_code.specs.declared.code.Instr.TheVariants.{Load, Fuse, Prop, Key}
use Rattle.om_code.specs.declared.code.Code.{Code}
use Rattle.om_code.specs.declared.slots.Held.{Held}
use Rattle.om_code.specs.declared.slots.Phase.TheVariants.{Gathering, Ready}
use Rattle.om_code.specs.Rules.{size_of}
use Rattle.om_code.specs.Slots.{nothing, fields_of, union_of, left_field, field_or_0, field_of_leg, slots_of_vertex}
use Rattle.om_legs.specs.BranchNodes.{nodes_of}
use Rattle.om_code.specs.Waves.{Incoming, momentum_behind, plus_wave, signed_wave, wave_of, wave_of_leg, zero_wave}
use Rattle.om_code.specs.Vertices.{hole_by, reading_of_vertex, sorted_into, structure_of}
use Rattle.om_code.specs.Meaning.{factor_at, sums_of}
use Rattle.om_code.specs.Ops.{Meaning}
use Rattle.om_code.specs.Registers.{Step, load, fuse, prop, key, run, start}

-- what a slot holds, and its wave
abbrev pub Content : Type 0 → Type 0
Content E = Held × Wave E

-- what enters a vertex through one of its edges: the field, the legs behind it, and its wave, none where the edge leads upwards
pub record EnteringWave (E : Type 0) : Type 0 where
  pub legs : ℕ
  pub field : ℕ
  pub wave : Option (Wave E)

module _ {E : Type 0} where
  -- in order of the least leg behind it, each goes to the first free slot with its field
  abbrev pub waves_in_slots : List ℕ → List (EnteringWave E) → List (EnteringWave E)
  waves_in_slots fields qs = sorted_into (λ q. q.field) (λ q. q.legs) fields qs

  -- the first slot without wave, counted from 1; of none, 1 more than there are slots
  abbrev pub open_slot : List (EnteringWave E) → ℕ
  open_slot [] = 1
  open_slot (q ∷ qs) = hole_by q.wave (open_slot qs)

  -- nothing enters past the last slot
  abbrev pub wave_or_none : Option (EnteringWave E) → EnteringWave E
  wave_or_none None = record { legs = 0; field = 0; wave = None }
  wave_or_none (Some q) = q

  -- what enters through a branch
  abbrev pub entering : Content E → EnteringWave E
  entering w = record { legs = w.0.legs; field = w.0.field; wave = Some w.1 }

module _ {E : Type 0} (o : Ops E) (c : Code) (t : Table E) (e : Incoming E) where
  -- a slot of a vertex, with its wave and the momentum of the legs behind it
  abbrev pub slot_of : EnteringWave E → Slot E
  slot_of q = record { wave = q.wave; momentum = momentum_behind o e q.legs }

  abbrev pub slots_of : List (EnteringWave E) → Slots E
  slots_of qs = record {
    first = slot_of (wave_or_none (slice_get qs 0));
    second = slot_of (wave_or_none (slice_get qs 1));
    third = slot_of (wave_or_none (slice_get qs 2));
    fourth = slot_of (wave_or_none (slice_get qs 3));
  }

  -- the legs and the field that a vertex makes
  unfoldable pub fused_of : ℕ → List Held → Held
  fused_of vertex hs = record {
    phase = Gathering;
    legs = union_of 0 hs;
    field = anti_field c.model.particles (field_or_0 (left_field (slots_of_vertex c vertex) (fields_of hs)));
  }

  -- the edge that leads upwards from what a vertex makes
  abbrev pub upwards_of : Held → EnteringWave E
  upwards_of h = record { legs = complement h.legs (size_of c); field = anti_field c.model.particles h.field; wave = None }

  -- the signed wave that a vertex makes of what enters through its branches, where it makes these legs and this field
  unfoldable pub made_wave : Bool → ℕ → ℕ → Held → List (EnteringWave E) → Wave E
  made_wave minus vertex choice h entered =
      let qs = waves_in_slots (slots_of_vertex c vertex) (entered ++ upwards_of h ∷ []) in
      let s = structure_of c vertex in
      signed_wave o minus (wave_of (fused_kind s (open_slot qs))
      (λ n. o.times o.imag (index_sum o s (reading_of_vertex c vertex choice) (factors_of o (t.factors vertex)) (slots_of qs) (open_slot qs) n)))

  unfoldable pub fused_content : Bool → ℕ → ℕ → List (Content E) → Content E
  fused_content minus vertex choice ws =
      let h = fused_of vertex (map (λ w. w.0) ws) in
      (h, made_wave minus vertex choice h (map entering ws))

  -- a wave of some legs and a field that has gone over its edge
  unfoldable pub wave_over : ℕ → Held → Wave E → Wave E
  wave_over den h w = wave_of (kind_of w)
      (λ n. o.times (factor_at o c t e (slice_get c.dens den)) (edge_sum o (t.mass (h.field / 2)) (momentum_behind o e h.legs) w n))

  unfoldable pub moved_content : ℕ → Content E → Content E
  moved_content den w = (record w.0 { phase = Ready }, wave_over den w.0 w.1)

  -- the signed number that a vertex makes of what enters through all its slots
  unfoldable pub made_number : Bool → ℕ → ℕ → List (EnteringWave E) → E
  made_number minus vertex choice entered =
      let qs = waves_in_slots (slots_of_vertex c vertex) entered in
      let reading = reading_of_vertex c vertex choice in
      signed o minus (o.times o.imag (full_sum o (structure_of c vertex) reading (factors_of o (t.factors vertex)) (slots_of qs)))

  unfoldable pub summed_content : ℕ → Bool → ℕ → ℕ → List (Content E) → List E → List E
  summed_content flow minus vertex choice ws sums =
      slice_set sums flow (o.plus (slice_index_or sums flow o.zero) (made_number minus vertex choice (map entering ws)))

  abbrev pub step_at : Instr → Step (Content E) (List E)
  step_at (Load to leg) = load to (record { phase = Ready; legs = set_of_one leg; field = field_of_leg c leg }, wave_of_leg o e leg)
  step_at (Fuse to minus vertex choice b) = fuse to (nodes_of b) (fused_content minus vertex choice)
  step_at (Prop of den) = prop of (moved_content den)
  step_at (Key flow minus vertex choice b) = key (nodes_of b) (summed_content flow minus vertex choice)

  -- what the instructions of the code mean
  abbrev pub code_meaning : Meaning (Content E) (List E)
  code_meaning = record {
    loaded = λ leg. (record { phase = Ready; legs = set_of_one leg; field = field_of_leg c leg }, wave_of_leg o e leg);
    fused = fused_content;
    moved = moved_content;
    closed = summed_content;
  }

  -- a wave more of the same legs and field
  abbrev pub plus_content : Content E → Content E → Content E
  plus_content x y = (y.0, plus_wave o x.1 y.1)

  abbrev pub empty_content : Content E
  empty_content = (nothing, zero_wave o)

-- the slots that an instruction names exist
abbrev pub NamesSlots : ℕ → Instr → Type 0
NamesSlots n (Load to leg) = to < n
NamesSlots n (Fuse to minus vertex choice b) = (to < n) × AllByRecursion (λ k. k < n) (nodes_of b)
NamesSlots n (Prop of den) = of < n
NamesSlots n (Key flow minus vertex choice b) = AllByRecursion (λ k. k < n) (nodes_of b)

-- the sums of a code of version 2 are those of the register machine whose registers are the slots
abbrev pub MeaningIsRun : {E : Type 0} → Ops E → Type 0
MeaningIsRun {E} o = (c : Code) (t : Table E) (e : Incoming E) → c.version ≡ 2 → AllByRecursion (NamesSlots c.slots) c.instrs →
    (let first = start (empty_content o c t e) (replicate (length c.flows) o.zero) in
    sums_of o c t e ≡ (run (plus_content o c t e) (map (step_at o c t e) c.instrs) first).sums)
