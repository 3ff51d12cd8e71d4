-- The index sums of a vertex: the entry times the components of the waves, summed over the indices of the slots.
use Rattle.std.specs.Prelude.{◌≡◌, ◌≢◌, ℕ, zero, suc, ◌-◌, ◌==◌, if◌then◌else◌, List, [], ◌∷◌, Option, Some, None, slice_get, slice_index_or}
use Rattle.om_ring.specs.Ops.{Ops}
use Rattle.om_ring.specs.Sums.{sum_over}
use Rattle.om_lorentz.specs.declared.structures.Factors.{Factors}
use Rattle.om_lorentz.specs.declared.structures.Reading.{Reading}
use Rattle.om_lorentz.specs.declared.structures.Structure.{Structure}
use Rattle.om_lorentz.specs.declared.structures.Structure.TheVariants.{Sss, Ssss, Vss, Vvs, Vvss, Ffs, Ffv, Vvv, Vvvv, Gluon4}
use Rattle.om_lorentz.specs.declared.vectors.Momenta.{Momenta}
use Rattle.om_lorentz.specs.Entries.{entry}
use Rattle.om_lorentz.specs.Structures.{IsSlot}
use Rattle.om_kernel.specs.declared.waves.Wave.{Wave}
use Rattle.om_kernel.specs.Slots.{Slots}
use Rattle.om_kernel.specs.Waves.{component, wave_indices, Kind, a_scalar, a_row, a_column, a_vector, held_kind}

-- the wave in a slot, counted from 1
abbrev pub wave_at : {E : Type 0} → Slots E → ℕ → Option (Wave E)
wave_at w zero = w.first.wave
wave_at w (suc zero) = w.first.wave
wave_at w (suc (suc zero)) = w.second.wave
wave_at w (suc (suc (suc zero))) = w.third.wave
wave_at w (suc (suc (suc (suc n)))) = w.fourth.wave

-- the momenta that enter through the slots
abbrev pub momenta_of : {E : Type 0} → Slots E → Momenta E
momenta_of w = record { first = w.first.momentum; second = w.second.momentum; third = w.third.momentum; fourth = w.fourth.momentum }

-- the kinds of the waves that enter a vertex, slot by slot
abbrev pub kinds : Structure → List Kind
kinds Sss = a_scalar ∷ a_scalar ∷ a_scalar ∷ []
kinds Ssss = a_scalar ∷ a_scalar ∷ a_scalar ∷ a_scalar ∷ []
kinds Vss = a_vector ∷ a_scalar ∷ a_scalar ∷ []
kinds Vvs = a_vector ∷ a_vector ∷ a_scalar ∷ []
kinds Vvss = a_vector ∷ a_vector ∷ a_scalar ∷ a_scalar ∷ []
kinds Ffs = a_row ∷ a_column ∷ a_scalar ∷ []
kinds Ffv = a_row ∷ a_column ∷ a_vector ∷ []
kinds Vvv = a_vector ∷ a_vector ∷ a_vector ∷ []
kinds Vvvv = a_vector ∷ a_vector ∷ a_vector ∷ a_vector ∷ []
kinds Gluon4 = a_vector ∷ a_vector ∷ a_vector ∷ a_vector ∷ []

-- the kind that enters through a slot, none past the vertex
abbrev pub slot_kind : Structure → ℕ → Option Kind
slot_kind s slot = slice_get (kinds s) (slot - 1)

-- every slot but the hole holds a wave of its kind, and a slot past the vertex none
abbrev pub FitsBeside : {E : Type 0} → Structure → ℕ → Slots E → Type 0
FitsBeside s hole w = (slot : ℕ) → IsSlot slot → slot ≢ hole → held_kind (wave_at w slot) ≡ slot_kind s slot

-- the same, and the hole holds none
pub record Fits {E : Type 0} (s : Structure) (hole : ℕ) (w : Slots E) : Type 0 where
  pub beside : FitsBeside s hole w
  pub empty : wave_at w hole ≡ None

-- every slot holds a wave of its kind, and a slot past the vertex none
abbrev pub FitsAll : {E : Type 0} → Structure → Slots E → Type 0
FitsAll s w = (slot : ℕ) → IsSlot slot → held_kind (wave_at w slot) ≡ slot_kind s slot

-- the kind of what a vertex gives at a hole: opposite a row stands a column
abbrev pub fused_kind : Structure → ℕ → Kind
fused_kind Ffs (suc zero) = a_column
fused_kind Ffs (suc (suc zero)) = a_row
fused_kind Ffv (suc zero) = a_column
fused_kind Ffv (suc (suc zero)) = a_row
fused_kind s hole = slice_index_or (kinds s) (hole - 1) a_scalar

-- what a slot brings to an index sum: the indices that it takes, and what the summand is multiplied by at each
pub record Summand (E : Type 0) : Type 0 where
  pub indices : List ℕ
  pub weight : ℕ → E

module _ {E : Type 0} (o : Ops E) where
  -- the one index n, with weight 1
  abbrev pub fixed : ℕ → Summand E
  fixed n = record { indices = n ∷ []; weight = λ j. o.one }

  -- the indices of a wave with its components; without a wave the index 0 alone
  abbrev pub brought : Option (Wave E) → Summand E
  brought None = fixed 0
  brought (Some w) = record { indices = wave_indices w; weight = component w }

  -- the sum over the indices of four slots
  abbrev pub sum_slots : (ℕ → ℕ → ℕ → ℕ → E) → Summand E → Summand E → Summand E → Summand E → E
  sum_slots f p q r s =
      sum_over o p.indices (λ i. sum_over o q.indices (λ j. sum_over o r.indices (λ k. sum_over o s.indices (λ m.
      o.times (f i j k m) (o.times (p.weight i) (o.times (q.weight j) (o.times (r.weight k) (s.weight m))))))))

  -- the sum of the entry of a vertex, where each slot brings its summand
  abbrev pub entry_sum : Structure → Reading → Factors E → Slots E → (ℕ → Summand E) → E
  entry_sum s r f w at =
      sum_slots (λ i j k m. entry o s r f (momenta_of w) (i ∷ j ∷ k ∷ m ∷ [])) (at 1) (at 2) (at 3) (at 4)

  -- the index sum at the index n of the hole: all other slots are summed with their waves
  abbrev pub index_sum : Structure → Reading → Factors E → Slots E → ℕ → ℕ → E
  index_sum s r f w hole n = entry_sum s r f w (λ slot. if slot == hole then fixed n else brought (wave_at w slot))

  -- the full index sum: all slots are summed with their waves
  abbrev pub full_sum : Structure → Reading → Factors E → Slots E → E
  full_sum s r f w = entry_sum s r f w (λ slot. brought (wave_at w slot))
