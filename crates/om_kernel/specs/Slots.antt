-- What enters a vertex through its slots.
use Rattle.std.specs.Prelude.{ℕ, zero, suc, List, Option, Some, None, slice_index_or}
use Rattle.om_ring.specs.Ops.{Ops}
use Rattle.om_lorentz.specs.declared.vectors.Four.{Four}
use Rattle.om_kernel.specs.declared.waves.Place.{Place}
use Rattle.om_kernel.specs.declared.waves.Places.{Places}
use Rattle.om_kernel.specs.declared.waves.Slots.{Slots as Placed}
use Rattle.om_kernel.specs.declared.waves.Wave.{Wave}
use Rattle.om_kernel.specs.declared.waves.Wave.TheVariants.{Scalar}

-- a wave, or none at the hole and past the vertex, and the momentum, with upper components
pub record Slot (E : Type 0) : Type 0 where
  pub wave : Option (Wave E)
  pub momentum : Four E

-- the slots in the order in which the structure names them
pub record Slots (E : Type 0) : Type 0 where
  pub first : Slot E
  pub second : Slot E
  pub third : Slot E
  pub fourth : Slot E

-- the place of a slot, counted from 1
abbrev pub place_at : Places → ℕ → Place
place_at ps zero = ps.first
place_at ps (suc zero) = ps.first
place_at ps (suc (suc zero)) = ps.second
place_at ps (suc (suc (suc zero))) = ps.third
place_at ps (suc (suc (suc (suc n)))) = ps.fourth

module _ {E : Type 0} (o : Ops E) where
  -- the wave with a number, 0 where there is no such wave
  abbrev pub wave_from : List (Wave E) → Option ℕ → Option (Wave E)
  wave_from waves None = None
  wave_from waves (Some k) = Some (slice_index_or waves k (Scalar o.zero))

  -- the momentum with a number, 0 where there is no such momentum
  abbrev pub momentum_from : List (Four E) → ℕ → Four E
  momentum_from momenta k = slice_index_or momenta k (record { t = o.zero; x = o.zero; y = o.zero; z = o.zero })

  module _ (waves : List (Wave E)) (momenta : List (Four E)) where
    -- what stands at a place
    abbrev pub standing : Place → Slot E
    standing p = record { wave = wave_from waves p.wave; momentum = momentum_from momenta p.momentum }

    -- what enters through slots with these places
    abbrev pub slots_at : Places → Slots E
    slots_at ps = record { first = standing ps.first; second = standing ps.second; third = standing ps.third; fourth = standing ps.fourth }

  abbrev pub filled : Placed E → Slots E
  filled w = slots_at w.waves.now w.momenta.now w.places.now
