-- What enters through a slot stands at its place.
use Rattle.std.proofs.Common.{◌≡◌, ℕ, zero, suc, refl}
use Rattle.om_ring.specs.Ops.{Ops}
use Rattle.om_lorentz.specs.Entries.{momentum}
use Rattle.om_kernel.specs.declared.waves.Slots.{Slots as Placed}
use Rattle.om_kernel.specs.IndexSums.{momenta_of, wave_at}
use Rattle.om_kernel.specs.Slots.{filled, momentum_from, place_at, wave_from}

module _ {E : Type 0} (o : Ops E) (w : Placed E) where
  pub wave_placed : (slot : ℕ) → wave_at (filled o w) slot ≡ wave_from o w.waves.now (place_at w.places.now slot).wave
  wave_placed zero = refl
  wave_placed (suc zero) = refl
  wave_placed (suc (suc zero)) = refl
  wave_placed (suc (suc (suc zero))) = refl
  wave_placed (suc (suc (suc (suc n)))) = refl

  pub momentum_placed : (slot : ℕ) → momentum (momenta_of (filled o w)) slot ≡ momentum_from o w.momenta.now (place_at w.places.now slot).momentum
  momentum_placed zero = refl
  momentum_placed (suc zero) = refl
  momentum_placed (suc (suc zero)) = refl
  momentum_placed (suc (suc (suc zero))) = refl
  momentum_placed (suc (suc (suc (suc n)))) = refl
