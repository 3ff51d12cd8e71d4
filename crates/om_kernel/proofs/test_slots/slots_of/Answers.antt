use Rattle.std.proofs.Common.{◌≡◌, ◌≢◌, ◌≤◌, ℕ, List, [], ◌∷◌, Option, Some, None, option_map, unwrap_or, slice_index_or, refl, ◌∙◌, ap, arith}
use Rattle.om_ring.specs.Ops.{Ops}
use Rattle.om_ring.specs.ZpOps.{zp}
use Rattle.om_lorentz.specs.declared.structures.Structure.{Structure}
use Rattle.om_lorentz.specs.declared.vectors.Four.{Four}
use Rattle.om_kernel.specs.declared.waves.Place.{Place}
use Rattle.om_kernel.specs.declared.waves.Wave.{Wave}
use Rattle.om_kernel.specs.declared.waves.Wave.TheVariants.{Scalar}
use Rattle.om_kernel.specs.IndexSums.{Fits, FitsAll, FitsBeside, slot_kind, wave_at}
use Rattle.om_kernel.specs.Slots.{Slots, slots_at, wave_from}
use Rattle.om_kernel.specs.Waves.{held_kind}
use Rattle.om_kernel.proofs.SlotOrders.{four_slots}
use Rattle.om_kernel.proofs.test_slots.slots_of.Goals as goal

module _ {E : Type 0} (o : Ops E) (waves : List (Wave E)) where
  -- what stands at the place of a wave, if there is one
  stands : (w : Option (Wave E)) (x : Wave E) (p : Place) (k : ℕ) → x ≡ unwrap_or w (Scalar o.zero) → p.wave ≡ option_map (λ u. k) w → slice_index_or waves k (Scalar o.zero) ≡ x →
      wave_from o waves p.wave ≡ w
  stands None x p k e at here = ap (wave_from o waves) at
  stands (Some y) x p k e at here = ap (wave_from o waves) at ∙ ap Some (here ∙ e)

module _ {E : Type 0} (s : Structure) (hole : ℕ) where
  -- a slot beside the hole holds a wave of its kind
  abbrev Beside : Option (Wave E) → ℕ → Type 0
  Beside w k = k ≢ hole → held_kind w ≡ slot_kind s k

  beside_of : (v w : Option (Wave E)) (k : ℕ) → v ≡ w → Beside w k → Beside v k
  beside_of v w k e h ne = ap held_kind e ∙ h ne

  fits_beside : (w : Slots E) → Beside w.first.wave 1 → Beside w.second.wave 2 → Beside w.third.wave 3 → Beside w.fourth.wave 4 → FitsBeside s hole w
  fits_beside w a b c d = four_slots (λ k. k ≢ hole → held_kind (wave_at w k) ≡ slot_kind s k) a b c d

  -- the slot at the hole holds none
  abbrev Empty : Option (Wave E) → ℕ → Type 0
  Empty w k = k ≡ hole → w ≡ None

  empty_of : (v w : Option (Wave E)) (k : ℕ) → v ≡ w → Empty w k → Empty v k
  empty_of v w k e h at = e ∙ h at

  fits : (w : Slots E) → FitsBeside s hole w → 1 ≤ hole → hole ≤ 4 → Empty w.first.wave 1 → Empty w.second.wave 2 → Empty w.third.wave 3 → Empty w.fourth.wave 4 → Fits s hole w
  fits w f low high a b c d = record { beside = f; empty = four_slots (λ k. k ≡ hole → wave_at w k ≡ None) a b c d hole (low, high) refl }

  fits_all : (w : Slots E) → FitsBeside s hole w → hole ≡ 0 → FitsAll s w
  fits_all w f none slot in_range = f slot in_range (λ e. omega arith)

pub returns-clause-hole : goal.returns-clause-hole
returns-clause-hole c low =
    let s = c.args.structure in
    let h = c.args.hole in
    let waves : List (Wave _) = c.or_zero.result ∷ c.or_zero-2.result ∷ c.or_zero-3.result ∷ c.or_zero-4.result ∷ [] in
    let one = stands zp waves _ c.or_zero.result c.place.result 0 c.or_zero.ensures c.place.ensures refl in
    let two = stands zp waves _ c.or_zero-2.result c.place-2.result 1 c.or_zero-2.ensures c.place-2.ensures refl in
    let three = stands zp waves _ c.or_zero-3.result c.place-3.result 2 c.or_zero-3.ensures c.place-3.ensures refl in
    let four = stands zp waves _ c.or_zero-4.result c.place-4.result 3 c.or_zero-4.ensures c.place-4.ensures refl in
    let momenta : List (Four _) = c.momentum.result ∷ c.momentum-2.result ∷ c.momentum-3.result ∷ c.momentum-4.result ∷ [] in
    let w : Slots _ = slots_at zp waves momenta (record { first = c.place.result; second = c.place-2.result; third = c.place-3.result; fourth = c.place-4.result }) in
    let beside = fits_beside s h w (beside_of s h _ _ 1 one c.wave_beside-first.ensures.beside) (beside_of s h _ _ 2 two c.wave_beside-second.ensures.beside)
    (beside_of s h _ _ 3 three c.wave_beside-third.ensures.beside) (beside_of s h _ _ 4 four c.wave_beside-fourth.ensures.beside) in
    fits s h w beside low c.requires (empty_of s h _ _ 1 one c.wave_beside-first.ensures.empty) (empty_of s h _ _ 2 two c.wave_beside-second.ensures.empty)
    (empty_of s h _ _ 3 three c.wave_beside-third.ensures.empty) (empty_of s h _ _ 4 four c.wave_beside-fourth.ensures.empty)

pub returns-clause-all : goal.returns-clause-all
returns-clause-all c none =
    let s = c.args.structure in
    let h = c.args.hole in
    let waves : List (Wave _) = c.or_zero.result ∷ c.or_zero-2.result ∷ c.or_zero-3.result ∷ c.or_zero-4.result ∷ [] in
    let one = stands zp waves _ c.or_zero.result c.place.result 0 c.or_zero.ensures c.place.ensures refl in
    let two = stands zp waves _ c.or_zero-2.result c.place-2.result 1 c.or_zero-2.ensures c.place-2.ensures refl in
    let three = stands zp waves _ c.or_zero-3.result c.place-3.result 2 c.or_zero-3.ensures c.place-3.ensures refl in
    let four = stands zp waves _ c.or_zero-4.result c.place-4.result 3 c.or_zero-4.ensures c.place-4.ensures refl in
    let momenta : List (Four _) = c.momentum.result ∷ c.momentum-2.result ∷ c.momentum-3.result ∷ c.momentum-4.result ∷ [] in
    let w : Slots _ = slots_at zp waves momenta (record { first = c.place.result; second = c.place-2.result; third = c.place-3.result; fourth = c.place-4.result }) in
    let beside = fits_beside s h w (beside_of s h _ _ 1 one c.wave_beside-first.ensures.beside) (beside_of s h _ _ 2 two c.wave_beside-second.ensures.beside)
    (beside_of s h _ _ 3 three c.wave_beside-third.ensures.beside) (beside_of s h _ _ 4 four c.wave_beside-fourth.ensures.beside) in
    fits_all s h w beside none
