-- What the slots bring to an index sum, by the kinds of their waves.
use Rattle.std.proofs.Common.{◌≡◌, ◌≢◌, ◌==◌, ℕ, Bool, true, false, if◌then◌else◌, [], ◌∷◌, refl, ◌∙◌, ap, Option, Some, None, arith}
use Rattle.std.proofs.lemmas.Bool.Decides.{nat_tests}
use Rattle.om_ring.specs.Ops.{Ops}
use Rattle.om_lorentz.specs.declared.structures.Factors.{Factors}
use Rattle.om_lorentz.specs.declared.structures.Reading.{Reading}
use Rattle.om_lorentz.specs.declared.structures.Structure.{Structure}
use Rattle.om_lorentz.specs.declared.vectors.Four.{Four}
use Rattle.om_lorentz.specs.Matrices.{upper}
use Rattle.om_lorentz.specs.Entries.{entry}
use Rattle.om_lorentz.specs.Structures.{IsSlot}
use Rattle.om_kernel.specs.declared.waves.Wave.{Wave}
use Rattle.om_kernel.specs.declared.waves.Wave.TheVariants.{Scalar, Row, Column, Vector}
use Rattle.om_kernel.specs.Slots.{Slots}
use Rattle.om_kernel.specs.Waves.{Kind, a_scalar, a_row, a_column, a_vector, held_kind}
use Rattle.om_kernel.specs.IndexSums.{Summand, fixed, brought, wave_at, slot_kind, momenta_of, FitsBeside, entry_sum, index_sum}
use Rattle.om_kernel.specs.Components.{scalar_in, four_in}
use Rattle.om_kernel.proofs.SlotSums.{sum_slots-same}

-- a number is at a slot, or it is not
at_test : {A : Type 0} (x y z : A) (slot hole : ℕ) (b : Bool) → (slot == hole) ≡ b → (slot ≢ hole → y ≡ z) → (if b then x else y) ≡ (if b then x else z)
at_test x y z slot hole true e h = refl
at_test x y z slot hole false e h = h (grind (arith, nat_tests))

module _ {E : Type 0} (o : Ops E) where
  -- the four components as weights of the indices 0 to 3
  abbrev pub four_summand : Four E → Summand E
  four_summand p = record { indices = 0 ∷ 1 ∷ 2 ∷ 3 ∷ []; weight = upper p }

  -- what a slot brings whose wave has this kind
  abbrev pub by_kind : Option Kind → Option (Wave E) → Summand E
  by_kind None w = fixed o 0
  by_kind (Some a_scalar) w = record { indices = 0 ∷ []; weight = λ j. scalar_in o w }
  by_kind (Some a_row) w = four_summand (four_in o w)
  by_kind (Some a_column) w = four_summand (four_in o w)
  by_kind (Some a_vector) w = four_summand (four_in o w)

  brought-by_kind : (w : Option (Wave E)) → brought o w ≡ by_kind (held_kind w) w
  brought-by_kind None = refl
  brought-by_kind (Some (Scalar x)) = refl
  brought-by_kind (Some (Row p)) = refl
  brought-by_kind (Some (Column p)) = refl
  brought-by_kind (Some (Vector p)) = refl

  pub brought-known : (w : Option (Wave E)) (k : Option Kind) → held_kind w ≡ k → brought o w ≡ by_kind k w
  brought-known w k e = brought-by_kind w ∙ ap (λ u. by_kind u w) e

  -- what a slot of a vertex brings, the hole the fixed index n
  abbrev pub slot_brings : Structure → Slots E → ℕ → ℕ → ℕ → Summand E
  slot_brings s w hole n slot = if slot == hole then fixed o n else by_kind (slot_kind s slot) (wave_at w slot)

  pub slot-known : (s : Structure) (w : Slots E) (hole n : ℕ) → FitsBeside s hole w → (slot : ℕ) → IsSlot slot →
      (if slot == hole then fixed o n else brought o (wave_at w slot)) ≡ slot_brings s w hole n slot
  slot-known s w hole n fits slot in_range =
      at_test (fixed o n) (brought o (wave_at w slot)) (by_kind (slot_kind s slot) (wave_at w slot)) slot hole (slot == hole) refl (λ beside. brought-known (wave_at w slot) (slot_kind s slot) (fits slot in_range beside))

  pub index_sum-known : (s : Structure) (r : Reading) (f : Factors E) (w : Slots E) (hole n : ℕ) → FitsBeside s hole w →
      index_sum o s r f w hole n ≡ entry_sum o s r f w (slot_brings s w hole n)
  index_sum-known s r f w hole n fits =
      let k : (slot : ℕ) → IsSlot slot → (if slot == hole then fixed o n else brought o (wave_at w slot)) ≡ slot_brings s w hole n slot = slot-known s w hole n fits in
      sum_slots-same o (λ i j k m. entry o s r f (momenta_of w) (i ∷ j ∷ k ∷ m ∷ [])) _ _ _ _ _ _ _ _ (k 1 (omega arith)) (k 2 (omega arith)) (k 3 (omega arith)) (k 4 (omega arith))

  -- the hole brings the fixed index, and any other slot what its kind brings
  pub brings-at_hole : (s : Structure) (w : Slots E) (hole n : ℕ) → slot_brings s w hole n hole ≡ fixed o n
  brings-at_hole s w hole n = chosen (hole == hole) (grind (arith, nat_tests))
    where
      chosen : (b : Bool) → b ≡ true → (if b then fixed o n else by_kind (slot_kind s hole) (wave_at w hole)) ≡ fixed o n
      chosen true e = refl
      chosen false e = cc

  pub brings-beside : (s : Structure) (w : Slots E) (hole n slot : ℕ) (k : Option Kind) → slot ≢ hole → slot_kind s slot ≡ k → slot_brings s w hole n slot ≡ by_kind k (wave_at w slot)
  brings-beside s w hole n slot k beside e = chosen (slot == hole) (grind (arith, nat_tests))
    where
      chosen : (b : Bool) → b ≡ false → (if b then fixed o n else by_kind (slot_kind s slot) (wave_at w slot)) ≡ by_kind k (wave_at w slot)
      chosen true h = cc
      chosen false h = ap (λ u. by_kind u (wave_at w slot)) e
