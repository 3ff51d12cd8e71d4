-- A vertex is closed by contracting what it gives at its last slot with the wave there.
use Rattle.std.proofs.Common.{◌≡◌, ◌<◌, ℕ, [], ◌∷◌, length, sym, ◌∙◌, ap, refl, slice_index_or, Some, arith}
use Rattle.om_ring.specs.Ops.{Ops, Laws}
use Rattle.om_ring.specs.Sums.{sum_over}
use Rattle.om_ring.proofs.GaussSolver.{Expr, var, nil, add, mul, img, solve}
use Rattle.om_lorentz.specs.declared.structures.Factors.{Factors}
use Rattle.om_lorentz.specs.declared.structures.Reading.{Reading}
use Rattle.om_lorentz.specs.declared.structures.Structure.{Structure}
use Rattle.om_lorentz.specs.declared.structures.Structure.TheVariants.{Sss, Ssss, Vss, Vvs, Vvss, Ffs, Ffv, Vvv, Vvvv, Gluon4}
use Rattle.om_lorentz.specs.declared.vectors.Four.{Four}
use Rattle.om_lorentz.specs.Matrices.{upper}
use Rattle.om_lorentz.specs.Entries.{entry}
use Rattle.om_lorentz.specs.Structures.{IsSlot, IsReading, slot_count, slot_indices}
use Rattle.om_kernel.specs.Slots.{Slots}
use Rattle.om_kernel.specs.declared.waves.Wave.{Wave}
use Rattle.om_kernel.specs.declared.waves.Wave.TheVariants.{Scalar, Row, Column, Vector}
use Rattle.om_kernel.specs.Waves.{a_scalar, a_vector, component, kind_of, held_kind}
use Rattle.om_kernel.specs.IndexSums.{Summand, brought, wave_at, momenta_of, slot_kind, fused_kind, FitsAll, index_sum, full_sum}
use Rattle.om_kernel.specs.Components.{plain_dot}
use Rattle.om_kernel.specs.Forms.{scalar_at, four_at, fused, contracted}
use Rattle.om_kernel.proofs.SlotSums.{opened3, opened4}
use Rattle.om_kernel.proofs.KnownSlots.{brought-known}
use Rattle.om_kernel.proofs.FusedForms.{fused-sum, fused-kind}

-- four products at variables: the sums from 0, the components from 4
abbrev four_products : (ℕ → ℕ → Expr) → Expr
four_products product = add (add (product 0 4) (product 1 5)) (add (product 2 6) (product 3 7))

module _ {E : Type 0} (o : Ops E) (l : Laws o) (w : Slots E) where
  -- the sum over the index of a slot, where the rest of the sum is X
  abbrev summed : Summand E → (ℕ → E) → E
  summed p X = sum_over o p.indices (λ n. o.times (p.weight n) (X n))

  four-contracted : (p q : Four E) (X : ℕ → E) → ((n : ℕ) → n < 4 → upper p n ≡ o.times o.imag (X n)) →
      plain_dot o p q ≡ o.times o.imag (summed (record { indices = 0 ∷ 1 ∷ 2 ∷ 3 ∷ []; weight = upper q }) X)
  four-contracted p q X h =
      let i : E → E = o.times o.imag in
      let env : ℕ → E = λ k. slice_index_or (X 0 ∷ X 1 ∷ X 2 ∷ X 3 ∷ q.t ∷ q.x ∷ q.y ∷ q.z ∷ []) k o.zero in
      let D : E → E → E → E → E = λ a b c d. plain_dot o (record { t = a; x = b; y = c; z = d }) q in
      ap (λ a. D a p.x p.y p.z) (h 0 (omega arith)) ∙ ap (λ a. D (i (X 0)) a p.y p.z) (h 1 (omega arith)) ∙
      ap (λ a. D (i (X 0)) (i (X 1)) a p.z) (h 2 (omega arith)) ∙ ap (D (i (X 0)) (i (X 1)) (i (X 2))) (h 3 (omega arith)) ∙
      solve o l env (four_products (λ x y. mul (mul img (var x)) (var y)))
      (mul img (add (mul (var 4) (var 0)) (add (mul (var 5) (var 1)) (add (mul (var 6) (var 2)) (add (mul (var 7) (var 3)) nil))))) refl

  vector-contracted : (x : Wave E) (slot : ℕ) (X : ℕ → E) → kind_of x ≡ a_vector → held_kind (wave_at w slot) ≡ Some a_vector →
      ((n : ℕ) → n < 4 → component x n ≡ o.times o.imag (X n)) → contracted o w x slot ≡ o.times o.imag (summed (brought o (wave_at w slot)) X)
  vector-contracted (Scalar y) slot X k e h = cc
  vector-contracted (Row p) slot X k e h = cc
  vector-contracted (Column p) slot X k e h = cc
  vector-contracted (Vector p) slot X k e h =
      four-contracted p (four_at o w slot) X h ∙ ap (λ u. o.times o.imag (summed u X)) (sym (brought-known o (wave_at w slot) (Some a_vector) e))

  scalar-contracted : (x : Wave E) (slot : ℕ) (X : ℕ → E) → kind_of x ≡ a_scalar → held_kind (wave_at w slot) ≡ Some a_scalar →
      component x 0 ≡ o.times o.imag (X 0) → contracted o w x slot ≡ o.times o.imag (summed (brought o (wave_at w slot)) X)
  scalar-contracted (Scalar y) slot X k e h =
      let env : ℕ → E = λ n. slice_index_or (X 0 ∷ scalar_at o w slot ∷ []) n o.zero in
      ap (λ u. o.times u (scalar_at o w slot)) h ∙
      solve o l env (mul (mul img (var 0)) (var 1)) (mul img (add (mul (var 1) (var 0)) nil)) refl ∙
      ap (λ u. o.times o.imag (summed u X)) (sym (brought-known o (wave_at w slot) (Some a_scalar) e))
  scalar-contracted (Row p) slot X k e h = cc
  scalar-contracted (Column p) slot X k e h = cc
  scalar-contracted (Vector p) slot X k e h = cc

module _ {E : Type 0} (o : Ops E) (l : Laws o) (r : Reading) (f : Factors E) (w : Slots E) where
  -- the full sum is the sum over the index of a slot
  abbrev Opens : Structure → ℕ → Type 0
  Opens s slot = full_sum o s r f w ≡ summed o l w (brought o (wave_at w slot)) (index_sum o s r f w slot)

  opens3 : (s : Structure) → Opens s 3
  opens3 s =
      let b : ℕ → Summand E = λ k. brought o (wave_at w k) in
      opened3 o l (b 1) (b 2) (b 3) (b 4) (λ i j k m. entry o s r f (momenta_of w) (i ∷ j ∷ k ∷ m ∷ []))

  opens4 : (s : Structure) → Opens s 4
  opens4 s =
      let b : ℕ → Summand E = λ k. brought o (wave_at w k) in
      opened4 o l (b 1) (b 2) (b 3) (b 4) (λ i j k m. entry o s r f (momenta_of w) (i ∷ j ∷ k ∷ m ∷ []))

  -- contracting what comes out at the last slot closes the vertex
  abbrev Closes : Structure → Type 0
  Closes s = (x : Wave E) → x ≡ fused o f w s r (slot_count s) → IsReading s r → FitsAll s w →
      contracted o w x (slot_count s) ≡ o.times o.imag (full_sum o s r f w)

  scalar-closes : (s : Structure) → Opens s (slot_count s) → slot_kind s (slot_count s) ≡ Some a_scalar → fused_kind s (slot_count s) ≡ a_scalar →
      IsSlot (slot_count s) → length (slot_indices s (slot_count s)) ≡ 1 → Closes s
  scalar-closes s opens kept out in_range few x e reading fits =
      scalar-contracted o l w x (slot_count s) (index_sum o s r f w (slot_count s))
      (fused-kind o l r f w s (slot_count s) x e in_range.0 (omega arith) ∙ out)
      (fits (slot_count s) in_range ∙ kept)
      (fused-sum o l r f w s (slot_count s) x e reading in_range.0 (omega arith) (λ slot here _. fits slot here) 0 (omega arith)) ∙
      ap (o.times o.imag) (sym opens)

  vector-closes : (s : Structure) → Opens s (slot_count s) → slot_kind s (slot_count s) ≡ Some a_vector → fused_kind s (slot_count s) ≡ a_vector →
      IsSlot (slot_count s) → length (slot_indices s (slot_count s)) ≡ 4 → Closes s
  vector-closes s opens kept out in_range four x e reading fits =
      vector-contracted o l w x (slot_count s) (index_sum o s r f w (slot_count s))
      (fused-kind o l r f w s (slot_count s) x e in_range.0 (omega arith) ∙ out)
      (fits (slot_count s) in_range ∙ kept)
      (λ n low. fused-sum o l r f w s (slot_count s) x e reading in_range.0 (omega arith) (λ slot here _. fits slot here) n (omega arith)) ∙
      ap (o.times o.imag) (sym opens)

  closes : (s : Structure) → Closes s
  closes Sss = scalar-closes Sss (opens3 Sss) refl refl (omega arith) refl
  closes Ssss = scalar-closes Ssss (opens4 Ssss) refl refl (omega arith) refl
  closes Vss = scalar-closes Vss (opens3 Vss) refl refl (omega arith) refl
  closes Vvs = scalar-closes Vvs (opens3 Vvs) refl refl (omega arith) refl
  closes Vvss = scalar-closes Vvss (opens4 Vvss) refl refl (omega arith) refl
  closes Ffs = scalar-closes Ffs (opens3 Ffs) refl refl (omega arith) refl
  closes Ffv = vector-closes Ffv (opens3 Ffv) refl refl (omega arith) refl
  closes Vvv = vector-closes Vvv (opens3 Vvv) refl refl (omega arith) refl
  closes Vvvv = vector-closes Vvvv (opens4 Vvvv) refl refl (omega arith) refl
  closes Gluon4 = vector-closes Gluon4 (opens4 Gluon4) refl refl (omega arith) refl

  -- the same where the last slot, what comes out there and the contraction are known by equations
  pub closed-known : (s : Structure) (last : ℕ) (x : Wave E) (y : E) → last ≡ slot_count s → x ≡ fused o f w s r last → y ≡ contracted o w x last → IsReading s r → FitsAll s w →
      y ≡ o.times o.imag (full_sum o s r f w)
  closed-known s last x y e ex ey reading fits =
      ey ∙ ap (contracted o w x) e ∙ closes s x (ex ∙ ap (fused o f w s r) e) reading fits
