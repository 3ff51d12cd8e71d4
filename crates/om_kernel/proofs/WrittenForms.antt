-- The forms of the structures whose slots differ, beside their index sums.
use Rattle.std.proofs.Common.{◌≡◌, ◌+◌, ◌<◌, ℕ, List, [], ◌∷◌, ◌++◌, refl, subst, slice_index_or, Option, Some, None, arith}
use Rattle.om_ring.specs.Ops.{Ops, Laws}
use Rattle.om_ring.proofs.GaussSolver.{Expr, var, mul, img, expr_ops, poly, value, solve}
use Rattle.om_lorentz.specs.declared.structures.Factors.{Factors}
use Rattle.om_lorentz.specs.declared.structures.Reading.{Reading}
use Rattle.om_lorentz.specs.declared.structures.Structure.{Structure}
use Rattle.om_lorentz.specs.declared.structures.Structure.TheVariants.{Sss, Ssss, Vss, Vvs, Vvss, Ffs, Ffv}
use Rattle.om_lorentz.specs.declared.vectors.Four.{Four}
use Rattle.om_lorentz.proofs.Metric.{below_four}
use Rattle.om_kernel.specs.declared.waves.Wave.TheVariants.{Scalar, Vector}
use Rattle.om_kernel.specs.Slots.{Slot, Slots}
use Rattle.om_kernel.specs.Waves.{Kind, a_scalar, a_row, a_column, a_vector, component}
use Rattle.om_kernel.specs.IndexSums.{slot_kind, entry_sum}
use Rattle.om_kernel.specs.Forms.{scalar_at, four_at, momentum_at, fused}
use Rattle.om_kernel.proofs.KnownSlots.{slot_brings}

abbrev pub four_vars : ℕ → Four Expr
four_vars k = record { t = var k; x = var (k + 1); y = var (k + 2); z = var (k + 3) }

abbrev pub parts : {E : Type 0} → Four E → List E
parts p = p.t ∷ p.x ∷ p.y ∷ p.z ∷ []

abbrev pub factor_vars : Factors Expr
factor_vars = record { a = var 0; b = var 1; c = var 2 }

-- a slot at variables, from k on: the scalar, four components and the momentum
abbrev slot_vars : Option Kind → ℕ → Slot Expr
slot_vars None k = record { wave = None; momentum = four_vars (k + 5) }
slot_vars (Some a_scalar) k = record { wave = Some (Scalar (var k)); momentum = four_vars (k + 5) }
slot_vars (Some a_row) k = record { wave = Some (Vector (four_vars (k + 1))); momentum = four_vars (k + 5) }
slot_vars (Some a_column) k = record { wave = Some (Vector (four_vars (k + 1))); momentum = four_vars (k + 5) }
slot_vars (Some a_vector) k = record { wave = Some (Vector (four_vars (k + 1))); momentum = four_vars (k + 5) }

-- the slots of a vertex at variables
abbrev vertex_vars : Structure → Slots Expr
vertex_vars s = record { first = slot_vars (slot_kind s 1) 3; second = slot_vars (slot_kind s 2) 12; third = slot_vars (slot_kind s 3) 21; fourth = slot_vars (slot_kind s 4) 30 }

-- both sides at variables
abbrev left : Structure → Reading → ℕ → ℕ → Expr
left s r hole n = component (fused expr_ops factor_vars (vertex_vars s) s r hole) n

abbrev right : Structure → Reading → ℕ → ℕ → Expr
right s r hole n = mul img (entry_sum expr_ops s r factor_vars (vertex_vars s) (slot_brings expr_ops s (vertex_vars s) hole n))

module _ {E : Type 0} (o : Ops E) (l : Laws o) (r : Reading) (f : Factors E) (w : Slots E) where
  -- the form is i times the index sum
  abbrev pub IsSum : Structure → ℕ → ℕ → Type 0
  IsSum s hole n = component (fused o f w s r hole) n ≡ o.times o.imag (entry_sum o s r f w (slot_brings o s w hole n))

  abbrev slot_values : ℕ → List E
  slot_values slot = scalar_at o w slot ∷ (parts (four_at o w slot) ++ parts (momentum_at w slot))

  abbrev env : ℕ → E
  env k = slice_index_or (f.a ∷ f.b ∷ f.c ∷ (slot_values 1 ++ (slot_values 2 ++ (slot_values 3 ++ slot_values 4)))) k o.zero

  -- it is enough that both sides have one normal form
  abbrev by_computing : (s : Structure) (hole n : ℕ) → poly (left s r hole n) ≡ poly (right s r hole n) → value o l env (left s r hole n) ≡ value o l env (right s r hole n)
  by_computing s hole n e = solve o l env (left s r hole n) (right s r hole n) e

  -- at the one index of a scalar
  at_zero : (s : Structure) (hole : ℕ) → IsSum s hole 0 → (n : ℕ) → n < 1 → IsSum s hole n
  at_zero s hole h n low = let P : ℕ → Type 0 = λ k. IsSum s hole k in let e : 0 ≡ n = omega arith in subst P e h

  pub sss-sum1 : (n : ℕ) → n < 1 → IsSum Sss 1 n
  sss-sum1 = at_zero Sss 1 (by_computing Sss 1 0 refl)

  pub sss-sum2 : (n : ℕ) → n < 1 → IsSum Sss 2 n
  sss-sum2 = at_zero Sss 2 (by_computing Sss 2 0 refl)

  pub sss-sum3 : (n : ℕ) → n < 1 → IsSum Sss 3 n
  sss-sum3 = at_zero Sss 3 (by_computing Sss 3 0 refl)

  pub ssss-sum1 : (n : ℕ) → n < 1 → IsSum Ssss 1 n
  ssss-sum1 = at_zero Ssss 1 (by_computing Ssss 1 0 refl)

  pub ssss-sum2 : (n : ℕ) → n < 1 → IsSum Ssss 2 n
  ssss-sum2 = at_zero Ssss 2 (by_computing Ssss 2 0 refl)

  pub ssss-sum3 : (n : ℕ) → n < 1 → IsSum Ssss 3 n
  ssss-sum3 = at_zero Ssss 3 (by_computing Ssss 3 0 refl)

  pub ssss-sum4 : (n : ℕ) → n < 1 → IsSum Ssss 4 n
  ssss-sum4 = at_zero Ssss 4 (by_computing Ssss 4 0 refl)

  pub vss-sum1 : (n : ℕ) → n < 4 → IsSum Vss 1 n
  vss-sum1 = below_four (IsSum Vss 1) (by_computing Vss 1 0 refl) (by_computing Vss 1 1 refl) (by_computing Vss 1 2 refl) (by_computing Vss 1 3 refl)

  pub vss-sum2 : (n : ℕ) → n < 1 → IsSum Vss 2 n
  vss-sum2 = at_zero Vss 2 (by_computing Vss 2 0 refl)

  pub vss-sum3 : (n : ℕ) → n < 1 → IsSum Vss 3 n
  vss-sum3 = at_zero Vss 3 (by_computing Vss 3 0 refl)

  pub vvs-sum1 : (n : ℕ) → n < 4 → IsSum Vvs 1 n
  vvs-sum1 = below_four (IsSum Vvs 1) (by_computing Vvs 1 0 refl) (by_computing Vvs 1 1 refl) (by_computing Vvs 1 2 refl) (by_computing Vvs 1 3 refl)

  pub vvs-sum2 : (n : ℕ) → n < 4 → IsSum Vvs 2 n
  vvs-sum2 = below_four (IsSum Vvs 2) (by_computing Vvs 2 0 refl) (by_computing Vvs 2 1 refl) (by_computing Vvs 2 2 refl) (by_computing Vvs 2 3 refl)

  pub vvs-sum3 : (n : ℕ) → n < 1 → IsSum Vvs 3 n
  vvs-sum3 = at_zero Vvs 3 (by_computing Vvs 3 0 refl)

  pub vvss-sum1 : (n : ℕ) → n < 4 → IsSum Vvss 1 n
  vvss-sum1 = below_four (IsSum Vvss 1) (by_computing Vvss 1 0 refl) (by_computing Vvss 1 1 refl) (by_computing Vvss 1 2 refl) (by_computing Vvss 1 3 refl)

  pub vvss-sum2 : (n : ℕ) → n < 4 → IsSum Vvss 2 n
  vvss-sum2 = below_four (IsSum Vvss 2) (by_computing Vvss 2 0 refl) (by_computing Vvss 2 1 refl) (by_computing Vvss 2 2 refl) (by_computing Vvss 2 3 refl)

  pub vvss-sum3 : (n : ℕ) → n < 1 → IsSum Vvss 3 n
  vvss-sum3 = at_zero Vvss 3 (by_computing Vvss 3 0 refl)

  pub vvss-sum4 : (n : ℕ) → n < 1 → IsSum Vvss 4 n
  vvss-sum4 = at_zero Vvss 4 (by_computing Vvss 4 0 refl)

  pub ffs-sum1 : (n : ℕ) → n < 4 → IsSum Ffs 1 n
  ffs-sum1 = below_four (IsSum Ffs 1) (by_computing Ffs 1 0 refl) (by_computing Ffs 1 1 refl) (by_computing Ffs 1 2 refl) (by_computing Ffs 1 3 refl)

  pub ffs-sum2 : (n : ℕ) → n < 4 → IsSum Ffs 2 n
  ffs-sum2 = below_four (IsSum Ffs 2) (by_computing Ffs 2 0 refl) (by_computing Ffs 2 1 refl) (by_computing Ffs 2 2 refl) (by_computing Ffs 2 3 refl)

  pub ffs-sum3 : (n : ℕ) → n < 1 → IsSum Ffs 3 n
  ffs-sum3 = at_zero Ffs 3 (by_computing Ffs 3 0 refl)

  pub ffv-sum1 : (n : ℕ) → n < 4 → IsSum Ffv 1 n
  ffv-sum1 = below_four (IsSum Ffv 1) (by_computing Ffv 1 0 refl) (by_computing Ffv 1 1 refl) (by_computing Ffv 1 2 refl) (by_computing Ffv 1 3 refl)

  pub ffv-sum2 : (n : ℕ) → n < 4 → IsSum Ffv 2 n
  ffv-sum2 = below_four (IsSum Ffv 2) (by_computing Ffv 2 0 refl) (by_computing Ffv 2 1 refl) (by_computing Ffv 2 2 refl) (by_computing Ffv 2 3 refl)

  pub ffv-sum3 : (n : ℕ) → n < 4 → IsSum Ffv 3 n
  ffv-sum3 = below_four (IsSum Ffv 3) (by_computing Ffv 3 0 refl) (by_computing Ffv 3 1 refl) (by_computing Ffv 3 2 refl) (by_computing Ffv 3 3 refl)
