-- The numerators of scalars and vectors without a direction.
use Rattle.std.proofs.Common.{◌≡◌, ℕ, zero, suc, refl, ◌∙◌, ap}
use Rattle.std.specs.Prelude.{Option, Some, None}
use Rattle.om_ring.specs.Ops.{Ops, Laws}
use Rattle.om_ring.proofs.RingLemmas.{minus_times, times_minus, minus_minus}
use Rattle.om_lorentz.specs.declared.structures.Spin.TheVariants.{Scalar, Dirac, Vector}
use Rattle.om_lorentz.specs.declared.vectors.Four.{Four}
use Rattle.om_lorentz.specs.Laws.{IsEven, IsSymmetric}
use Rattle.om_lorentz.specs.Matrices.{reversed, upper, metric}
use Rattle.om_lorentz.specs.Propagators.{numerator}
use Rattle.om_lorentz.proofs.Metric.{metric-sym}

module _ {E : Type 0} (o : Ops E) (l : Laws o) where
  -- the components of -p
  upper-reversed : (p : Four E) (mu : ℕ) → upper (reversed o p) mu ≡ o.minus (upper p mu)
  upper-reversed p zero = refl
  upper-reversed p (suc zero) = refl
  upper-reversed p (suc (suc zero)) = refl
  upper-reversed p (suc (suc (suc n))) = refl

  -- a product of two components has an even number of signs
  pair-reversed : (p : Four E) (j k : ℕ) → o.times (upper (reversed o p) j) (upper (reversed o p) k) ≡ o.times (upper p j) (upper p k)
  pair-reversed p j k =
      ap (o.times (upper (reversed o p) j)) (upper-reversed p k) ∙ ap (λ x. o.times x (o.minus (upper p k))) (upper-reversed p j) ∙
      minus_times o l (upper p j) (o.minus (upper p k)) ∙ ap o.minus (times_minus o l (upper p j) (upper p k)) ∙ minus_minus o l _

  -- whatever the inverse of the mass, -p gives the same
  even_at : (m : E) (w : Option E) (p : Four E) (left right : ℕ) → numerator o Vector m w (reversed o p) left right ≡ numerator o Vector m w p left right
  even_at m None p left right = refl
  even_at m (Some w) p left right =
      ap (λ x. o.minus (o.times o.imag (o.plus (metric o left right) (o.minus (o.times x (o.times w w)))))) (pair-reversed p left right)

  -- and so do exchanged indices
  symmetric_at : (m : E) (w : Option E) (p : Four E) (left right : ℕ) → numerator o Vector m w p left right ≡ numerator o Vector m w p right left
  symmetric_at m None p left right = ap (λ x. o.minus (o.times o.imag x)) (metric-sym o left right)
  symmetric_at m (Some w) p left right =
      ap (λ x. o.minus (o.times o.imag (o.plus x (o.minus (o.times (o.times (upper p left) (upper p right)) (o.times w w)))))) (metric-sym o left right) ∙
      ap (λ x. o.minus (o.times o.imag (o.plus (metric o right left) (o.minus (o.times x (o.times w w)))))) (l.times_comm (upper p left) (upper p right))

  -- the law of -p
  pub is_even : IsEven o
  is_even Scalar m p left right h = refl
  is_even Dirac m p left right h = absurd (h refl)
  is_even Vector m p left right h = even_at m (o.inverse m) p left right

  -- the law of exchanged indices
  pub is_symmetric : IsSymmetric o
  is_symmetric Scalar m p left right h = refl
  is_symmetric Dirac m p left right h = absurd (h refl)
  is_symmetric Vector m p left right h = symmetric_at m (o.inverse m) p left right
