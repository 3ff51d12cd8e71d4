-- The propagators: the numerators by index, and the denominator. The indices of a vector are upper ones. A Dirac
-- field has the row on the left, and the momentum along its arrow, towards the vertex that it enters as the fermion.
use Rattle.std.specs.Prelude.{◌≡◌, ◌≢◌, ℕ, Bool, true, false, Option, Some, None}
use Rattle.om_ring.specs.Ops.{Ops}
use Rattle.om_lorentz.specs.declared.structures.Spin.{Spin}
use Rattle.om_lorentz.specs.declared.structures.Spin.TheVariants.{Scalar, Dirac, Vector}
use Rattle.om_lorentz.specs.declared.vectors.Four.{Four}
use Rattle.om_lorentz.specs.Matrices.{upper, metric, unit, slash}

module _ {E : Type 0} (o : Ops E) where
  open o use {imag as 𝕚, plus as ◌⊕◌, minus as ⊖◌, times as ◌⊗◌}

  infixl 60 ◌⊕◌
  infix 65 ⊖◌
  infixl 70 ◌⊗◌
  -- the numerator -i g of a massless vector
  abbrev pub massless_numerator : ℕ → ℕ → E
  massless_numerator left right = ⊖ 𝕚 ⊗ metric o left right

  -- the numerator -i (g - p p / m^2) of a massive vector, where w is 1/m
  abbrev pub massive_numerator : E → Four E → ℕ → ℕ → E
  massive_numerator w p left right = ⊖ 𝕚 ⊗ (metric o left right ⊕ ⊖ upper p left ⊗ upper p right ⊗ (w ⊗ w))

  -- the table of the numerators, where w is 1/m, or nothing where m has no inverse: so has a massless vector
  abbrev pub numerator : Spin → E → Option E → Four E → ℕ → ℕ → E
  numerator Scalar m w p left right = 𝕚
  numerator Dirac m w p left right = 𝕚 ⊗ (slash o p left right ⊕ m ⊗ unit o left right)
  numerator Vector m None p left right = massless_numerator left right
  numerator Vector m (Some w) p left right = massive_numerator w p left right

  -- the numerator of a field of spin s and mass m
  abbrev pub propagator : Spin → E → Four E → ℕ → ℕ → E
  propagator s m p left right = numerator s m (o.inverse m) p left right

  -- for a vector `massive` holds exactly where the mass m isn't 0, and then w is 1/m
  abbrev pub MassAgrees : Spin → E → E → Bool → Type 0
  MassAgrees Vector m w true = (m ≢ o.zero) × (m ⊗ w ≡ o.one)
  MassAgrees Vector m w false = m ≡ o.zero
  MassAgrees _ m w massive = Unit {0}

  -- p^2 = p0 p0 - p1 p1 - p2 p2 - p3 p3
  abbrev pub momentum_square : Four E → E
  momentum_square p = p.t ⊗ p.t ⊕ ⊖ p.x ⊗ p.x ⊕ ⊖ p.y ⊗ p.y ⊕ ⊖ p.z ⊗ p.z

  -- the denominator p^2 - m^2 + i m Gamma
  abbrev pub denominator : Four E → E → E → E
  denominator p m width = momentum_square p ⊕ ⊖ m ⊗ m ⊕ 𝕚 ⊗ m ⊗ width
