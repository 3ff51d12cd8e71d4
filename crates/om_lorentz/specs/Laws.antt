-- The laws of the gamma matrices and of the reading orders.
use Rattle.std.specs.Prelude.{◌≡◌, ◌≢◌, ℕ, ◌<◌, List, [], ◌∷◌}
use Rattle.om_ring.specs.Ops.{Ops}
use Rattle.om_lorentz.specs.declared.structures.Factors.{Factors}
use Rattle.om_lorentz.specs.declared.structures.Reading.{Reading}
use Rattle.om_lorentz.specs.declared.structures.Spin.{Spin}
use Rattle.om_lorentz.specs.declared.structures.Spin.TheVariants.{Dirac}
use Rattle.om_lorentz.specs.declared.structures.Structure.TheVariants.{Vvv, Gluon4}
use Rattle.om_lorentz.specs.declared.vectors.Four.{Four}
use Rattle.om_lorentz.specs.declared.vectors.Momenta.{Momenta}
use Rattle.om_lorentz.specs.Matrices.{reversed, metric, unit, gamma, product}
use Rattle.om_lorentz.specs.Entries.{double, entry}
use Rattle.om_lorentz.specs.Propagators.{propagator}

-- the reading order r, s, t, u
abbrev pub order : ℕ → ℕ → ℕ → ℕ → Reading
order r s t u = record { slots = r ∷ s ∷ t ∷ u ∷ [] }

module _ {E : Type 0} (o : Ops E) where
  open o use {plus as ◌⊕◌, times as ◌⊗◌}

  infixl 60 ◌⊕◌
  infixl 70 ◌⊗◌
  -- gamma_mu gamma_nu + gamma_nu gamma_mu = 2 g_mu_nu
  abbrev pub Clifford : Type 0
  Clifford = (mu nu row column : ℕ) → mu < 4 → nu < 4 → row < 4 → column < 4 →
      product o (gamma o mu) (gamma o nu) row column ⊕ product o (gamma o nu) (gamma o mu) row column
      ≡ double o (metric o mu nu) ⊗ unit o row column

  -- `vvv` doesn't change under a rotation of its reading order
  abbrev pub RotatesThree : Type 0
  RotatesThree = (f : Factors E) (p : Momenta E) (i : List ℕ) (r s t : ℕ) →
      entry o Vvv (order r s t 0) f p i ≡ entry o Vvv (order s t r 0) f p i

  -- `gluon4` doesn't change under a rotation of its reading order
  abbrev pub RotatesFour : Type 0
  RotatesFour = (f : Factors E) (p : Momenta E) (i : List ℕ) (r s t u : ℕ) →
      entry o Gluon4 (order r s t u) f p i ≡ entry o Gluon4 (order s t u r) f p i

  -- the numerator of a scalar or a vector is the same for p and -p
  abbrev pub IsEven : Type 0
  IsEven = (s : Spin) (m : E) (p : Four E) (left right : ℕ) → s ≢ Dirac →
      propagator o s m (reversed o p) left right ≡ propagator o s m p left right

  -- the numerator of a scalar or a vector is the same with its two indices exchanged
  abbrev pub IsSymmetric : Type 0
  IsSymmetric = (s : Spin) (m : E) (p : Four E) (left right : ℕ) → s ≢ Dirac →
      propagator o s m p left right ≡ propagator o s m p right left
