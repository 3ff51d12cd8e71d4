-- Products with a phase.
use Rattle.std.proofs.Common.{◌≡◌, refl, ◌∙◌, ap}
use Rattle.om_ring.specs.Ops.{Ops, Laws}
use Rattle.om_ring.proofs.RingLemmas.{one_times, minus_times}
use Rattle.om_lorentz.specs.Phases.{phase_value}
use Rattle.om_lorentz.specs.declared.phases.Phase.{Phase}
use Rattle.om_lorentz.specs.declared.phases.Phase.TheVariants.{Zero, One, MinusOne, Imag, MinusImag}
use Rattle.om_lorentz.proofs.Products.{zero_times, minus_one_times}

-- the product of a phase and x, without a product by 0, 1 or -1
abbrev pub turn : {E : Type 0} → Ops E → Phase → E → E
turn o Zero x = o.zero
turn o One x = x
turn o MinusOne x = o.minus x
turn o Imag x = o.times o.imag x
turn o MinusImag x = o.minus (o.times o.imag x)

module _ {E : Type 0} (o : Ops E) (l : Laws o) where
  -- a product with a phase
  phase-times : (p : Phase) (x : E) → o.times (phase_value o p) x ≡ turn o p x
  phase-times Zero x = zero_times o l x
  phase-times One x = one_times o l x
  phase-times MinusOne x = minus_one_times o l x
  phase-times Imag x = refl
  phase-times MinusImag x = minus_times o l o.imag x

  -- the same where the phase is known by an equation
  pub phase-times_at : (p q : Phase) (x : E) → p ≡ q → o.times (phase_value o p) x ≡ turn o q x
  phase-times_at p q x e = ap (λ u. o.times (phase_value o u) x) e ∙ phase-times q x
