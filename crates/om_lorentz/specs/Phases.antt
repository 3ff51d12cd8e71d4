-- The numbers of which the gamma matrices are made.
use Rattle.om_ring.specs.Ops.{Ops}
use Rattle.om_lorentz.specs.declared.phases.Phase.{Phase}
use Rattle.om_lorentz.specs.declared.phases.Phase.TheVariants.{Zero, One, MinusOne, Imag, MinusImag}

-- what a phase means
abbrev pub phase_value : {E : Type 0} → Ops E → Phase → E
phase_value o Zero = o.zero
phase_value o One = o.one
phase_value o MinusOne = o.minus o.one
phase_value o Imag = o.imag
phase_value o MinusImag = o.minus o.imag
