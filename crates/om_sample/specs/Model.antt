-- The model and the process of a sample.
use Rattle.std.specs.Prelude.{ℕ, ◌-◌, true, false, codes, [], ◌∷◌, replicate}
use Rattle.std.proofs.Math.Nat.{zero-lt-suc}
use Rattle.om_ring.specs.Ops.{Ops}
use Rattle.om_ring.specs.declared.numeral.Numeral.{Numeral}
use Rattle.om_colour.specs.declared.Colour.TheVariants.{One}
use Rattle.om_lorentz.specs.declared.structures.Spin.TheVariants.{Scalar}
use Rattle.om_lorentz.specs.declared.structures.Structure.TheVariants.{Sss}
use Rattle.om_model.specs.Rules.{IsAccepted}
use Rattle.om_model.specs.declared.model.Model.{Model}
use Rattle.om_model.specs.declared.model.Particle.{Particle}
use Rattle.om_model.specs.declared.model.Vertex.{Vertex}
use Rattle.om_model.specs.declared.process.Leg.{Leg}
use Rattle.om_model.specs.declared.process.Process.{Process}

-- the numeral of a whole number
abbrev pub whole : ℕ → Numeral
whole n = record { neg = false; num = n; den = 1; imag = false; den_positive = zero-lt-suc 0 }

-- one scalar of mass 1, its own antiparticle
abbrev pub sample_particle : Particle
sample_particle = record { name = codes "phi"; anti = codes "phi"; spin = Scalar; mass = whole 1 ∷ []; width = whole 0 ∷ []; norm = whole 1 ∷ []; colour = One }

-- three of it meet
abbrev pub sample_vertex : Vertex
sample_vertex = record { structure = Sss; fields = 0 ∷ 0 ∷ 0 ∷ []; factors = (whole 1 ∷ []) ∷ []; order = 1 }

abbrev pub sample_model : Model
sample_model = record { name = codes "phi3m"; particles = sample_particle ∷ []; vertices = sample_vertex ∷ [] }

abbrev pub incoming_leg : Leg
incoming_leg = record { field = 0; outgoing = false }

abbrev pub outgoing_leg : Leg
outgoing_leg = record { field = 0; outgoing = true }

-- leg 1 comes in, and all others go out
abbrev pub sample_process : ℕ → Process
sample_process legs = record { legs = incoming_leg ∷ replicate (legs - 1) outgoing_leg; edges = [] }

-- the model breaks no rule, whatever the ring
abbrev pub SampleModelIsAccepted : {E : Type 0} → Ops E → Type 0
SampleModelIsAccepted o = IsAccepted o sample_model
