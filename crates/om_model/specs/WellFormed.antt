-- Well-formed models: each row keeps the rules that no ring is needed for.
use Rattle.std.specs.Prelude.{◌≡◌, ℕ, ◌≤◌, length, take, Some, slice_get}
use Rattle.om_ring.specs.Ops.{Ops}
use Rattle.om_model.specs.declared.limits.TheConstants.{MOST_PARTICLES, MOST_VERTICES}
use Rattle.om_model.specs.declared.model.Particle.{Particle}
use Rattle.om_model.specs.declared.model.Vertex.{Vertex}
use Rattle.om_model.specs.declared.model.Model.{Model}
use Rattle.om_model.specs.Rules.{IsAccepted, IsFormedParticle, IsFormedVertex}

-- there are no more rows than there may be, and each of them keeps the rules on limits, names and patterns
pub record IsWellFormed (m : Model) : Type 0 where
  pub particles : length m.particles ≤ MOST_PARTICLES
  pub vertices : length m.vertices ≤ MOST_VERTICES
  pub formed_particles : (row : ℕ) (p : Particle) → slice_get m.particles row ≡ Some p → IsFormedParticle (take row m.particles) p
  pub formed_vertices : (row : ℕ) (v : Vertex) → slice_get m.vertices row ≡ Some v → IsFormedVertex m.particles v

-- a model that is accepted over a ring is well-formed
abbrev pub AcceptedAreWellFormed : {E : Type 0} → Ops E → Type 0
AcceptedAreWellFormed o = (m : Model) → IsAccepted o m → IsWellFormed m
