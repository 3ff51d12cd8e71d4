-- Numbers that lie within their types.
use Rattle.std.specs.Prelude.{◌≡◌, ◌<◌, length, true}
use Rattle.std.specs.List.{AllByRecursion}
use Rattle.om_ring.specs.Numerals.{NumeralFits}
use Rattle.om_legs.specs.Legs.{IsLegSet}
use Rattle.om_model.specs.Name.{is_name}
use Rattle.om_model.specs.declared.model.Particle.{Particle}
use Rattle.om_model.specs.declared.model.Vertex.{Vertex}
use Rattle.om_code.specs.declared.code.Code.{Code}
use Rattle.om_code.specs.declared.code.Instr.{Instr}
use Rattle.om_code.specs.declared.code.Instr.TheVariants.{Load, Fuse, Prop, Key}

-- what holds of each instruction by its type, and a text relies on
abbrev pub InstrInRange : Instr → Type 0
InstrInRange (Load slot leg) = leg < 256
InstrInRange (Fuse slot minus vertex choice branches) = (choice < 256) × (length branches.nodes ≡ 4)
InstrInRange (Prop slot den) = Unit {0}
InstrInRange (Key flow minus vertex choice branches) = (choice < 256) × (length branches.nodes ≡ 4)

-- names that are names, and numerals that fit
pub record ParticleInRange (p : Particle) : Type 0 where
  pub name : is_name p.name ≡ true
  pub anti : is_name p.anti ≡ true
  pub mass : AllByRecursion NumeralFits p.mass
  pub width : AllByRecursion NumeralFits p.width
  pub norm : AllByRecursion NumeralFits p.norm

-- an order and numerals that fit
pub record VertexInRange (v : Vertex) : Type 0 where
  pub order : v.order < 256
  pub factors : AllByRecursion (λ p. AllByRecursion NumeralFits p) v.factors

-- what holds of each code by its types, and its text relies on
pub record CodeInRange (c : Code) : Type 0 where
  pub name : is_name c.model.name ≡ true
  pub particles : AllByRecursion ParticleInRange c.model.particles
  pub vertices : AllByRecursion VertexInRange c.model.vertices
  pub flows : AllByRecursion (λ w. length w.ends ≡ 12) c.flows
  pub dens : AllByRecursion (λ d. IsLegSet d.legs) c.dens
  pub instrs : AllByRecursion InstrInRange c.instrs
