-- The reaction of a process over its model.
use Rattle.std.specs.Prelude.{◌≡◌, ℕ, ◌-◌, List, length, Bool, ◌&&◌, nat_le, Some, slice_get}
use Rattle.om_legs.specs.Legs.{set_of}
use Rattle.om_colour.specs.Table.{Row, choice_of}
use Rattle.om_colour.specs.declared.Choice.{Choice}
use Rattle.om_model.specs.ModelLines.{choice_in, is_dirac}
use Rattle.om_model.specs.declared.model.Model.{Model}
use Rattle.om_model.specs.declared.model.Vertex.{Vertex}
use Rattle.om_model.specs.declared.model.Particle.{Particle}
use Rattle.om_model.specs.declared.process.Leg.{Leg}
use Rattle.om_model.specs.declared.process.Process.{Process}
use Rattle.om_model.specs.Model.{scattering_of, colour_of_field, colours_of_vertex, spin_of_field, field_of_leg}
use Rattle.om_graph.specs.Vertices.{Reaction}

-- a Dirac particle enters through leg k
abbrev pub is_fermion_leg : List Particle → List Leg → ℕ → Bool
is_fermion_leg particles legs k = is_dirac (spin_of_field particles (field_of_leg (slice_get legs (k - 1))))

-- the legs through which a Dirac particle enters
abbrev pub fermions_of : Model → Process → ℕ
fermions_of m p = set_of (λ k. nat_le k (length p.legs) && is_fermion_leg m.particles p.legs k)

abbrev pub reaction_of : Model → Process → Reaction
reaction_of m p = record {
  scattering = scattering_of m p;
  colour = colour_of_field m.particles;
  choice = λ v c. choice_in (colours_of_vertex m.particles (slice_get m.vertices v)) c;
  fermions = fermions_of m p;
  edges = p.edges;
}

abbrev pub reaction_in : Model × Process → Reaction
reaction_in x = reaction_of x.0 x.1

-- the rows of the colour table that the vertices have
abbrev pub HasRows : Model → List Row → Type 0
HasRows m rows = (length rows ≡ length m.vertices) × ((k : ℕ) (v : Vertex) (row : Row) → slice_get m.vertices k ≡ Some v → slice_get rows k ≡ Some row → colours_of_vertex m.particles (Some v) ≡ Some row)

-- these are choices of a row, from 0 on
abbrev pub AreChoices : Row → List Choice → Type 0
AreChoices row choices = (k : ℕ) (choice : Choice) → slice_get choices k ≡ Some choice → choice ≡ choice_of row k
