-- The orders in which vertices read their slots.
use Rattle.std.specs.Prelude.{◌≡◌, ℕ, ◌<◌, Some, slice_get}
use Rattle.om_lorentz.specs.Structures.{IsReading}
use Rattle.om_model.specs.declared.model.Vertex.{Vertex}
use Rattle.om_model.specs.declared.model.Model.{Model}
use Rattle.om_model.specs.Entries.{reading_in}
use Rattle.om_model.specs.Model.{choices_in, colour_row}
use Rattle.om_model.specs.WellFormed.{IsWellFormed}

-- a vertex of a well-formed model reads each of its slots once, by each of its colour choices
abbrev pub VerticesHaveReadings : Type 0
VerticesHaveReadings =
    (m : Model) → IsWellFormed m → (row : ℕ) (v : Vertex) → slice_get m.vertices row ≡ Some v → (choice : ℕ) → choice < choices_in (colour_row m.particles v.fields)
    → IsReading v.structure (reading_in (colour_row m.particles v.fields) choice)
