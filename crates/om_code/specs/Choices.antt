-- How many colour choices the vertices of a code have.
use Rattle.std.specs.Prelude.{ℕ, List, map}
use Rattle.om_model.specs.declared.model.Particle.{Particle}
use Rattle.om_model.specs.declared.model.Vertex.{Vertex}
use Rattle.om_model.specs.Model.{choices_in, colour_row}
use Rattle.om_code.specs.declared.code.Code.{Code}

-- how many a vertex row has, none where its colours are in no row of the colour table
abbrev pub choices_of_row : List Particle → Vertex → ℕ
choices_of_row particles v = choices_in (colour_row particles v.fields)

-- how many each vertex row has, in order
abbrev pub choice_counts : Code → List ℕ
choice_counts c = map (choices_of_row c.model.particles) c.model.vertices
