use Rattle.om_colour.proofs.Following.{same_lines_over_vertex}
use Rattle.om_colour.proofs.laws.same_lines_over_vertex.Goals as goal

pub returns : goal.returns
returns c = same_lines_over_vertex
