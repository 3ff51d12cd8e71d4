use Rattle.om_colour.proofs.OverEdge.{same_lines_over_edge}
use Rattle.om_colour.proofs.laws.same_lines_over_edge.Goals as goal

pub returns : goal.returns
returns c = same_lines_over_edge
