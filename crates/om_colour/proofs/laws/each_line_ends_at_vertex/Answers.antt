use Rattle.om_colour.proofs.Colours.{each_ends_at}
use Rattle.om_colour.proofs.laws.each_line_ends_at_vertex.Goals as goal

pub returns : goal.returns
returns c = each_ends_at
