use Rattle.om_colour.proofs.Ending.{each_ends}
use Rattle.om_colour.proofs.laws.each_line_ends.Goals as goal

pub returns : goal.returns
returns c = each_ends
