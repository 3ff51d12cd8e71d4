use Rattle.om_colour.proofs.Computing.{follows_lines}
use Rattle.om_colour.proofs.laws.follow_computes_lines.Goals as goal

pub returns : goal.returns
returns c = follows_lines
