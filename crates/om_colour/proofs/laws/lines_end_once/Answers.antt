use Rattle.om_colour.proofs.Ending.{one_end, one_end_at}
use Rattle.om_colour.proofs.laws.lines_end_once.Goals as goal

pub returns : goal.returns
returns c = record { edge = one_end; vertex = one_end_at }
