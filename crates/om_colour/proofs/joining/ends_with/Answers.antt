use Rattle.om_colour.proofs.JoinedEnds.{each_leg-same}
use Rattle.om_colour.proofs.joining.ends_with.Goals as goal

pub returns-in-None : goal.returns-in-None
returns-in-None c = rw c.in-None.is (each_leg-same c.args.others.now c.told-others)
