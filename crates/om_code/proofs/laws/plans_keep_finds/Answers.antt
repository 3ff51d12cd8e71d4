use Rattle.om_code.proofs.PlacedFinds.{plans_keep_finds}
use Rattle.om_code.proofs.laws.plans_keep_finds.Goals as goal

pub returns : goal.returns
returns g c = plans_keep_finds
