use Rattle.om_code.proofs.PlacedRuns.{plans_keep_sums}
use Rattle.om_code.proofs.laws.plans_keep_sums.Goals as goal

pub returns : goal.returns
returns g c = plans_keep_sums
