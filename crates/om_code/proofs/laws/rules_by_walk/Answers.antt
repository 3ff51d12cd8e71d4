use Rattle.om_code.proofs.Walk.{rules-by-walk}
use Rattle.om_code.proofs.laws.rules_by_walk.Goals as goal

pub returns : goal.returns
returns c = rules-by-walk
