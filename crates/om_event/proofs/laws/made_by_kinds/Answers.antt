use Rattle.om_event.proofs.KindsOfCode.{made_by_kinds}
use Rattle.om_event.proofs.laws.made_by_kinds.Goals as goal

pub returns : goal.returns
returns g c = made_by_kinds
