use Rattle.om_model.proofs.AcceptedModels.{accepted_are_well_formed}
use Rattle.om_model.proofs.laws.models.accepted_are_well_formed.Goals as goal

pub returns : goal.returns
returns g c = accepted_are_well_formed (g.R.Ring.ops c.args.ring.now)
