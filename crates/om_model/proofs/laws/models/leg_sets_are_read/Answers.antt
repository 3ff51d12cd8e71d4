use Rattle.om_model.proofs.LegSetLaws.{leg_sets_are_read}
use Rattle.om_model.proofs.laws.models.leg_sets_are_read.Goals as goal

pub returns : goal.returns
returns c = leg_sets_are_read
