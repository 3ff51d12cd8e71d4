use Rattle.std.proofs.Common.{◌∙◌}
use Rattle.om_model.proofs.LegSetReading.{no_leg}
use Rattle.om_model.proofs.leg_set_text.leg_of_number.Goals as goal

pub returns-else-number-le-MOST_LEGS : goal.returns-else-number-le-MOST_LEGS
returns-else-number-le-MOST_LEGS c = c.empty.ensures ∙ no_leg c.args.number c.if-number-le-MOST_LEGS.false
