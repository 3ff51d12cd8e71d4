use Rattle.om_colour.proofs.Readings.{readings_name_each_slot}
use Rattle.om_colour.proofs.laws.readings_name_each_slot.Goals as goal

pub returns : goal.returns
returns c = readings_name_each_slot
