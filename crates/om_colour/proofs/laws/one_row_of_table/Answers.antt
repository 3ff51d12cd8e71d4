use Rattle.om_colour.proofs.ChoiceTests.{one_row_fits}
use Rattle.om_colour.proofs.laws.one_row_of_table.Goals as goal

pub returns : goal.returns
returns c = one_row_fits
