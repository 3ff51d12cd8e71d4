use Rattle.om_model.proofs.WellFormedLines.{well_formed_have_lines}
use Rattle.om_model.proofs.laws.models.well_formed_have_lines.Goals as goal

pub returns : goal.returns
returns c = well_formed_have_lines
