use Rattle.om_model.proofs.WorkedDiagrams.{worked_diagrams}
use Rattle.om_model.proofs.laws.worked_diagrams.Goals as goal

pub returns : goal.returns
returns c = worked_diagrams
