use Rattle.om_colour.proofs.Fitting.{partials_fit}
use Rattle.om_colour.proofs.laws.partials_fit.Goals as goal

pub returns : goal.returns
returns c = partials_fit
