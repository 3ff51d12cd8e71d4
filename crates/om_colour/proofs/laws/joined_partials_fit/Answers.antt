use Rattle.om_colour.proofs.Fitting.{joined_partial_fits}
use Rattle.om_colour.proofs.laws.joined_partials_fit.Goals as goal

pub returns : goal.returns
returns c = joined_partial_fits
