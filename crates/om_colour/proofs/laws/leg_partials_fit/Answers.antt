use Rattle.om_colour.proofs.LegPartials.{leg_partial-behind, nothing_behind}
use Rattle.om_colour.proofs.laws.leg_partials_fit.Goals as goal

pub returns : goal.returns
returns c = record { leg = leg_partial-behind; none = nothing_behind }
