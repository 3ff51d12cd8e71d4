use Rattle.om_colour.proofs.Computing.{one_partial, one_flow}
use Rattle.om_colour.proofs.laws.flows_are_unique.Goals as goal

pub returns : goal.returns
returns c = record { partial = one_partial; whole = one_flow }
