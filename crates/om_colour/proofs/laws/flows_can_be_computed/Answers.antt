use Rattle.om_colour.proofs.Computing.{computes_partial, computes_flow}
use Rattle.om_colour.proofs.laws.flows_can_be_computed.Goals as goal

pub returns : goal.returns
returns c = record { partial = computes_partial; whole = computes_flow }
