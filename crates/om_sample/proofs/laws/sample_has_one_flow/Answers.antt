use Rattle.om_sample.proofs.OneFlow.{one_flow}
use Rattle.om_sample.proofs.laws.sample_has_one_flow.Goals as goal

pub returns : goal.returns
returns c = one_flow
