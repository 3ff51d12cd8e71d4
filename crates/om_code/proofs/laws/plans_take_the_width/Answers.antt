use Rattle.om_code.proofs.SpanFacts.{width_needed}
use Rattle.om_code.proofs.laws.plans_take_the_width.Goals as goal

pub returns : goal.returns
returns c = width_needed
