use Rattle.std.proofs.Common.{ap₂, ◌∙◌}
use Rattle.om_graph.specs.Fillings.{filled, filled_at}
use Rattle.om_graph.proofs.fillings.filled_at.Goals as goal

pub returns : goal.returns
unfolding filled_at
returns c = c.fill.ensures.parts ∙ ap₂ filled c.slots.ensures c.entering-parts.ensures
