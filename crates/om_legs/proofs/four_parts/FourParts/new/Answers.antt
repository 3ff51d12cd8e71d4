use Rattle.std.proofs.Common.{ap, ap₂, ◌∙◌}
use Rattle.om_legs.specs.Walks.{triples, refined_left, quadruples}
use Rattle.om_legs.proofs.Pairs.{triples-empty}
use Rattle.om_legs.proofs.four_parts.FourParts.new.Goals as goal

pub returns-clause-items : goal.returns-clause-items
unfolding quadruples
returns-clause-items c = ap₂ (refined_left triples c.empty.result) (c.new.ensures.items ∙ ap triples c.empty-2.ensures ∙ triples-empty) c.new-2.ensures.items
