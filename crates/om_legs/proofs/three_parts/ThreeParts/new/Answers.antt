use Rattle.std.proofs.Common.{ap, ap₂, ◌∙◌}
use Rattle.om_legs.specs.Walks.{pairs, refined_left, triples}
use Rattle.om_legs.proofs.Pairs.{pairs-empty}
use Rattle.om_legs.proofs.three_parts.ThreeParts.new.Goals as goal

pub returns-clause-items : goal.returns-clause-items
unfolding triples
returns-clause-items c = ap₂ (refined_left pairs c.empty.result) (c.new.ensures.items ∙ ap pairs c.empty-2.ensures ∙ pairs-empty) c.new-2.ensures.items
