use Rattle.std.proofs.Common.{◌∙◌, ap, sym, is_lt}
use Rattle.om_graph.proofs.FoundOrder.{lists_agree, no_less}
use Rattle.om_graph.proofs.key_order.are_before.Goals as goal

pub returns-in-Less : goal.returns-in-Less
returns-in-Less c = ap is_lt (sym c.in-Less.is ∙ c.cmp.ensures) ∙ lists_agree c.args.a.now c.args.b.now

pub returns-in_default : goal.returns-in_default
returns-in_default c = sym (no_less c.cmp.result c.in_default.not-Less) ∙ ap is_lt c.cmp.ensures ∙ lists_agree c.args.a.now c.args.b.now
