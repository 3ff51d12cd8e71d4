use Rattle.std.proofs.Common.{rules}
use Rattle.om_graph.proofs.VertexColours.{one_choice_more}
use Rattle.om_graph.proofs.known_row.KnownRow.new.Goals as goal

pub loop-k-preserved : goal.loop-k-preserved
loop-k-preserved c = (
  search rules,
  one_choice_more c.args.row c.loop-k.choices.items c.push.new.self.items c.loop-k.k c.choice.result c.loop-k.invariant.1 c.loop-k.invariant.0 c.choice.ensures (search rules),
)
