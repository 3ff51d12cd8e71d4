use Rattle.om_graph.proofs.ClosedRows.{none_numbered}
use Rattle.om_graph.proofs.closed_rows.ClosedRows.new.Goals as goal

pub invariant_of-result : goal.invariant_of-result
invariant_of-result c = none_numbered c.new-2.result c.new-3.result.items c.new-2.ensures c.new-3.ensures.items
