use Rattle.std.proofs.Common.{refl}
use Rattle.om_graph.specs.Possible.{flow_lt}
use Rattle.om_graph.proofs.NodeRanges.{found_kept, found_place}
use Rattle.om_graph.proofs.Orders.{flow_order}
use Rattle.om_graph.proofs.closed_rows.add_near.Goals as goal

pub returns-then-is_at-clause-flows : goal.returns-then-is_at-clause-flows
returns-then-is_at-clause-flows c = found_kept flow_lt flow_order c.args.flows.now c.args.flows.now c.args.near c.args.flow refl (c.is_at.ensures c.if-is_at.true)

pub returns-then-is_at-clause-number : goal.returns-then-is_at-clause-number
returns-then-is_at-clause-number c =
    found_place flow_lt flow_order c.args.flows.now c.args.flows.now c.args.near c.args.flow _ refl (λ n. c.identical_keys.ensures.found n c.args.flow) ((c.identical_keys.ensures.found c.args.near c.args.flow).1 (c.is_at.ensures c.if-is_at.true))
