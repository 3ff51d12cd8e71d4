use Rattle.std.proofs.Common.{arith}
use Rattle.om_graph.proofs.KeyOrder.{keys_rise}
use Rattle.om_graph.proofs.key_order.are_rising.Goals as goal

pub returns : goal.returns
returns c = λ t. keys_rise c.args.keys.now (λ k d l. c.loop-k.invariant k d (omega (arith, l, c.loop-k-test.false)) l)
