use Rattle.std.proofs.Common.{arith}
use Rattle.std.proofs.lemmas.Bool.Decides.{nat_tests}
use Rattle.om_graph.specs.Possible.{unsigned_key}
use Rattle.om_graph.proofs.KeyOrder.{by_branches, by_choice, by_made, by_vertex}
use Rattle.om_graph.proofs.key_order.is_before.Goals as goal

pub returns-then-a-b : goal.returns-then-a-b
returns-then-a-b c = λ t. by_made (unsigned_key c.args.a.now) (unsigned_key c.args.b.now) (grind (arith, nat_tests, t))

pub returns-then-a-b-2 : goal.returns-then-a-b-2
returns-then-a-b-2 c = λ t. by_vertex (unsigned_key c.args.a.now) (unsigned_key c.args.b.now) (grind (arith, nat_tests, c.if-a-b.false)) (grind (arith, nat_tests, t))

pub returns-then-a-b-3 : goal.returns-then-a-b-3
returns-then-a-b-3 c = λ t. by_choice (unsigned_key c.args.a.now) (unsigned_key c.args.b.now) (grind (arith, nat_tests, c.if-a-b.false)) (grind (arith, nat_tests, c.if-a-b-2.false)) (grind (arith, nat_tests, t))

pub returns : goal.returns
returns c = λ t. by_branches (unsigned_key c.args.a.now) (unsigned_key c.args.b.now) (grind (arith, nat_tests, c.if-a-b.false)) (grind (arith, nat_tests, c.if-a-b-2.false)) (grind (arith, nat_tests, c.if-a-b-3.false)) (c.are_nodes_before.ensures t)
