use Rattle.std.proofs.Common.{arith}
use Rattle.om_code.specs.Ops.{placed_op}
use Rattle.om_emit.specs.Counts.{CountsNodes}
use Rattle.om_emit.specs.GraphCode.{key_op}
use Rattle.om_emit.specs.Planning.{slot_in_plan}
use Rattle.om_emit.proofs.Placing.{pushed_ops, holds_pushed}
use Rattle.om_emit.proofs.placed.push_keys.Goals as goal

pub loop-key-preserved : goal.loop-key-preserved
loop-key-preserved c = record {
  ops = pushed_ops (λ key. placed_op (slot_in_plan c.args.plan.now) (key_op key)) c.args.keys.now c.args.instrs.now c.loop-key.instrs c.push.new.self c.loop-key.key-index c.key-item.result c.placed_key.result (omega arith) c.key-item.is c.placed_key.ensures.op c.in_ok-push.ensures.ok c.loop-key.invariant.ops;
  counted = holds_pushed CountsNodes c.loop-key.instrs c.push.new.self c.placed_key.result c.loop-key.invariant.counted c.placed_key.ensures.counted c.in_ok-push.ensures.ok;
}
