use Rattle.std.proofs.Common.{◌<◌, length, arith, ap, ◌∙◌}
use Rattle.std.proofs.lemmas.List.{length-set}
use Rattle.om_code.specs.Ops.{placed_op}
use Rattle.om_emit.specs.Counts.{CountsNodes}
use Rattle.om_emit.specs.Planning.{slot_in_plan}
use Rattle.om_emit.proofs.Placing.{ops_more, holds_more}
use Rattle.om_emit.proofs.placed.place_all.Goals as goal

pub loop-k-preserved : goal.loop-k-preserved
loop-k-preserved c =
    let within : c.loop-k.k < length c.args.instrs.now = omega (arith, c.loop-k-test.true, c.len-k-end.ensures) in
    let inside : c.loop-k.k < length c.loop-k.instrs = omega (arith, within, c.loop-k.invariant.length) in
    record {
      ops = ops_more (placed_op (slot_in_plan c.args.plan.now)) c.args.instrs.now c.loop-k.instrs c.set.new.self c.loop-k.k c.at.result.now c.placed-instr.result within c.loop-k.invariant.ops c.at.ensures c.placed-instr.ensures.op c.set.ensures;
      counted = holds_more CountsNodes c.loop-k.instrs c.set.new.self c.loop-k.k c.placed-instr.result inside c.loop-k.invariant.counted c.placed-instr.ensures.counted c.set.ensures;
      length = ap length c.set.ensures ∙ length-set c.loop-k.instrs c.loop-k.k c.placed-instr.result ∙ c.loop-k.invariant.length;
    }
