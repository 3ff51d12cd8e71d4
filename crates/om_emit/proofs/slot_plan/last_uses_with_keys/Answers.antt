use Rattle.std.proofs.Common.{◌+◌, ◌∙◌, length, arith}
use Rattle.om_emit.proofs.PlansMade.{keys_none, keys_more}
use Rattle.om_emit.proofs.slot_plan.last_uses_with_keys.Goals as goal

pub loop-i-init : goal.loop-i-init
loop-i-init c = record {
  last = keys_none c.args.registers c.args.instrs.now c.args.keys.now c.in_ok-last.last.items c.in_ok-last.ensures.last;
  length = c.in_ok-last.ensures.length;
}

pub loop-i-preserved : goal.loop-i-preserved
loop-i-preserved c = record {
  last = keys_more c.args.registers c.args.instrs.now c.args.keys.now c.loop-i.i (length c.args.instrs.now + c.loop-i.i) c.index-keys-i.result c.loop-i.last.items c.mark_branches.new.last.items (omega arith) c.index-keys-i.is (omega arith) c.loop-i.invariant.last c.mark_branches.ensures.marked;
  length = c.mark_branches.ensures.length ∙ c.loop-i.invariant.length;
}
