use Rattle.std.proofs.Common.{◌≡◌, arith, rules, ap, ◌∙◌, replicate}
use Rattle.std.proofs.lemmas.Grind.{common_steps}
use Rattle.om_code.specs.Ops.{lines_of_code}
use Rattle.om_legs.specs.BranchNodes.{mark_each}
use Rattle.om_emit.proofs.PlanningSteps.{last_uses_none, last_uses_more}
use Rattle.om_emit.proofs.slot_plan.last_uses.Goals as goal

pub loop-i-init : goal.loop-i-init
loop-i-init c =
    let e : c.in-Ok.last.items ≡ replicate c.args.registers 0 = grind (arith, common_steps, c.in-Ok.ensures.items_if_clones_equal) in
    record { last = last_uses_none c.args.registers (lines_of_code c.args.instrs.now) c.in-Ok.last.items e; length = search rules }

pub loop-i-preserved : goal.loop-i-preserved
loop-i-preserved c = record {
  last = last_uses_more c.args.registers c.args.instrs.now c.loop-i.i c.index-instrs-i.result c.loop-i.last.items c.mark_each.new.last.items (omega arith) c.index-instrs-i.is c.loop-i.invariant.last
      (c.mark_each.ensures.marked ∙ ap (mark_each c.loop-i.i c.loop-i.last.items) (c.as_slice.ensures.same ∙ c.operands.ensures));
  length = c.mark_each.ensures.length ∙ c.loop-i.invariant.length;
}
