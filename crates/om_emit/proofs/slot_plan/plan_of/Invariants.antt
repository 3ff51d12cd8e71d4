use Rattle.std.proofs.Common.{◌≡◌, length, vec_len}
use Rattle.om_code.specs.Ops.{lines_of_code}
use Rattle.om_emit.specs.Planning.{planning_of, no_slots, planned}
use Rattle.om_emit.proofs.slot_plan.plan_of.Given as goal

abbrev pub invariant-loop-i : goal.invariant-loop-i
invariant-loop-i l = record {
  planned : planning_of l.planner ≡ planned l.last_uses (lines_of_code l.instrs) (no_slots (length l.last_uses)) l.i;
  length : vec_len l.planner.slots ≡ length l.last_uses;
}
