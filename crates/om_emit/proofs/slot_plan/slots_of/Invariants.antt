use Rattle.std.proofs.Common.{◌≡◌, map, take, vec_len}
use Rattle.om_code.specs.SlotPlans.{slot_or_0}
use Rattle.om_emit.proofs.slot_plan.slots_of.Given as goal

abbrev pub invariant-loop-slot : goal.invariant-loop-slot
invariant-loop-slot l = record {
  slots : l.slots.items ≡ map slot_or_0 (take l.slot-index l.given);
  length : vec_len l.slots ≡ l.slot-index;
}
