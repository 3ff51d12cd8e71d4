use Rattle.std.proofs.Common.{◌∙◌, arith}
use Rattle.om_emit.proofs.PlanLoop.{all_small}
use Rattle.om_emit.proofs.PlansMade.{all_within, keys_within, key_room, key_plan_done, key_count_done}
use Rattle.om_emit.proofs.slot_plan.plan_with_keys.Goals as goal

pub last_uses_with_keys-requires : goal.last_uses_with_keys-requires
last_uses_with_keys-requires c = record {
  in_range = all_small c.args.instrs.now c.args.registers c.requires.in_range;
  keys_in_range = keys_within c.args.instrs.now c.args.registers c.requires.in_range c.args.keys.now c.requires.known;
}

pub plan_of-requires-clause-few : goal.plan_of-requires-clause-few
plan_of-requires-clause-few c = let few = c.requires.few in let same = c.deref.ensures.len ∙ c.in_ok-last_uses.ensures.length in omega (arith, few, same)

pub plan_of-requires-clause-in_range : goal.plan_of-requires-clause-in_range
plan_of-requires-clause-in_range c = all_within c.args.instrs.now c.args.registers c.deref.result.now c.requires.in_range (c.deref.ensures.len ∙ c.in_ok-last_uses.ensures.length)

pub plan_of-requires-clause-room : goal.plan_of-requires-clause-room
plan_of-requires-clause-room c = key_room c.args.instrs.now c.args.registers c.requires.in_range c.args.keys.now c.requires.known c.deref.result.now (c.deref.ensures.len ∙ c.in_ok-last_uses.ensures.length) (c.deref.ensures.value ∙ c.in_ok-last_uses.ensures.last)

pub returns-clause-plan : goal.returns-clause-plan
returns-clause-plan c r h = key_plan_done c.args.instrs.now c.args.registers c.requires.in_range c.args.keys.now c.requires.known c.deref.result.now (c.deref.ensures.len ∙ c.in_ok-last_uses.ensures.length) (c.deref.ensures.value ∙ c.in_ok-last_uses.ensures.last) c.in_ok-plan.plan.slots.items r c.in_ok-plan.ensures.slots h

pub returns-clause-count : goal.returns-clause-count
returns-clause-count c = key_count_done c.args.instrs.now c.args.registers c.requires.in_range c.args.keys.now c.requires.known c.deref.result.now (c.deref.ensures.len ∙ c.in_ok-last_uses.ensures.length) (c.deref.ensures.value ∙ c.in_ok-last_uses.ensures.last) c.in_ok-plan.plan.count c.in_ok-plan.ensures.count
