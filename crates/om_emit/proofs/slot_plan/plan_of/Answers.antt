use Rattle.std.proofs.Common.{◌≡◌, ℕ, map, length, vec_len, arith, rules, ap, ap₂, ◌∙◌, replicate, Option, None, List}
use Rattle.std.proofs.lemmas.Grind.{common_steps}
use Rattle.om_code.specs.Ops.{lines_of_code}
use Rattle.om_code.specs.SlotPlans.{slot_or_0}
use Rattle.om_emit.specs.Planning.{Planning, planning_of, no_slots, planned}
use Rattle.om_emit.proofs.PlanLoop.{operands_small, planned_more, planned_none}
use Rattle.om_emit.proofs.slot_plan.plan_of.Goals as goal

pub loop-i-init : goal.loop-i-init
loop-i-init c =
    let e : c.in-Ok.slots.items ≡ replicate (length c.args.last_uses.now) None = grind (arith, common_steps, c.in-Ok.ensures.items_if_clones_equal) in
    record {
      planned = planned_none c.args.last_uses.now (lines_of_code c.args.instrs.now) (no_slots (length c.args.last_uses.now)) (planning_of (record { slots = c.in-Ok.slots; free = c.new.result; count = 0 }))
          (ap₂ (λ (xs : List (Option ℕ)) (ys : List ℕ). let p : Planning = record { slots = xs; free = ys; count = 0 } in p) e c.new.ensures.empty);
      length = search rules;
    }

pub give_all-requires-clause-in_range : goal.give_all-requires-clause-in_range
give_all-requires-clause-in_range c = operands_small c.args.instrs.now (length c.args.last_uses.now) (vec_len c.loop-i.planner.slots) c.loop-i.i c.index-instrs-i.result c.as_slice-named.result.now c.requires.in_range c.loop-i.invariant.length (omega arith) c.index-instrs-i.is (c.as_slice-named.ensures.same ∙ c.operands-operands.ensures)

pub give_all-requires-clause-room : goal.give_all-requires-clause-room
give_all-requires-clause-room c =
    let few = c.requires.few in
    let small = c.requires.room c.loop-i.i (omega arith) in
    let same = ap (λ (p : Planning). p.count) c.loop-i.invariant.planned in
    omega (arith, few, small, same)

pub release_all-requires-clause-in_range : goal.release_all-requires-clause-in_range
release_all-requires-clause-in_range c = operands_small c.args.instrs.now (length c.args.last_uses.now) (vec_len c.give_all.new.self.slots) c.loop-i.i c.index-instrs-i.result c.as_slice-named.result.now c.requires.in_range (c.give_all.ensures.length ∙ c.loop-i.invariant.length) (omega arith) c.index-instrs-i.is (c.as_slice-named.ensures.same ∙ c.operands-operands.ensures)

pub loop-i-preserved : goal.loop-i-preserved
loop-i-preserved c = record {
  planned = planned_more c.args.instrs.now c.loop-i.i c.index-instrs-i.result c.args.last_uses.now c.as_slice-named.result.now (no_slots (length c.args.last_uses.now)) (planning_of c.loop-i.planner) (planning_of c.give_all.new.self) (planning_of c.release_all.new.self) (omega arith) c.index-instrs-i.is
      (c.as_slice-named.ensures.same ∙ c.operands-operands.ensures) c.loop-i.invariant.planned c.give_all.ensures.given c.in_ok-release_all.ensures.freed;
  length = c.release_all.ensures.length ∙ c.give_all.ensures.length ∙ c.loop-i.invariant.length;
}

ended : (last : List ℕ) (lines : List (List ℕ)) (none p : Planning) (i n : ℕ) → p ≡ planned last lines none i → i ≡ n → p ≡ planned last lines none n
ended last lines none p i n e l = e ∙ ap (planned last lines none) l

pub returns-clause-slots : goal.returns-clause-slots
returns-clause-slots c = c.in_ok-slots.ensures.slots ∙ ap (map slot_or_0) (c.as_slice.ensures.value ∙ ap (λ (p : Planning). p.slots) (ended c.args.last_uses.now (lines_of_code c.args.instrs.now) (no_slots (length c.args.last_uses.now)) (planning_of c.loop-i.planner) c.loop-i.i (length c.args.instrs.now) c.loop-i.invariant.planned (omega arith)))

pub returns-clause-count : goal.returns-clause-count
returns-clause-count c = ap (λ (p : Planning). p.count) (ended c.args.last_uses.now (lines_of_code c.args.instrs.now) (no_slots (length c.args.last_uses.now)) (planning_of c.loop-i.planner) c.loop-i.i (length c.args.instrs.now) c.loop-i.invariant.planned (omega arith))
