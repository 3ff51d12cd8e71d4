use Rattle.std.proofs.Common.{◌≡◌, ◌++◌, map, take}
use Rattle.std.specs.List.{AllByRecursion}
use Rattle.om_code.specs.Ops.{op_of, placed_op}
use Rattle.om_emit.specs.Counts.{CountsNodes}
use Rattle.om_emit.specs.GraphCode.{key_op}
use Rattle.om_emit.specs.Planning.{slot_in_plan}
use Rattle.om_emit.proofs.placed.push_keys.Given as goal

abbrev pub invariant-loop-key : goal.invariant-loop-key
invariant-loop-key l = record {
  ops : map op_of l.instrs ≡ map op_of l.initial.instrs ++ map (λ key. placed_op (slot_in_plan l.plan) (key_op key)) (take l.key-index l.keys);
  counted : AllByRecursion CountsNodes l.instrs;
}
