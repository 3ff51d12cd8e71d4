use Rattle.std.proofs.Common.{◌≡◌, ◌++◌, length, map, take, drop}
use Rattle.std.specs.List.{AllByRecursion}
use Rattle.om_code.specs.Ops.{op_of, placed_op}
use Rattle.om_emit.specs.Counts.{CountsNodes}
use Rattle.om_emit.specs.Planning.{slot_in_plan}
use Rattle.om_emit.proofs.placed.place_all.Given as goal

abbrev pub invariant-loop-k : goal.invariant-loop-k
invariant-loop-k l = record {
  ops : map op_of l.instrs ≡ map (placed_op (slot_in_plan l.plan)) (take l.k (map op_of l.initial.instrs)) ++ drop l.k (map op_of l.initial.instrs);
  counted : AllByRecursion CountsNodes (take l.k l.instrs);
  length : length l.instrs ≡ length l.initial.instrs;
}
