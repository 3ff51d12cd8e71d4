use Rattle.std.proofs.Common.{◌≡◌, ◌++◌, map, drop}
use Rattle.om_code.specs.Ops.{op_of}
use Rattle.om_emit.specs.GraphCode.{fuse_op}
use Rattle.om_emit.specs.GraphWalk.{front, behind}
use Rattle.om_emit.proofs.registers.push_terms.Given as goal

abbrev pub invariant-loop-count : goal.invariant-loop-count
invariant-loop-count l = record {
  ops : map op_of l.instrs ++ map fuse_op (front l.number (drop l.count l.terms)) ≡ map op_of l.initial.instrs ++ map fuse_op (front l.number l.terms);
  rest : behind l.number (drop l.count l.terms) ≡ behind l.number l.terms;
}
