use Rattle.std.proofs.Common.{◌≡◌, ◌+◌, ◌++◌, length, vec_len}
use Rattle.om_code.specs.Ops.{lines_of_code}
use Rattle.om_emit.specs.GraphCode.{key_lines}
use Rattle.om_emit.specs.Planning.{last_uses}
use Rattle.om_emit.proofs.slot_plan.last_uses_with_keys.Given as goal

abbrev pub invariant-loop-i : goal.invariant-loop-i
invariant-loop-i l = record {
  last : l.last.items ≡ last_uses l.registers (lines_of_code l.instrs ++ key_lines l.keys) (length l.instrs + l.i);
  length : vec_len l.last ≡ l.registers;
}
