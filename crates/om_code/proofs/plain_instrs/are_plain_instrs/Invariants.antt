use Rattle.std.proofs.Common.{drop, ◌↔◌}
use Rattle.std.specs.List.{AllByRecursion}
use Rattle.om_code.specs.Plain.{IsPlainInstr}
use Rattle.om_code.proofs.plain_instrs.are_plain_instrs.Given as goal

-- whether all are plain is whether those that are left are
abbrev pub invariant-loop-instr : goal.invariant-loop-instr
invariant-loop-instr l = AllByRecursion (IsPlainInstr l.version) l.instrs ↔ AllByRecursion (IsPlainInstr l.version) (drop l.instr-index l.instrs)
