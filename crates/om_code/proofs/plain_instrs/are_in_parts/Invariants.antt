use Rattle.std.proofs.Common.{drop, ◌↔◌}
use Rattle.om_code.specs.Plain.{InParts}
use Rattle.om_code.proofs.plain_instrs.are_in_parts.Given as goal

-- whether all are in order is whether those that are left are
abbrev pub invariant-loop-instr : goal.invariant-loop-instr
invariant-loop-instr l = InParts 0 l.instrs ↔ InParts l.part (drop l.instr-index l.instrs)
