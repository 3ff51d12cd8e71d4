use Rattle.std.proofs.Common.{◌≡◌, drop, max}
use Rattle.om_code.specs.Plain.{registers_named}
use Rattle.om_code.proofs.plain_instrs.registers_named.Given as goal

-- the greatest of all is that of what was found and what is left
abbrev pub invariant-loop-instr : goal.invariant-loop-instr
invariant-loop-instr l = registers_named l.instrs ≡ max l.most (registers_named (drop l.instr-index l.instrs))
