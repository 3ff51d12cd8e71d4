use Rattle.std.proofs.Common.{◌≡◌, take}
use Rattle.om_code.specs.Plain.{registers_named}
use Rattle.om_asm.proofs.slots.registers_named.Given as goal

abbrev pub invariant-loop-instr : goal.invariant-loop-instr
invariant-loop-instr l = l.most ≡ registers_named (take l.instr-index l.instrs)
