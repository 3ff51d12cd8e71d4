use Rattle.std.proofs.Common.{sym}
use Rattle.om_asm.proofs.Registers.{registers_none, registers_more}
use Rattle.om_asm.proofs.slots.registers_named.Goals as goal

pub loop-instr-init : goal.loop-instr-init
loop-instr-init c = sym registers_none

pub loop-instr-preserved : goal.loop-instr-preserved
loop-instr-preserved c = registers_more c.args.instrs.now c.loop-instr.instr-index c.instr-item.result c.instr-item.result c.loop-instr.most c.slots_for.result c.greater-most.result c.loop-instr-test.true c.instr-item.is c.loop-instr.invariant c.slots_for.ensures c.greater-most.ensures
