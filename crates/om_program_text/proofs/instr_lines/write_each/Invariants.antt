use Rattle.std.proofs.Common.{take, flat_map}
use Rattle.om_io.specs.Lines.{line_text}
use Rattle.om_io.specs.Writing.{Takes, outlet}
use Rattle.om_program_text.specs.ProgramText.{instr_words}
use Rattle.om_program_text.proofs.instr_lines.write_each.Given as goal

abbrev pub invariant-loop-instr : goal.invariant-loop-instr
invariant-loop-instr g l =
    let written = g.W.Sink.written in
    let faults = g.W.Sink.faults in
    Takes (outlet (written l.fn.to) (faults l.fn.to) l.fn.block) (outlet (written l.to) (faults l.to) l.block) (flat_map (λ i. line_text (instr_words l.version i)) (take l.instr-index l.instrs))
