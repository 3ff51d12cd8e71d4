use Rattle.std.proofs.Common.{take, flat_map}
use Rattle.om_emit.specs.EmittedAnswer.{with_sums}
use Rattle.om_io.specs.Writing.{Takes, outlet}
use Rattle.om_top.specs.AnswerText.{pair_line}
use Rattle.om_top.proofs.answer_text.write_lines.Given as goal

abbrev pub invariant-loop-k : goal.invariant-loop-k
invariant-loop-k g l =
    let written = g.O.Sink.written in
    let faults = g.O.Sink.faults in
    Takes (outlet (written l.fn.out) (faults l.fn.out) l.fn.line) (outlet (written l.out) (faults l.out) l.line) (flat_map (pair_line (g.R.Ring.text l.ring) l.number) (take l.k (with_sums l.machine.code.flows l.machine.sums)))
