use Rattle.std.proofs.Common.{flat_map, sym}
use Rattle.std.proofs.lemmas.Result.{err_from_is_err_and}
use Rattle.om_emit.specs.EmittedAnswer.{with_sums}
use Rattle.om_io.specs.Writing.{outlet}
use Rattle.om_io.proofs.Outlets.{whole_written, broken_end, broken_before}
use Rattle.om_model.specs.Answer.Answer.{values}
use Rattle.om_top.specs.AnswerText.{answer_text, pair_line}
use Rattle.om_top.proofs.Values.{values_text}
use Rattle.om_top.proofs.answer_text.write_values.Goals as goal

pub returns-in_err-write_lines-clause-err : goal.returns-in_err-write_lines-clause-err
returns-in_err-write_lines-clause-err g c =
    let written = g.O.Sink.written in
    let faults = g.O.Sink.faults in
    let show = g.R.Ring.text c.args.ring.now in
    let m = c.args.machine.now in
    let rows = with_sums m.code.flows m.sums in
    let p = err_from_is_err_and c.from_residual.result c.from_residual.ensures.1 in
    rw p.1 (broken_before (outlet (written c.args.out.now) (faults c.args.out.now) c.new-line.result) (outlet (written c.write_lines.new.out) (faults c.write_lines.new.out) c.write_lines.new.line) (flat_map (pair_line show c.args.number) rows) (answer_text show m.code.model c.args.number (values rows)) (sym (values_text show m.code.model c.args.number rows)) c.new-line.ensures c.in_err-write_lines.ensures)

pub returns-clause-ok : goal.returns-clause-ok
returns-clause-ok g c =
    let written = g.O.Sink.written in
    let faults = g.O.Sink.faults in
    let show = g.R.Ring.text c.args.ring.now in
    let m = c.args.machine.now in
    let rows = with_sums m.code.flows m.sums in
    whole_written (outlet (written c.args.out.now) (faults c.args.out.now) c.new-line.result) (outlet (written c.write_lines.new.out) (faults c.write_lines.new.out) c.write_lines.new.line) (outlet (written c.flush.new.to) (faults c.flush.new.to) c.flush.new.line)
    (flat_map (pair_line show c.args.number) rows) (answer_text show m.code.model c.args.number (values rows)) c.flush.result (sym (values_text show m.code.model c.args.number rows)) c.new-line.ensures c.in_ok-write_lines.ensures c.flush.ensures.written c.flush.ensures.empty

pub returns-clause-err : goal.returns-clause-err
returns-clause-err g c =
    let written = g.O.Sink.written in
    let faults = g.O.Sink.faults in
    let show = g.R.Ring.text c.args.ring.now in
    let m = c.args.machine.now in
    let rows = with_sums m.code.flows m.sums in
    broken_end (outlet (written c.args.out.now) (faults c.args.out.now) c.new-line.result) (outlet (written c.write_lines.new.out) (faults c.write_lines.new.out) c.write_lines.new.line) (outlet (written c.flush.new.to) (faults c.flush.new.to) c.flush.new.line)
    (flat_map (pair_line show c.args.number) rows) (answer_text show m.code.model c.args.number (values rows)) c.flush.result (sym (values_text show m.code.model c.args.number rows)) c.new-line.ensures c.in_ok-write_lines.ensures c.flush.ensures.written
