use Rattle.std.proofs.Common.{[], ◌++◌, ap, ◌∙◌, append-nil}
use Rattle.std.proofs.lemmas.Result.{err_from_is_err_and}
use Rattle.om_io.specs.Writing.{outlet, all_of}
use Rattle.om_program_text.specs.Parts.{front_parts, instr_parts}
use Rattle.om_program_text.specs.ProgramText.{program_text}
use Rattle.om_io.proofs.Outlets.{breaks_more, breaks_next, broken_before, broken_end, takes_both, whole_written}
use Rattle.om_program_text.proofs.Emptied.{emptied}
use Rattle.om_program_text.proofs.Texts.{program_of_parts}
use Rattle.om_program_text.proofs.writer.write_code.Goals as goal

pub returns-in_err-write_lines-clause-err : goal.returns-in_err-write_lines-clause-err
returns-in_err-write_lines-clause-err g c =
    let written = g.W.Sink.written in
    let faults = g.W.Sink.faults in
    let code = c.args.code.now in
    let x = all_of (front_parts code) in
    let y = all_of (instr_parts code.version code.instrs) in
    let a = outlet (written c.args.to.now) (faults c.args.to.now) c.new-line.result in
    let b = outlet (written c.write_lines.new.to) (faults c.write_lines.new.to) c.write_lines.new.line in
    let p = err_from_is_err_and c.from_residual.result c.from_residual.ensures.1 in
    rw p.1 (broken_before a b (x ++ y) (program_text code) (program_of_parts code) c.new-line.ensures (breaks_more a b x y c.in_err-write_lines.ensures))

pub returns-in_err-flush-clause-err : goal.returns-in_err-flush-clause-err
returns-in_err-flush-clause-err g c =
    let written = g.W.Sink.written in
    let faults = g.W.Sink.faults in
    let code = c.args.code.now in
    let x = all_of (front_parts code) in
    let y = all_of (instr_parts code.version code.instrs) in
    let a = outlet (written c.args.to.now) (faults c.args.to.now) c.new-line.result in
    let b = outlet (written c.write_lines.new.to) (faults c.write_lines.new.to) c.write_lines.new.line in
    let d = outlet (written c.flush.new.to) (faults c.flush.new.to) c.flush.new.line in
    let p = err_from_is_err_and c.from_residual-in_err-flush.result c.from_residual-in_err-flush.ensures.1 in
    let broken = breaks_more a d (x ++ []) y (breaks_next a b d x [] c.in_ok-write_lines.ensures c.in_err-flush.ensures.written) in
    rw p.1 (broken_before a d ((x ++ []) ++ y) (program_text code) (ap (λ t. t ++ y) (append-nil x) ∙ program_of_parts code) c.new-line.ensures broken)

pub returns-in_err-write_instrs-clause-err : goal.returns-in_err-write_instrs-clause-err
returns-in_err-write_instrs-clause-err g c =
    let written = g.W.Sink.written in
    let faults = g.W.Sink.faults in
    let code = c.args.code.now in
    let x = all_of (front_parts code) in
    let y = all_of (instr_parts code.version c.as_slice.result.now) in
    let same = ap (λ is. x ++ all_of (instr_parts code.version is)) c.as_slice.ensures ∙ program_of_parts code in
    let a = outlet (written c.args.to.now) (faults c.args.to.now) c.new-line.result in
    let b = outlet (written c.write_lines.new.to) (faults c.write_lines.new.to) c.write_lines.new.line in
    let d = outlet (written c.flush.new.to) (faults c.flush.new.to) c.new-block.result in
    let e = outlet (written c.write_instrs.new.to) (faults c.write_instrs.new.to) c.write_instrs.new.block in
    let first = emptied a b (written c.flush.new.to) (faults c.flush.new.to) c.flush.new.line c.new-block.result x c.in_ok-write_lines.ensures c.in_ok-flush.ensures.written c.in_ok-flush.ensures.empty c.new-block.ensures in
    let p = err_from_is_err_and c.from_residual-in_err-write_instrs.result c.from_residual-in_err-write_instrs.ensures.1 in
    rw p.1 (broken_before a e (x ++ y) (program_text code) same c.new-line.ensures (breaks_next a d e x y first c.in_err-write_instrs.ensures))

pub returns-clause-ok : goal.returns-clause-ok
returns-clause-ok g c =
    let written = g.W.Sink.written in
    let faults = g.W.Sink.faults in
    let code = c.args.code.now in
    let x = all_of (front_parts code) in
    let y = all_of (instr_parts code.version c.as_slice.result.now) in
    let same = ap (λ is. x ++ all_of (instr_parts code.version is)) c.as_slice.ensures ∙ program_of_parts code in
    let a = outlet (written c.args.to.now) (faults c.args.to.now) c.new-line.result in
    let b = outlet (written c.write_lines.new.to) (faults c.write_lines.new.to) c.write_lines.new.line in
    let d = outlet (written c.flush.new.to) (faults c.flush.new.to) c.new-block.result in
    let e = outlet (written c.write_instrs.new.to) (faults c.write_instrs.new.to) c.write_instrs.new.block in
    let last = outlet (written c.send_block.new.to) (faults c.send_block.new.to) c.send_block.new.block in
    let first = emptied a b (written c.flush.new.to) (faults c.flush.new.to) c.flush.new.line c.new-block.result x c.in_ok-write_lines.ensures c.in_ok-flush.ensures.written c.in_ok-flush.ensures.empty c.new-block.ensures in
    whole_written a e last (x ++ y) (program_text code) c.send_block.result same c.new-line.ensures (takes_both a d e x y first c.in_ok-write_instrs.ensures) c.send_block.ensures.written c.send_block.ensures.empty

pub returns-clause-err : goal.returns-clause-err
returns-clause-err g c =
    let written = g.W.Sink.written in
    let faults = g.W.Sink.faults in
    let code = c.args.code.now in
    let x = all_of (front_parts code) in
    let y = all_of (instr_parts code.version c.as_slice.result.now) in
    let same = ap (λ is. x ++ all_of (instr_parts code.version is)) c.as_slice.ensures ∙ program_of_parts code in
    let a = outlet (written c.args.to.now) (faults c.args.to.now) c.new-line.result in
    let b = outlet (written c.write_lines.new.to) (faults c.write_lines.new.to) c.write_lines.new.line in
    let d = outlet (written c.flush.new.to) (faults c.flush.new.to) c.new-block.result in
    let e = outlet (written c.write_instrs.new.to) (faults c.write_instrs.new.to) c.write_instrs.new.block in
    let last = outlet (written c.send_block.new.to) (faults c.send_block.new.to) c.send_block.new.block in
    let first = emptied a b (written c.flush.new.to) (faults c.flush.new.to) c.flush.new.line c.new-block.result x c.in_ok-write_lines.ensures c.in_ok-flush.ensures.written c.in_ok-flush.ensures.empty c.new-block.ensures in
    broken_end a e last (x ++ y) (program_text code) c.send_block.result same c.new-line.ensures (takes_both a d e x y first c.in_ok-write_instrs.ensures) c.send_block.ensures.written
