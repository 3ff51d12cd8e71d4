use Rattle.std.proofs.Common.{drop}
use Rattle.std.proofs.lemmas.Result.{err_from_is_err_and}
use Rattle.om_program_text.specs.Parts.{front_parts}
use Rattle.om_io.proofs.Outlets.{steps_break, steps_last}
use Rattle.om_io.proofs.Outlets.Steps.{none, more}
use Rattle.om_program_text.proofs.writer.write_lines.Goals as goal

pub returns-in_err-write_head : goal.returns-in_err-write_head
returns-in_err-write_head g c =
    let p = err_from_is_err_and c.from_residual.result c.from_residual.ensures.1 in
    rw p.1 (steps_break (drop 1 (front_parts c.args.code.now)) none c.in_err-write_head.ensures)

pub returns-in_err-write_model : goal.returns-in_err-write_model
returns-in_err-write_model g c =
    let p = err_from_is_err_and c.from_residual-in_err-write_model.result c.from_residual-in_err-write_model.ensures.1 in
    rw p.1 (steps_break (drop 2 (front_parts c.args.code.now)) (more c.in_ok-write_head.ensures none) c.in_err-write_model.ensures)

pub returns-in_err-write_process : goal.returns-in_err-write_process
returns-in_err-write_process g c =
    let p = err_from_is_err_and c.from_residual-in_err-write_process.result c.from_residual-in_err-write_process.ensures.1 in
    rw p.1 (steps_break (drop 3 (front_parts c.args.code.now)) (more c.in_ok-write_head.ensures (more c.in_ok-write_model.ensures none)) c.in_err-write_process.ensures)

pub returns : goal.returns
returns g c = steps_last _ _ c.write_slots.result (more c.in_ok-write_head.ensures (more c.in_ok-write_model.ensures (more c.in_ok-write_process.ensures none))) c.write_slots.ensures
