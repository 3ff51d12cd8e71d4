use Rattle.std.proofs.Common.{drop}
use Rattle.std.proofs.lemmas.Result.{err_from_is_err_and}
use Rattle.om_program_text.specs.Parts.{process_parts}
use Rattle.om_io.proofs.Outlets.{steps_break, steps_last}
use Rattle.om_io.proofs.Outlets.Steps.{none, more}
use Rattle.om_program_text.proofs.writer.write_process.Goals as goal

pub returns-in_err-write_rows : goal.returns-in_err-write_rows
returns-in_err-write_rows g c =
    let p = err_from_is_err_and c.from_residual.result c.from_residual.ensures.1 in
    rw p.1 (steps_break (drop 1 (process_parts c.args.code.now)) none c.in_err-write_rows.ensures)

pub returns-in_err-write_rows-2 : goal.returns-in_err-write_rows-2
returns-in_err-write_rows-2 g c =
    let p = err_from_is_err_and c.from_residual-in_err-write_rows-2.result c.from_residual-in_err-write_rows-2.ensures.1 in
    rw p.1 (steps_break (drop 2 (process_parts c.args.code.now)) (more c.in_ok-write_rows.ensures none) c.in_err-write_rows-2.ensures)

pub returns : goal.returns
returns g c = steps_last _ _ c.write_rows-3.result (more c.in_ok-write_rows.ensures (more c.in_ok-write_rows-2.ensures none)) c.write_rows-3.ensures
