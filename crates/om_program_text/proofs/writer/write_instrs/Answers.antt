use Rattle.std.proofs.Common.{drop}
use Rattle.std.proofs.lemmas.Result.{err_from_is_err_and}
use Rattle.om_program_text.specs.Parts.{instr_parts}
use Rattle.om_io.proofs.Outlets.{steps_break, steps_last}
use Rattle.om_io.proofs.Outlets.Steps.{none, more}
use Rattle.om_program_text.proofs.writer.write_instrs.Goals as goal

pub returns-in_err-write_each : goal.returns-in_err-write_each
returns-in_err-write_each g c =
    let p = err_from_is_err_and c.from_residual.result c.from_residual.ensures.1 in
    rw p.1 (steps_break (drop 1 (instr_parts c.args.version c.args.instrs.now)) none c.in_err-write_each.ensures)

pub returns : goal.returns
returns g c = steps_last _ _ c.write_end.result (more c.in_ok-write_each.ensures none) c.write_end.ensures
