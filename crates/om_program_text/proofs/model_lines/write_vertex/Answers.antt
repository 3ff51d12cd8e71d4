use Rattle.std.proofs.Common.{drop}
use Rattle.std.proofs.lemmas.Result.{err_from_is_err_and}
use Rattle.om_program_text.specs.Parts.{vertex_parts}
use Rattle.om_io.proofs.Outlets.{steps_break, steps_last}
use Rattle.om_io.proofs.Outlets.Steps.{none, more}
use Rattle.om_program_text.proofs.model_lines.write_vertex.Goals as goal

pub returns-in_err-write_structure : goal.returns-in_err-write_structure
returns-in_err-write_structure g c =
    let p = err_from_is_err_and c.from_residual.result c.from_residual.ensures.1 in
    rw p.1 (steps_break (drop 1 (vertex_parts c.args.particles.now c.args.vertex.now)) none c.in_err-write_structure.ensures)

pub returns-in_err-write_rows : goal.returns-in_err-write_rows
returns-in_err-write_rows g c =
    let p = err_from_is_err_and c.from_residual-in_err-write_rows.result c.from_residual-in_err-write_rows.ensures.1 in
    rw p.1 (steps_break (drop 2 (vertex_parts c.args.particles.now c.args.vertex.now)) (more c.in_ok-write_structure.ensures none) c.in_err-write_rows.ensures)

pub returns-in_err-write_piece : goal.returns-in_err-write_piece
returns-in_err-write_piece g c =
    let p = err_from_is_err_and c.from_residual-in_err-write_piece.result c.from_residual-in_err-write_piece.ensures.1 in
    rw p.1 (steps_break (drop 3 (vertex_parts c.args.particles.now c.args.vertex.now)) (more c.in_ok-write_structure.ensures (more c.in_ok-write_rows.ensures none)) c.in_err-write_piece.ensures)

pub returns-in_err-write_rows-2 : goal.returns-in_err-write_rows-2
returns-in_err-write_rows-2 g c =
    let p = err_from_is_err_and c.from_residual-in_err-write_rows-2.result c.from_residual-in_err-write_rows-2.ensures.1 in
    rw p.1 (steps_break (drop 4 (vertex_parts c.args.particles.now c.args.vertex.now)) (more c.in_ok-write_structure.ensures (more c.in_ok-write_rows.ensures (more c.in_ok-write_piece.ensures none))) c.in_err-write_rows-2.ensures)

pub returns : goal.returns
returns g c = steps_last _ _ c.write_piece-2.result (more c.in_ok-write_structure.ensures (more c.in_ok-write_rows.ensures (more c.in_ok-write_piece.ensures (more c.in_ok-write_rows-2.ensures none)))) c.write_piece-2.ensures
