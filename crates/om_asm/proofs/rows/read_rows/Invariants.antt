use Rattle.std.proofs.Common.{◌≡◌, length}
use Rattle.om_asm.specs.Rows.{behind, rows_from}
use Rattle.om_asm.proofs.rows.read_rows.Given as goal

abbrev pub invariant-loop-word : goal.invariant-loop-word
invariant-loop-word g l =
    let starts = g.K.LineKind.starts l.kind in
    let row_of = g.K.LineKind.row_of l.kind in
    behind l.rows (rows_from starts row_of (length l.rows) l.lines.number l.lines.lines) ≡ behind l.fn.rows (rows_from starts row_of (length l.fn.rows) l.fn.lines.number l.fn.lines.lines)

abbrev pub decreases-loop-word : goal.decreases-loop-word
decreases-loop-word g l = length l.lines.lines
