use Rattle.std.proofs.Common.{sym, ◌∙◌, length}
use Rattle.om_asm.specs.Rows.{rows_from}
use Rattle.om_asm.proofs.ReadingRows.{row_step, row_fails, rows_end, rows_stop}
use Rattle.om_asm.proofs.rows.read_rows.Goals as goal

pub returns-in_default : goal.returns-in_default
returns-in_default g c =
    let starts = g.K.LineKind.starts c.args.kind.now in
    let row_of = g.K.LineKind.row_of c.args.kind.now in
    let before = c.args.rows.now in
    rows_end starts row_of before c.loop-word.rows c.loop-word.lines.number c.loop-word.lines.lines (rows_from starts row_of (length before) c.args.lines.now.number c.args.lines.now.lines)
    (sym c.words-words.ensures ∙ c.in_default.ensures.0) c.loop-word.invariant

pub returns-then-not-begins : goal.returns-then-not-begins
returns-then-not-begins g c =
    let starts = g.K.LineKind.starts c.args.kind.now in
    let row_of = g.K.LineKind.row_of c.args.kind.now in
    let before = c.args.rows.now in
    rows_stop starts row_of before c.loop-word.rows c.loop-word.lines.number c.len.result c.in-Some.word.now c.next.new.self c.loop-word.lines.lines (rows_from starts row_of (length before) c.args.lines.now.number c.args.lines.now.lines)
    (sym c.in-Some.ensures ∙ c.words-words.ensures) c.len.ensures (sym c.begins.ensures ∙ c.if-not-begins.true) c.loop-word.invariant

pub returns-in-Err : goal.returns-in-Err
returns-in-Err g c =
    let starts = g.K.LineKind.starts c.args.kind.now in
    let row_of = g.K.LineKind.row_of c.args.kind.now in
    let before = c.args.rows.now in
    row_fails starts row_of before c.loop-word.rows c.loop-word.rows c.loop-word.lines.number c.number.result c.len.result c.in-Some.word.now c.next.new.self c.loop-word.lines.lines c.in-Err.fault c.at_line.result c.loop-word.lines
    (rows_from starts row_of (length before) c.args.lines.now.number c.args.lines.now.lines)
    (sym c.in-Some.ensures ∙ c.words-words.ensures) c.len.ensures (sym c.begins.ensures ∙ c.if-not-begins.false) c.in-Err.ensures (sym c.number.ensures) c.at_line.ensures c.loop-word.invariant

pub loop-word-preserved : goal.loop-word-preserved
loop-word-preserved g c =
    let starts = g.K.LineKind.starts c.args.kind.now in
    let row_of = g.K.LineKind.row_of c.args.kind.now in
    row_step starts row_of c.loop-word.rows c.push.new.self c.loop-word.lines.number c.len.result c.in-Some.word.now c.next.new.self c.loop-word.lines.lines c.advance.new.self c.in-Ok.row _
    (sym c.in-Some.ensures ∙ c.words-words.ensures) c.len.ensures (sym c.begins.ensures ∙ c.if-not-begins.false) c.in-Ok.ensures c.in-Ok-push.ensures.ok c.advance.ensures c.loop-word.invariant
