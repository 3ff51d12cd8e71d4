use Rattle.std.proofs.lemmas.Result.{err_from_is_err_and}
use Rattle.om_io.specs.Writing.{outlet}
use Rattle.om_io.proofs.Outlets.{row_more, row_breaks}
use Rattle.om_io.proofs.rows.write_each.Goals as goal

pub returns-in_err-write : goal.returns-in_err-write
returns-in_err-write g c =
    let written = g.W.Sink.written in
    let faults = g.W.Sink.faults in
    let p = err_from_is_err_and c.from_residual.result c.from_residual.ensures.1 in
    rw p.1 (row_breaks (g.K.RowKind.text c.args.kind.now) c.args.rows.now (outlet (written c.args.to.now) (faults c.args.to.now) c.args.line.now) (outlet (written c.loop-row.to) (faults c.loop-row.to) c.loop-row.line) (outlet (written c.write.new.to) (faults c.write.new.to) c.write.new.line)
    c.loop-row.row-index c.row-item.result c.row-item.result c.loop-row-test.true c.row-item.is c.loop-row.invariant c.in_err-write.ensures)

pub loop-row-preserved : goal.loop-row-preserved
loop-row-preserved g c =
    let written = g.W.Sink.written in
    let faults = g.W.Sink.faults in
    row_more (g.K.RowKind.text c.args.kind.now) c.args.rows.now (outlet (written c.args.to.now) (faults c.args.to.now) c.args.line.now) (outlet (written c.loop-row.to) (faults c.loop-row.to) c.loop-row.line) (outlet (written c.write.new.to) (faults c.write.new.to) c.write.new.line)
    c.loop-row.row-index c.row-item.result c.row-item.result c.loop-row-test.true c.row-item.is c.loop-row.invariant c.in_ok-write.ensures
