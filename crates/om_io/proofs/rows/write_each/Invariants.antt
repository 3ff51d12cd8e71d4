use Rattle.std.proofs.Common.{take, flat_map}
use Rattle.om_io.specs.Writing.{Takes, outlet}
use Rattle.om_io.proofs.rows.write_each.Given as goal

abbrev pub invariant-loop-row : goal.invariant-loop-row
invariant-loop-row g l =
    let written = g.W.Sink.written in
    let faults = g.W.Sink.faults in
    Takes (outlet (written l.fn.to) (faults l.fn.to) l.fn.line) (outlet (written l.to) (faults l.to) l.line) (flat_map (g.K.RowKind.text l.kind) (take l.row-index l.rows))
