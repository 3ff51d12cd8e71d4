use Rattle.std.proofs.Common.{◌∙◌, ap, length, length-append, arith, [], ◌∷◌}
use Rattle.toml.specs.View.{view}
use Rattle.om_modelfile.specs.Each.{in_row}
use Rattle.om_modelfile.proofs.Reading.{none_read}
use Rattle.om_modelfile.proofs.RowsRead.{row_more, row_fails}
use Rattle.om_modelfile.proofs.rows.read_rows.Goals as goal

pub loop-index-init : goal.loop-index-init
loop-index-init g c = record {
  rows = rw c.new-done.ensures (none_read (λ row x. in_row c.args.table row (g.K.RowKind.row_of c.args.kind.now x)) view 1 c.args.rows.now);
  count = rw c.new-done.ensures;
}

pub returns-in-Err-clause-rows : goal.returns-in-Err-clause-rows
returns-in-Err-clause-rows g c =
    row_fails (g.K.RowKind.row_of c.args.kind.now) view c.args.table c.args.rows.now c.loop-index.index c.index-rows-index.result _ c.in-Err.fault c.at_row.result
    (omega arith) c.index-rows-index.is c.loop-index.invariant.rows c.at_row.ensures c.in-Err.ensures

pub loop-index-preserved : goal.loop-index-preserved
loop-index-preserved g c = record {
  rows =
      row_more (g.K.RowKind.row_of c.args.kind.now) view c.args.table c.args.rows.now c.loop-index.index c.index-rows-index.result _ _ c.in-Ok.said
      (omega arith) c.index-rows-index.is c.loop-index.invariant.rows c.in-Ok.ensures c.in-Ok-push.ensures.ok;
  count = ap length c.in-Ok-push.ensures.ok ∙ omega (arith, length-append c.loop-index.done (c.in-Ok.said ∷ []), c.loop-index.invariant.count);
}
