use Rattle.std.proofs.Common.{◌≡◌, length}
use Rattle.toml.specs.View.{view}
use Rattle.om_modelfile.proofs.RowsRead.{AreRead}
use Rattle.om_modelfile.proofs.rows.read_rows.Given as goal

abbrev pub invariant-loop-index : goal.invariant-loop-index
invariant-loop-index g l = record {
  rows : AreRead (g.K.RowKind.row_of l.kind) view l.table l.rows l.index l.done;
  count : length l.done ≡ l.index;
}
