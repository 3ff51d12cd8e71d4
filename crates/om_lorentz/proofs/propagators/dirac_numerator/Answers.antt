use Rattle.std.proofs.Common.{◌≡◌, sym, ◌∙◌, ap}
use Rattle.om_ring.specs.Ops.{Ops, Laws, laws_from}
use Rattle.om_lorentz.specs.Matrices.{unit}
use Rattle.om_lorentz.proofs.Numerators.{times_unit-on, times_unit-off}
use Rattle.om_lorentz.proofs.propagators.dirac_numerator.Goals as goal
use Rattle.om_lorentz.proofs.propagators.dirac_numerator.Goals.{then-row-column, else-row-column}

pub returns-clause-value : goal.returns-clause-value
returns-clause-value g c =
    let r = c.args.ring.now in
    let o : Ops g.row.R-E.Denot = g.R.Ring.ops r in
    let l : Laws o = laws_from (g.R.Ring.element r) o (g.met.R.Ring.known r) (g.met.R.Ring.laws r) in
    let m = c.args.mass in
    let j = c.args.row in
    let k = c.args.column in
    let e : c.if-row-column.sum ≡ o.plus c.slash-moving.result (o.times m (unit o j k)) =
    elim c.if-row-column.branch [
      | then-row-column w ↦ w.sum-is ∙ w.add-sum.ensures.value ∙ ap (o.plus c.slash-moving.result) (sym (times_unit-on o l m j k c.requires.row_in w.if-row-column.true))
      | else-row-column w ↦ w.sum-is ∙ sym (ap (o.plus c.slash-moving.result) (times_unit-off o l m j k c.requires.row_in c.requires.column_in w.if-row-column.false) ∙ l.plus_zero c.slash-moving.result)
    ] in
    cc e
