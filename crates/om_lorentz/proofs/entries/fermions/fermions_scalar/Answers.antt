use Rattle.std.proofs.Common.{sym, ◌∙◌}
use Rattle.om_ring.specs.Ops.{Ops, Laws, laws_from}
use Rattle.om_lorentz.proofs.Chiral.{chiral-off}
use Rattle.om_lorentz.proofs.entries.fermions.fermions_scalar.Goals as goal

pub returns-else-row-column-clause-value : goal.returns-else-row-column-clause-value
returns-else-row-column-clause-value g c =
    let r = c.args.ring.now in
    let o : Ops g.row.R-E.Denot = g.R.Ring.ops r in
    let l : Laws o = laws_from (g.R.Ring.element r) o (g.met.R.Ring.known r) (g.met.R.Ring.laws r) in
    let e = chiral-off o l c.args.vertex.now.factors c.index-row.result c.index-column.result c.index-row.ensures.below c.index-column.ensures.below c.if-row-column.false in
    let f = rw (c.index-row.ensures.value, c.index-column.ensures.value) at e in
    c.zero.ensures ∙ sym f
