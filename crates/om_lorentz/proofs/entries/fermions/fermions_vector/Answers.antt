use Rattle.std.proofs.Common.{sym, ◌∙◌, ap}
use Rattle.om_ring.specs.Ops.{Ops, Laws, laws_from}
use Rattle.om_lorentz.specs.Matrices.{gamma}
use Rattle.om_lorentz.proofs.Chiral.{product-chiral}
use Rattle.om_lorentz.proofs.entries.fermions.fermions_vector.Goals as goal

pub returns-clause-value : goal.returns-clause-value
returns-clause-value g c =
    let r = c.args.ring.now in
    let o : Ops g.row.R-E.Denot = g.R.Ring.ops r in
    let l : Laws o = laws_from (g.R.Ring.element r) o (g.met.R.Ring.known r) (g.met.R.Ring.laws r) in
    let f = c.args.vertex.now.factors in
    let m = c.index-mu.result in
    let j = c.index-row.result in
    let k = c.index-column.result in
    let e = c.gamma_times.ensures.value ∙ ap (o.times (gamma o m j k)) c.chiral-side.ensures.value ∙ sym (product-chiral o l f (gamma o m) j k c.index-column.ensures.below) in
    rw (c.index-mu.ensures.value, c.index-row.ensures.value, c.index-column.ensures.value) at e
