use Rattle.om_ring.specs.Ops.{Ops, Laws, laws_from}
use Rattle.om_lorentz.specs.Matrices.{upper}
use Rattle.om_lorentz.proofs.Products.{lower_at-difference}
use Rattle.om_lorentz.proofs.matrices.lower_difference.Goals as goal

pub returns-else-mu-eq0-clause-value : goal.returns-else-mu-eq0-clause-value
returns-else-mu-eq0-clause-value g c =
    let r = c.args.ring.now in
    let o : Ops g.row.R-E.Denot = g.R.Ring.ops r in
    let l : Laws o = laws_from (g.R.Ring.element r) o (g.met.R.Ring.known r) (g.met.R.Ring.laws r) in
    let e = lower_at-difference o l c.args.mu (upper c.args.p.now c.args.mu) (upper c.args.q.now c.args.mu) c.if-mu-eq0.false in
    cc e
