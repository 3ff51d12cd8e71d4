use Rattle.om_ring.specs.Ops.{Ops, Laws, laws_from}
use Rattle.om_lorentz.specs.Matrices.{upper, metric}
use Rattle.om_lorentz.proofs.Numerators.{massive-turned}
use Rattle.om_lorentz.proofs.propagators.massive_numerator.Goals as goal

pub returns-clause-value : goal.returns-clause-value
returns-clause-value g c =
    let r = c.args.ring.now in
    let o : Ops g.row.R-E.Denot = g.R.Ring.ops r in
    let l : Laws o = laws_from (g.R.Ring.element r) o (g.met.R.Ring.known r) (g.met.R.Ring.laws r) in
    let p = c.args.p.now in
    let e = massive-turned o l (upper p c.args.left) (upper p c.args.right) c.args.inverse_mass (metric o c.args.left c.args.right) in
    cc e
