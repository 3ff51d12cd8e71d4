use Rattle.om_ring.specs.Ops.{Ops, Laws, laws_from}
use Rattle.om_lorentz.proofs.Undirected.{is_even, is_symmetric}
use Rattle.om_lorentz.proofs.laws.undirected.Goals as goal

pub returns : goal.returns
returns g c =
    let r = c.args._ring.now in
    let o : Ops g.row.R-E.Denot = g.R.Ring.ops r in
    let l : Laws o = laws_from (g.R.Ring.element r) o (g.met.R.Ring.known r) (g.met.R.Ring.laws r) in
    record { even = is_even o l; symmetric = is_symmetric o l }
