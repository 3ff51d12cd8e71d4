use Rattle.om_ring.specs.Ops.{Ops, Laws, laws_from}
use Rattle.om_lorentz.proofs.Rotations.{rotates_three, rotates_four}
use Rattle.om_lorentz.proofs.laws.rotations.Goals as goal

pub returns : goal.returns
returns g c =
    let r = c.args._ring.now in
    let o : Ops g.row.R-E.Denot = g.R.Ring.ops r in
    let l : Laws o = laws_from (g.R.Ring.element r) o (g.met.R.Ring.known r) (g.met.R.Ring.laws r) in
    record { three = rotates_three o l; four = rotates_four o l }
