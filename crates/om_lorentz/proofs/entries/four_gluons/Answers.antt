use Rattle.std.proofs.Common.{ℕ}
use Rattle.om_ring.specs.Ops.{Ops, Laws, laws_from}
use Rattle.om_lorentz.specs.Entries.{g as pair}
use Rattle.om_lorentz.specs.Structures.{index, read}
use Rattle.om_lorentz.proofs.FourGluons.{gluons-spread}
use Rattle.om_lorentz.proofs.entries.four_gluons.Goals as goal

pub returns-clause-value : goal.returns-clause-value
returns-clause-value g c =
    let r = c.args.ring.now in
    let o : Ops g.row.R-E.Denot = g.R.Ring.ops r in
    let l : Laws o = laws_from (g.R.Ring.element r) o (g.met.R.Ring.known r) (g.met.R.Ring.laws r) in
    let m = λ (j k : ℕ). pair o (index c.args.vertex.now.indices) (read c.args.vertex.now.reading j) (read c.args.vertex.now.reading k) in
    let e = gluons-spread o l c.args.vertex.now.factors.a (m 1 3) (m 2 4) (m 1 2) (m 3 4) (m 1 4) (m 2 3) in
    cc e
