use Rattle.om_ring.specs.Ops.{Ops, Laws, laws_from}
use Rattle.om_kernel.proofs.FusedForms.{fused-sum, fused-kind}
use Rattle.om_kernel.specs.Slots.{filled}
use Rattle.om_kernel.proofs.vertices.fuse.Goals as goal

pub returns-clause-kind : goal.returns-clause-kind
returns-clause-kind g c =
    let r = c.args.ring.now in
    let o : Ops g.row.R-E.Denot = g.R.Ring.ops r in
    let l : Laws o = laws_from (g.R.Ring.element r) o (g.met.R.Ring.known r) (g.met.R.Ring.laws r) in
    fused-kind o l c.args.reading c.args.factors.now (filled o c.args.slots.now) c.args.structure c.args.hole _ c.fused.ensures.value c.requires.low c.requires.high

pub returns-clause-value : goal.returns-clause-value
returns-clause-value g c =
    let r = c.args.ring.now in
    let o : Ops g.row.R-E.Denot = g.R.Ring.ops r in
    let l : Laws o = laws_from (g.R.Ring.element r) o (g.met.R.Ring.known r) (g.met.R.Ring.laws r) in
    fused-sum o l c.args.reading c.args.factors.now (filled o c.args.slots.now) c.args.structure c.args.hole _ c.fused.ensures.value
    c.requires.reads c.requires.low c.requires.high c.requires.fits.beside
