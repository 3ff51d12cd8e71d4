use Rattle.om_ring.specs.Ops.{Ops, Laws, laws_from}
use Rattle.om_kernel.proofs.ClosedForms.{closed-known}
use Rattle.om_kernel.specs.Slots.{filled}
use Rattle.om_kernel.proofs.vertices.close.Goals as goal

pub returns-clause-value : goal.returns-clause-value
returns-clause-value g c =
    let r = c.args.ring.now in
    let o : Ops g.row.R-E.Denot = g.R.Ring.ops r in
    let l : Laws o = laws_from (g.R.Ring.element r) o (g.met.R.Ring.known r) (g.met.R.Ring.laws r) in
    closed-known o l c.args.reading c.args.factors.now (filled o c.args.slots.now) c.args.structure _ _ _
    c.slot_count-last.ensures c.fused-wave.ensures.value c.contracted.ensures.value c.requires.reads c.requires.fits
