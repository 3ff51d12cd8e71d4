use Rattle.std.proofs.Common.{sym, ◌∙◌}
use Rattle.om_ring.specs.Ops.{Ops, Laws, laws_from}
use Rattle.om_lorentz.specs.declared.phases.Phase.TheVariants.{Zero, One, MinusOne, MinusImag}
use Rattle.om_lorentz.proofs.Turns.{phase-times_at}
use Rattle.om_lorentz.proofs.phases.turned.Goals as goal

pub returns-in-Zero-clause-value : goal.returns-in-Zero-clause-value
returns-in-Zero-clause-value g c =
    let r = c.args.ring.now in
    let o : Ops g.row.R-E.Denot = g.R.Ring.ops r in
    let l : Laws o = laws_from (g.R.Ring.element r) o (g.met.R.Ring.known r) (g.met.R.Ring.laws r) in
    c.zero.ensures ∙ sym (phase-times_at o l c.args.phase Zero c.args.x c.in-Zero.is)

pub returns-in-One-clause-value : goal.returns-in-One-clause-value
returns-in-One-clause-value g c =
    let r = c.args.ring.now in
    let o : Ops g.row.R-E.Denot = g.R.Ring.ops r in
    let l : Laws o = laws_from (g.R.Ring.element r) o (g.met.R.Ring.known r) (g.met.R.Ring.laws r) in
    sym (phase-times_at o l c.args.phase One c.args.x c.in-One.is)

pub returns-in-MinusOne-clause-value : goal.returns-in-MinusOne-clause-value
returns-in-MinusOne-clause-value g c =
    let r = c.args.ring.now in
    let o : Ops g.row.R-E.Denot = g.R.Ring.ops r in
    let l : Laws o = laws_from (g.R.Ring.element r) o (g.met.R.Ring.known r) (g.met.R.Ring.laws r) in
    c.neg.ensures.value ∙ sym (phase-times_at o l c.args.phase MinusOne c.args.x c.in-MinusOne.is)

pub returns-in-MinusImag-clause-value : goal.returns-in-MinusImag-clause-value
returns-in-MinusImag-clause-value g c =
    let r = c.args.ring.now in
    let o : Ops g.row.R-E.Denot = g.R.Ring.ops r in
    let l : Laws o = laws_from (g.R.Ring.element r) o (g.met.R.Ring.known r) (g.met.R.Ring.laws r) in
    let e = phase-times_at o l c.args.phase MinusImag c.args.x c.in-MinusImag.is in
    cc e
