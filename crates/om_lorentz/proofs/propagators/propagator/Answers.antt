use Rattle.std.proofs.Common.{sym, ◌∙◌}
use Rattle.om_ring.specs.Ops.{Ops, Laws, laws_from}
use Rattle.om_lorentz.proofs.Numerators.{numerator-massless, numerator-massive}
use Rattle.om_lorentz.proofs.propagators.propagator.Goals as goal

pub returns-in-Vector-clause-value : goal.returns-in-Vector-clause-value
returns-in-Vector-clause-value g c =
    let r = c.args.ring.now in
    let o : Ops g.row.R-E.Denot = g.R.Ring.ops r in
    let l : Laws o = laws_from (g.R.Ring.element r) o (g.met.R.Ring.known r) (g.met.R.Ring.laws r) in
    let a = c.args in
    c.massive_numerator.ensures.value ∙ sym (numerator-massive o l a.spin a.mass a.inverse_mass a.massive a.p.now a.left a.right c.in-Vector.is c.if-massive.true c.requires.mass_in)

pub returns-in-Vector-2-clause-value : goal.returns-in-Vector-2-clause-value
returns-in-Vector-2-clause-value g c =
    let r = c.args.ring.now in
    let o : Ops g.row.R-E.Denot = g.R.Ring.ops r in
    let l : Laws o = laws_from (g.R.Ring.element r) o (g.met.R.Ring.known r) (g.met.R.Ring.laws r) in
    let a = c.args in
    c.massless_numerator.ensures.value ∙ sym (numerator-massless o l a.spin a.mass a.inverse_mass a.massive a.p.now a.left a.right c.in-Vector.is c.if-massive.false c.requires.mass_in)
