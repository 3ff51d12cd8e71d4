use Rattle.std.proofs.Common.{sym, ◌∙◌}
use Rattle.om_ring.specs.Ops.{Ops, Laws, laws_from}
use Rattle.om_lorentz.proofs.Metric.{times_metric-off, times_metric-time, times_metric-space}
use Rattle.om_lorentz.proofs.matrices.times_metric.Goals as goal

pub returns-then-mu-nu-clause-value : goal.returns-then-mu-nu-clause-value
returns-then-mu-nu-clause-value g c =
    let r = c.args.ring.now in
    let o : Ops g.row.R-E.Denot = g.R.Ring.ops r in
    let l : Laws o = laws_from (g.R.Ring.element r) o (g.met.R.Ring.known r) (g.met.R.Ring.laws r) in
    c.zero.ensures ∙ sym (times_metric-off o l c.args.x c.args.mu c.args.nu c.requires.mu_in c.requires.nu_in c.if-mu-nu.true)

pub returns-then-mu-eq0-clause-value : goal.returns-then-mu-eq0-clause-value
returns-then-mu-eq0-clause-value g c =
    let r = c.args.ring.now in
    let o : Ops g.row.R-E.Denot = g.R.Ring.ops r in
    let l : Laws o = laws_from (g.R.Ring.element r) o (g.met.R.Ring.known r) (g.met.R.Ring.laws r) in
    sym (times_metric-time o l c.args.x c.args.mu c.args.nu c.if-mu-nu.false c.if-mu-eq0.true)

pub returns-else-mu-eq0-clause-value : goal.returns-else-mu-eq0-clause-value
returns-else-mu-eq0-clause-value g c =
    let r = c.args.ring.now in
    let o : Ops g.row.R-E.Denot = g.R.Ring.ops r in
    let l : Laws o = laws_from (g.R.Ring.element r) o (g.met.R.Ring.known r) (g.met.R.Ring.laws r) in
    c.neg.ensures.value ∙ sym (times_metric-space o l c.args.x c.args.mu c.args.nu c.requires.mu_in c.if-mu-nu.false c.if-mu-eq0.false)
