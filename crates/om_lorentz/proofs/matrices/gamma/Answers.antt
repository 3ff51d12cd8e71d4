use Rattle.std.proofs.Common.{◌∙◌}
use Rattle.om_ring.specs.Ops.{Ops, Laws, laws_from}
use Rattle.om_lorentz.proofs.GammaTable.{gamma-phase}
use Rattle.om_lorentz.proofs.matrices.gamma.Goals as goal

pub returns-clause-value : goal.returns-clause-value
returns-clause-value g c =
    let r = c.args.ring.now in
    let o : Ops g.row.R-E.Denot = g.R.Ring.ops r in
    let l : Laws o = laws_from (g.R.Ring.element r) o (g.met.R.Ring.known r) (g.met.R.Ring.laws r) in
    c.value.ensures.value ∙ gamma-phase o l c.args.mu c.args.row c.args.column c.requires.mu_in c.requires.row_in c.requires.column_in
