use Rattle.std.proofs.Common.{sym, ◌∙◌}
use Rattle.om_ring.specs.Ops.{Ops, Laws, laws_from}
use Rattle.om_lorentz.proofs.Chiral.{chiral-left, chiral-right}
use Rattle.om_lorentz.proofs.entries.fermions.chiral.Goals as goal

pub returns-then-column-lt2-clause-value : goal.returns-then-column-lt2-clause-value
returns-then-column-lt2-clause-value g c =
    let r = c.args.ring.now in
    let o : Ops g.row.R-E.Denot = g.R.Ring.ops r in
    let l : Laws o = laws_from (g.R.Ring.element r) o (g.met.R.Ring.known r) (g.met.R.Ring.laws r) in
    c.minus.ensures.value ∙ sym (chiral-left o l c.args.factors.now c.args.column c.if-column-lt2.true)

pub returns-else-column-lt2-clause-value : goal.returns-else-column-lt2-clause-value
returns-else-column-lt2-clause-value g c =
    let r = c.args.ring.now in
    let o : Ops g.row.R-E.Denot = g.R.Ring.ops r in
    let l : Laws o = laws_from (g.R.Ring.element r) o (g.met.R.Ring.known r) (g.met.R.Ring.laws r) in
    c.add.ensures.value ∙ sym (chiral-right o l c.args.factors.now c.args.column c.if-column-lt2.false c.requires)
