use Rattle.std.proofs.Common.{◌+◌, arith, sym, subst}
use Rattle.om_ring.specs.Ops.{laws_from}
use Rattle.om_machine.specs.Rows.{HaveMasses}
use Rattle.om_machine.proofs.MassRows.{has-inverses, more-before, more-masses}
use Rattle.om_machine.proofs.rows.load_masses.Goals as goal

pub loop-k-preserved : goal.loop-k-preserved
loop-k-preserved g c =
    let r = c.args.ring.now in
    let o = g.R.Ring.ops r in
    let l = laws_from (g.R.Ring.element r) o (g.met.R.Ring.known r) (g.met.R.Ring.laws r) in
    let rows = c.args.code.now.model.particles in
    let p = c.at.result.now in
    let has = c.in-Some.ensures.value in
    record {
      rows = subst (HaveMasses o rows (c.loop-k.k + 1)) (sym c.in-Ok.ensures.ok) (more-masses o rows c.loop-k.k c.loop-k.masses p c.in-Some.row c.loop-k.invariant.rows c.at.ensures has);
      before = more-before o rows c.loop-k.k p c.at.ensures (has-inverses o l p c.in-Some.row has) c.loop-k.invariant.before;
      spent = omega (arith, c.loop-k.invariant.spent, c.in-Some.ensures.at_most);
    }
