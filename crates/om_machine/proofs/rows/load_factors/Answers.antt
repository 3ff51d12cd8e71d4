use Rattle.std.proofs.Common.{◌+◌, arith, sym, subst}
use Rattle.om_machine.specs.Rows.{HaveFactors}
use Rattle.om_machine.proofs.FactorRows.{few-factors, has-values, more-factors, more-sound}
use Rattle.om_machine.proofs.rows.load_factors.Goals as goal

pub loop-k-preserved : goal.loop-k-preserved
loop-k-preserved g c =
    let o = g.R.Ring.ops c.args.ring.now in
    let code = c.args.code.now in
    let rows = code.model.vertices in
    let p = c.at.result.now in
    let has = c.in-Some.ensures.value in
    record {
      rows = subst (HaveFactors o rows (c.loop-k.k + 1)) (sym c.in-Ok.ensures.ok) (more-factors o rows c.loop-k.k c.loop-k.factors p c.in-Some.row c.loop-k.invariant.rows c.at.ensures has);
      before = more-sound o rows c.loop-k.k p c.at.ensures (has-values o p c.in-Some.row (few-factors code c.requires c.loop-k.k p c.at.ensures) has) c.loop-k.invariant.before;
      spent = omega (arith, c.loop-k.invariant.spent, c.in-Some.ensures.at_most);
    }

pub overflow_cast-result : goal.overflow_cast-result
overflow_cast-result g c =
    omega (arith, c.len.ensures, c.requires.model.particles, c.requires.model.vertices)

pub overflow_add-result-in_default : goal.overflow_add-result-in_default
overflow_add-result-in_default g c =
    omega (arith, c.len.ensures, c.requires.model.particles, c.requires.model.vertices)
