use Rattle.std.proofs.Common.{rules, sym}
use Rattle.om_machine.proofs.FactorRows.{bad-factor}
use Rattle.om_machine.proofs.rows.factors_of.Goals as goal

pub returns-in_err-a-clause-value : goal.returns-in_err-a-clause-value
returns-in_err-a-clause-value g c =
    let bad = bad-factor (g.R.Ring.ops c.args.ring.now) c.args.vertex.now.factors 0 (sym c.in_err-a.ensures.value) in
    let h = c.from_residual in search (rules, bad)

pub returns-in_err-b-clause-value : goal.returns-in_err-b-clause-value
returns-in_err-b-clause-value g c =
    let bad = bad-factor (g.R.Ring.ops c.args.ring.now) c.args.vertex.now.factors 1 (sym c.in_err-b.ensures.value) in
    let h = c.from_residual-in_err-b in search (rules, bad)

pub returns-in_err-c-clause-value : goal.returns-in_err-c-clause-value
returns-in_err-c-clause-value g c =
    let bad = bad-factor (g.R.Ring.ops c.args.ring.now) c.args.vertex.now.factors 2 (sym c.in_err-c.ensures.value) in
    let h = c.from_residual-in_err-c in search (rules, bad)
