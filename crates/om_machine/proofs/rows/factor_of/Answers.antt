use Rattle.std.proofs.Common.{arith, sym, ◌∙◌, ap, Some, ◌*◌, ◌≤◌, length}
use Rattle.std.proofs.Math.Nat.{mul-le-mul_left}
use Rattle.std.proofs.lemmas.Option.{slice_get_past}
use Rattle.om_machine.specs.Rows.{product_or_zero}
use Rattle.om_machine.proofs.FactorRows.{short-factor}
use Rattle.om_machine.proofs.rows.factor_of.Goals as goal

pub returns-then-k-len-clause-at_most : goal.returns-then-k-len-clause-at_most
returns-then-k-len-clause-at_most g c =
    let at = c.at.ensures ∙ ap Some (sym c.as_slice.ensures) in
    let short = short-factor c.args.vertex.now.factors c.args.k c.as_slice.result.now c.requires at in
    omega (arith, c.value_of_product.ensures.at_most, mul-le-mul_left (5 * g.R.Ring.cost c.args.ring.now) short)

pub returns-else-k-len-clause-value : goal.returns-else-k-len-clause-value
returns-else-k-len-clause-value g c =
    let all : length c.args.vertex.now.factors ≤ c.args.k = omega arith in
    ap Some c.zero.ensures ∙ sym (ap (product_or_zero (g.R.Ring.ops c.args.ring.now)) (slice_get_past c.args.vertex.now.factors c.args.k all))
