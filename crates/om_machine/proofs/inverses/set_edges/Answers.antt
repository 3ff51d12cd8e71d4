use Rattle.std.proofs.Common.{◌≡◌, ◌*◌, length, arith, ap, sym, ◌∙◌}
use Rattle.om_ring.specs.Ops.{laws_from}
use Rattle.om_machine.specs.Momenta.{product_before}
use Rattle.om_machine.proofs.Inverting.{inverse-is, once, some-dens}
use Rattle.om_machine.proofs.inverses.set_edges.Goals as goal

pub set_factors-requires-clause-inverse : goal.set_factors-requires-clause-inverse
set_factors-requires-clause-inverse g c =
    let r = c.args.ring.now in
    let o = g.R.Ring.ops r in
    let l = laws_from (g.R.Ring.element r) o (g.met.R.Ring.known r) (g.met.R.Ring.laws r) in
    let xs = c.as_slice-denominators.result.now in
    let size : length xs ≡ length c.args.code.now.dens = ap length c.as_slice-denominators.ensures ∙ c.set_denominators.ensures.length in
    ap (λ m. o.times (product_before o xs m) c.in-Some.inverse) (sym size) ∙ ap (λ x. o.times x c.in-Some.inverse) (sym c.set_products-product.ensures.value)
    ∙ inverse-is o l c.set_products-product.result c.in-Some.inverse (sym c.in-Some.ensures.value)

pub returns-in-Some-clause-at_most : goal.returns-in-Some-clause-at_most
returns-in-Some-clause-at_most g c =
    let cost = g.R.Ring.cost c.args.ring.now in
    let n = length c.args.code.now.dens in
    let size : length c.as_slice-denominators.result.now ≡ n = ap length c.as_slice-denominators.ensures ∙ c.set_denominators.ensures.length in
    let few = once n cost (some-dens c.args.code.now.dens (λ e. grind (arith, c.if-is_empty.false, c.is_empty.ensures, e))) in
    omega (arith, ap (λ m. m * cost) size, few, c.set_denominators.ensures.at_most, c.set_products-product.ensures.at_most, c.in-Some.ensures.at_most, c.set_factors.ensures.at_most)

pub returns-in-None-clause-at_most : goal.returns-in-None-clause-at_most
returns-in-None-clause-at_most g c =
    let cost = g.R.Ring.cost c.args.ring.now in
    let n = length c.args.code.now.dens in
    let size : length c.as_slice-denominators.result.now ≡ n = ap length c.as_slice-denominators.ensures ∙ c.set_denominators.ensures.length in
    let few = once n cost (some-dens c.args.code.now.dens (λ e. grind (arith, c.if-is_empty.false, c.is_empty.ensures, e))) in
    omega (arith, ap (λ m. m * cost) size, few, c.set_denominators.ensures.at_most, c.set_products-product.ensures.at_most, c.in-None.ensures.at_most, c.set_one_by_one.ensures.at_most)
