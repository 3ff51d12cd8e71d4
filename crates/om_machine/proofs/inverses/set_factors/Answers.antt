use Rattle.std.proofs.Common.{◌≡◌, ◌<◌, ◌≤◌, ◌+◌, ◌-◌, [], length, Some, refl, arith, ap, sym, subst, ◌∙◌}
use Rattle.std.proofs.Math.ListN.{length-set}
use Rattle.std.proofs.lemmas.List.{get_or_read_under}
use Rattle.om_ring.specs.Ops.{laws_from}
use Rattle.om_machine.specs.Momenta.{AreProducts, product_before, row_of_masses, table_from}
use Rattle.om_machine.proofs.Inverting.{AreEdgesFrom, at_place, edges-before, left-over, own-inverse, products-less}
use Rattle.om_machine.proofs.inverses.set_factors.Goals as goal

pub loop-done-preserved : goal.loop-done-preserved
loop-done-preserved g c =
    let r = c.args.ring.now in
    let o = g.R.Ring.ops r in
    let l = laws_from (g.R.Ring.element r) o (g.met.R.Ring.known r) (g.met.R.Ring.laws r) in
    let t = table_from o [] c.args.masses.now in
    let xs = c.args.denominators.now in
    let dens = c.args.code.now.dens in
    let inv = c.loop-done.invariant in
    let done = c.loop-done.done in
    let n = length dens - done in
    let k = c.len-count.result - 1 - done in
    let less : done < length dens = omega (arith, c.loop-done-test.true, c.len-count.ensures) in
    let next : length dens - (done + 1) ≡ k = omega (arith, c.len-count.ensures) in
    let size : n ≡ k + 1 = omega (arith, c.len-count.ensures, less) in
    let within : k < length dens = omega (arith, size) in
    let place : k < length c.loop-done.edges = omega (arith, within, inv.length) in
    let there = get_or_read_under xs k (length xs) c.index-denominators-k.result o.zero c.index-denominators-k.is (omega (arith, within, c.requires.count)) refl in
    let here = there ∙ c.requires.denominators k c.at-den.result.now within c.at-den.ensures in
    let before : c.at.result.now ≡ product_before o xs k = at_place o c.loop-done.edges k c.at.result.now c.at.ensures ∙ inv.products k (omega (arith, size)) in
    let own : o.inverse c.index-denominators-k.result ≡ Some c.mul-own.result = ap o.inverse there ∙ own-inverse o l xs n k c.loop-done.left c.at.result.now c.mul-own.result size inv.inverse before c.mul-own.ensures.value in
    let value : AreEdgesFrom o c.args.code.now t c.args.event.now k c.set.new.self = edges-before o c.args.code.now t c.args.event.now n k c.at-den.result.now c.mul-own.result c.mul-factor.result c.loop-done.edges c.set.new.self size c.at-den.ensures place
    (ap o.inverse (sym here) ∙ own)
    (c.mul-factor.ensures.value ∙ ap (λ m. o.times m.norm c.mul-own.result) (c.masses_in-norm.ensures ∙ ap (row_of_masses o c.args.masses.now) c.from.ensures))
    c.set.ensures inv.value in
    let left = left-over o l xs n k c.loop-done.left c.mul-left.result size inv.inverse (c.mul-left.ensures.value ∙ ap (o.times c.loop-done.left) there) in
    record {
      value = subst (λ m. AreEdgesFrom o c.args.code.now t c.args.event.now m c.set.new.self) (sym next) value;
      products = subst (λ m. AreProducts o xs m c.set.new.self) (sym next) (products-less o xs c.loop-done.edges c.set.new.self n k c.mul-factor.result (omega (arith, size)) c.set.ensures inv.products);
      inverse = ap (λ m. o.times (product_before o xs m) c.mul-left.result) next ∙ left;
      length = ap length c.set.ensures ∙ simp length-set inv.length;
      at_most = omega (arith, inv.at_most, c.mul-own.ensures.at_most, c.mul-factor.ensures.at_most, c.mul-left.ensures.at_most);
    }

pub returns-clause-value : goal.returns-clause-value
returns-clause-value g c = λ k d lt at. let all : length c.args.code.now.dens - c.loop-done.done ≤ k = omega (arith, c.loop-done-test.false, c.len-count.ensures) in c.loop-done.invariant.value k d all at
