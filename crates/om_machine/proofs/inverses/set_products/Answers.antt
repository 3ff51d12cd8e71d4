use Rattle.std.proofs.Common.{◌<◌, length, refl, arith, ap, ◌∙◌}
use Rattle.std.proofs.Math.ListN.{length-set}
use Rattle.std.proofs.lemmas.List.{get_or_read_under}
use Rattle.om_machine.proofs.Inverting.{product-more, products-more}
use Rattle.om_machine.proofs.inverses.set_products.Goals as goal

pub loop-k-preserved : goal.loop-k-preserved
loop-k-preserved g c =
    let o = g.R.Ring.ops c.args.ring.now in
    let xs = c.args.denominators.now in
    let within : c.loop-k.k < length c.loop-k.products = omega (arith, c.loop-k.invariant.length) in
    record {
      value = product-more o xs c.loop-k.k c.loop-k.product c.mul-product.result c.loop-k.invariant.value (c.mul-product.ensures.value ∙ ap (o.times c.loop-k.product) (get_or_read_under xs c.loop-k.k (length xs) c.index-denominators-k.result o.zero c.index-denominators-k.is c.loop-k-test.true refl));
      products = products-more o xs c.loop-k.products c.set.new.self c.loop-k.k c.loop-k.product within c.loop-k.invariant.value c.set.ensures c.loop-k.invariant.products;
      length = ap length c.set.ensures ∙ simp length-set c.loop-k.invariant.length;
      at_most = omega (arith, c.loop-k.invariant.at_most, c.mul-product.ensures.at_most);
    }
