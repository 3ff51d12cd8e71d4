use Rattle.std.proofs.Common.{◌≡◌, ◌≤◌, ◌+◌, ◌*◌, length}
use Rattle.om_machine.specs.Momenta.{AreProducts, product_before}
use Rattle.om_machine.proofs.inverses.set_products.Given as goal

abbrev pub invariant-loop-k : goal.invariant-loop-k
invariant-loop-k g l = record {
  value : l.product ≡ product_before (g.R.Ring.ops l.ring) l.denominators l.k;
  products : AreProducts (g.R.Ring.ops l.ring) l.denominators l.k l.products;
  length : length l.products ≡ length l.denominators;
  at_most : l.steps ≤ l.fn.steps + l.k * g.R.Ring.cost l.ring;
}
