use Rattle.std.proofs.Common.{◌≡◌, ◌≤◌, ◌+◌, ◌-◌, ◌*◌, [], length}
use Rattle.om_machine.specs.Momenta.{AreProducts, product_before, table_from}
use Rattle.om_machine.proofs.Inverting.{AreEdgesFrom}
use Rattle.om_machine.proofs.inverses.set_factors.Given as goal

abbrev pub invariant-loop-done : goal.invariant-loop-done
invariant-loop-done g l =
    let o = g.R.Ring.ops l.ring in
    let n = length l.code.dens - l.done in
    record {
      value : AreEdgesFrom o l.code (table_from o [] l.masses) l.event n l.edges;
      products : AreProducts o l.denominators n l.edges;
      inverse : o.times (product_before o l.denominators n) l.left ≡ o.one;
      length : length l.edges ≡ length l.code.dens;
      at_most : l.steps ≤ l.fn.steps + l.done * (3 * g.R.Ring.cost l.ring);
    }
