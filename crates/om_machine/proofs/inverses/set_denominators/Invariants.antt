use Rattle.std.proofs.Common.{◌≡◌, ◌≤◌, ◌+◌, ◌*◌, [], length}
use Rattle.std.specs.Prelude.{IfSome}
use Rattle.om_machine.specs.Damping.{IsDamping}
use Rattle.om_machine.specs.Momenta.{AreDenominators, table_from}
use Rattle.om_machine.proofs.inverses.set_denominators.Given as goal

abbrev pub invariant-loop-k : goal.invariant-loop-k
invariant-loop-k g l = record {
  value : AreDenominators (g.R.Ring.ops l.ring) l.code (table_from (g.R.Ring.ops l.ring) [] l.masses) l.event l.k l.denominators;
  length : length l.denominators ≡ length l.code.dens;
  last : IfSome l.last (IsDamping (g.R.Ring.ops l.ring) l.masses);
  at_most : l.steps ≤ l.fn.steps + l.k * (13 * g.R.Ring.cost l.ring);
}
