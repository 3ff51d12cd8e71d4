use Rattle.std.proofs.Common.{◌≡◌, ℕ, ◌+◌, ◌*◌, ◌≤◌, ◌<◌, Some}
use Rattle.std.specs.Prelude.{slice_get}
use Rattle.om_model.specs.declared.model.Particle.{Particle}
use Rattle.om_model.specs.Rules.{HasNoInverse}
use Rattle.om_machine.specs.Rows.{HaveMasses}
use Rattle.om_machine.proofs.rows.load_masses.Given as goal

abbrev pub invariant-loop-k : goal.invariant-loop-k
invariant-loop-k g l = let o = g.R.Ring.ops l.ring in record {
  rows : HaveMasses o l.code.model.particles l.k l.masses;
  before : (j : ℕ) (p : Particle) → j < l.k → slice_get l.code.model.particles j ≡ Some p → HasNoInverse o p → ⊥;
  spent : l.steps ≤ l.fn.steps + l.k * (200 * g.R.Ring.cost l.ring);
}
