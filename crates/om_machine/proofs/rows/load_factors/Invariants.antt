use Rattle.std.proofs.Common.{◌≡◌, ℕ, ◌+◌, ◌*◌, ◌≤◌, ◌<◌, Some}
use Rattle.std.specs.Prelude.{slice_get}
use Rattle.om_model.specs.declared.model.Vertex.{Vertex}
use Rattle.om_model.specs.Rules.{HasFactorWithoutValue}
use Rattle.om_machine.specs.Rows.{HaveFactors}
use Rattle.om_machine.proofs.rows.load_factors.Given as goal

abbrev pub invariant-loop-k : goal.invariant-loop-k
invariant-loop-k g l = let o = g.R.Ring.ops l.ring in record {
  rows : HaveFactors o l.code.model.vertices l.k l.factors;
  before : (j : ℕ) (p : Vertex) → j < l.k → slice_get l.code.model.vertices j ≡ Some p → HasFactorWithoutValue o p.factors → ⊥;
  spent : l.steps ≤ l.fn.steps + l.k * (200 * g.R.Ring.cost l.ring);
}
