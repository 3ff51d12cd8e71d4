use Rattle.std.proofs.Common.{◌≡◌, take}
use Rattle.om_model.proofs.model.Model.copy.Given as goal

abbrev pub invariant-loop-particle : goal.invariant-loop-particle
invariant-loop-particle l = l.particles ≡ take l.particle-index l.particle-items

abbrev pub invariant-loop-vertex : goal.invariant-loop-vertex
invariant-loop-vertex l = l.vertices ≡ take l.vertex-index l.vertex-items
