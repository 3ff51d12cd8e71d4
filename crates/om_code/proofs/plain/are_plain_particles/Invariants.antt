use Rattle.std.proofs.Common.{drop, ◌↔◌}
use Rattle.std.specs.List.{AllByRecursion}
use Rattle.om_code.proofs.plain.are_plain_particles.Given as goal
use Rattle.om_model.specs.Rules.{HasLengths}

-- whether all are plain is whether those that are left are
abbrev pub invariant-loop-particle : goal.invariant-loop-particle
invariant-loop-particle l = AllByRecursion HasLengths l.particles ↔ AllByRecursion HasLengths (drop l.particle-index l.particles)
