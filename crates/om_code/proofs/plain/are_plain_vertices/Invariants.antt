use Rattle.std.proofs.Common.{drop, ◌↔◌}
use Rattle.std.specs.List.{AllByRecursion}
use Rattle.om_code.specs.Plain.{IsPlainVertex}
use Rattle.om_code.proofs.plain.are_plain_vertices.Given as goal

-- whether all are plain is whether those that are left are
abbrev pub invariant-loop-vertex : goal.invariant-loop-vertex
invariant-loop-vertex l = AllByRecursion (IsPlainVertex l.particles) l.vertices ↔ AllByRecursion (IsPlainVertex l.particles) (drop l.vertex-index l.vertices)
