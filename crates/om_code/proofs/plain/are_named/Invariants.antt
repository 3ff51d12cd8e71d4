use Rattle.std.proofs.Common.{drop, ◌↔◌}
use Rattle.std.specs.List.{AllByRecursion}
use Rattle.om_code.specs.Plain.{IsNamed}
use Rattle.om_code.proofs.plain.are_named.Given as goal

-- whether all are plain is whether those that are left are
abbrev pub invariant-loop-field : goal.invariant-loop-field
invariant-loop-field l = AllByRecursion (IsNamed l.particles) l.fields ↔ AllByRecursion (IsNamed l.particles) (drop l.field-index l.fields)
