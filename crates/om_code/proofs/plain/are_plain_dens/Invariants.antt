use Rattle.std.proofs.Common.{drop, ◌↔◌}
use Rattle.std.specs.List.{AllByRecursion}
use Rattle.om_code.specs.Plain.{IsPlainDen}
use Rattle.om_code.proofs.plain.are_plain_dens.Given as goal

-- whether all are plain is whether those that are left are
abbrev pub invariant-loop-den : goal.invariant-loop-den
invariant-loop-den l = AllByRecursion (IsPlainDen l.particles) l.dens ↔ AllByRecursion (IsPlainDen l.particles) (drop l.den-index l.dens)
