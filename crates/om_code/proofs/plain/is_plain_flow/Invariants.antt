use Rattle.std.proofs.Common.{◌≤◌, drop, ◌↔◌}
use Rattle.std.specs.List.{AllByRecursion}
use Rattle.om_legs.specs.declared.leg_set.TheConstants.{MOST_LEGS}
use Rattle.om_code.proofs.plain.is_plain_flow.Given as goal

-- whether all are plain is whether those that are left are
abbrev pub invariant-loop-end : goal.invariant-loop-end
invariant-loop-end l = AllByRecursion (λ e. e ≤ MOST_LEGS) l.flow.ends ↔ AllByRecursion (λ e. e ≤ MOST_LEGS) (drop l.end-index l.flow.ends)
