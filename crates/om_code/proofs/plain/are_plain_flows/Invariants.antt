use Rattle.std.proofs.Common.{drop, ◌↔◌}
use Rattle.std.specs.List.{AllByRecursion}
use Rattle.om_code.specs.Plain.{IsPlainFlow}
use Rattle.om_code.proofs.plain.are_plain_flows.Given as goal

-- whether all are plain is whether those that are left are
abbrev pub invariant-loop-flow : goal.invariant-loop-flow
invariant-loop-flow l = AllByRecursion IsPlainFlow l.flows ↔ AllByRecursion IsPlainFlow (drop l.flow-index l.flows)
