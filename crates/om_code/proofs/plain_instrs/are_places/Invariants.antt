use Rattle.std.proofs.Common.{drop, ◌↔◌}
use Rattle.std.specs.List.{AllByRecursion}
use Rattle.om_code.specs.Plain.{IsPlace}
use Rattle.om_code.proofs.plain_instrs.are_places.Given as goal

-- whether all are plain is whether those that are left are
abbrev pub invariant-loop-node : goal.invariant-loop-node
invariant-loop-node l = AllByRecursion IsPlace l.nodes ↔ AllByRecursion IsPlace (drop l.node-index l.nodes)
