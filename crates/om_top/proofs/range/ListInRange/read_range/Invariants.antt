use Rattle.std.proofs.Common.{drop}
use Rattle.std.specs.List.{AllByRecursion}
use Rattle.om_top.proofs.range.ListInRange.read_range.Given as goal

-- all are, where those that are left are
abbrev pub invariant-loop-item : goal.invariant-loop-item
invariant-loop-item g l = AllByRecursion g.T.InRange.property (drop l.item-index l.self) → AllByRecursion g.T.InRange.property l.self
