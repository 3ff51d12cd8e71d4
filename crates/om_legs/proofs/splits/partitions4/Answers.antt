use Rattle.std.proofs.Common.{◌^◌, ◌<◌, length, sym, subst}
use Rattle.om_legs.specs.Splits.{AreSplits}
use Rattle.om_legs.proofs.Few.{length-quadruples}
use Rattle.om_legs.proofs.Exact.{AreSplits-quadruples}
use Rattle.om_legs.proofs.splits.partitions4.Goals as goal

pub returns-clause-items : goal.returns-clause-items
returns-clause-items c = subst (λ set. AreSplits 4 set c.new.result) c.all.ensures (subst (AreSplits 4 c.all.result) (sym c.new.ensures.items) (AreSplits-quadruples c.all.result c.new.ensures.valid))

pub returns-clause-few : goal.returns-clause-few
returns-clause-few c = subst (λ items. length items < 2 ^ 36) (sym c.new.ensures.items) (length-quadruples c.all.result)
