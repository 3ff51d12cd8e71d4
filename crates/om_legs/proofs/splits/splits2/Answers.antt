use Rattle.std.proofs.Common.{◌^◌, ◌<◌, length, sym, subst}
use Rattle.om_legs.specs.Splits.{AreSplits}
use Rattle.om_legs.proofs.Few.{length-pairs}
use Rattle.om_legs.proofs.Exact.{AreSplits-pairs}
use Rattle.om_legs.proofs.splits.splits2.Goals as goal

pub returns-clause-items : goal.returns-clause-items
returns-clause-items c = subst (AreSplits 2 c.args.set) (sym c.new.ensures.items) (AreSplits-pairs c.args.set c.new.ensures.valid)

pub returns-clause-few : goal.returns-clause-few
returns-clause-few c = subst (λ items. length items < 2 ^ 12) (sym c.new.ensures.items) (length-pairs c.args.set)
