use Rattle.std.proofs.Common.{◌^◌, ◌<◌, length, sym, subst}
use Rattle.om_legs.specs.Splits.{AreSplits}
use Rattle.om_legs.proofs.Few.{length-triples}
use Rattle.om_legs.proofs.Exact.{AreSplits-triples}
use Rattle.om_legs.proofs.splits.splits3.Goals as goal

pub returns-clause-items : goal.returns-clause-items
returns-clause-items c = subst (AreSplits 3 c.args.set) (sym c.new.ensures.items) (AreSplits-triples c.args.set c.new.ensures.valid)

pub returns-clause-few : goal.returns-clause-few
returns-clause-few c = subst (λ items. length items < 2 ^ 24) (sym c.new.ensures.items) (length-triples c.args.set)
