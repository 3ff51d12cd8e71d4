use Rattle.std.proofs.Common.{◌∙◌, ap}
use Rattle.om_legs.specs.Legs.{minus}
use Rattle.om_legs.proofs.Operations.{complement-minus}
use Rattle.om_legs.proofs.leg_set.LegSet.complement.Goals as goal

pub returns-clause-legs : goal.returns-clause-legs
returns-clause-legs c = c.minus.ensures.legs ∙ ap (λ every. minus every c.args.self) c.all.ensures ∙ complement-minus c.args.self c.args.n c.requires.within
