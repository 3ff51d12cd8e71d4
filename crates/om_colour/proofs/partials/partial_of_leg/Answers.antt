use Rattle.std.proofs.Common.{subst, sym, Some}
use Rattle.om_colour.specs.Lines.Side.{leg}
use Rattle.om_colour.specs.Partials.{IsPartialOf, IsSound}
use Rattle.om_colour.proofs.LegPartials.{leg_partial-made, leg-lines, leg-sound}
use Rattle.om_colour.proofs.partials.partial_of_leg.Goals as goal

pub returns-clause-lines : goal.returns-clause-lines
returns-clause-lines c =
    let e = leg_partial-made c.args.leg c.args.colour _ _ c.ends_from.ensures c.end_within.ensures in
    subst (λ p. IsPartialOf (leg c.args.leg c.args.colour) (Some p)) (sym e) (leg-lines c.args.leg c.args.colour c.requires.least c.requires.most)

pub returns-clause-sound : goal.returns-clause-sound
returns-clause-sound c =
    let e = leg_partial-made c.args.leg c.args.colour _ _ c.ends_from.ensures c.end_within.ensures in
    subst (λ p. IsSound (Some p)) (sym e) (leg-sound c.args.leg c.args.colour c.requires.least c.requires.most)
