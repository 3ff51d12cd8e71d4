use Rattle.std.proofs.Common.{subst, sym}
use Rattle.om_colour.specs.Partials.{Closes}
use Rattle.om_colour.proofs.JoinedEnds.{closed-made}
use Rattle.om_colour.proofs.JoinedLines.{closed-lines}
use Rattle.om_colour.proofs.joining.close.Goals as goal

pub returns-clause-value : goal.returns-clause-value
returns-clause-value c = closed-made c.args.slots.now c.args.choice.now _ _ c.requires.choice.slots c.ends_beyond.ensures c.joined_ends.ensures

pub returns-clause-lines : goal.returns-clause-lines
returns-clause-lines c =
    let e = closed-made c.args.slots.now c.args.choice.now _ _ c.requires.choice.slots c.ends_beyond.ensures c.joined_ends.ensures in
    subst (Closes c.args.slots.now c.args.choice.now) (sym e) (closed-lines c.args.slots.now c.args.choice.now c.requires)
