use Rattle.std.proofs.Common.{subst, sym, refl}
use Rattle.om_colour.specs.Partials.{Joins, FitsOnwards}
use Rattle.om_colour.proofs.JoinedEnds.{joined-made}
use Rattle.om_colour.proofs.JoinedLines.{joined-lines}
use Rattle.om_colour.proofs.JoinedAgain.{joined-onwards}
use Rattle.om_colour.proofs.joining.join.Goals as goal

pub returns-clause-value : goal.returns-clause-value
returns-clause-value c = joined-made c.args.slots.now c.args.choice.now c.args.hole _ _ _ c.requires.hole c.requires.fit.choice.slots c.ends_beyond-beyond.ensures c.joined_ends.ensures refl

pub returns-clause-lines : goal.returns-clause-lines
returns-clause-lines c =
    let e = joined-made c.args.slots.now c.args.choice.now c.args.hole _ _ _ c.requires.hole c.requires.fit.choice.slots c.ends_beyond-beyond.ensures c.joined_ends.ensures refl in
    subst (Joins c.args.slots.now c.args.choice.now c.args.hole) (sym e) (joined-lines c.args.slots.now c.args.choice.now c.args.hole c.requires.free c.requires.fit c.requires.hole)

pub returns-clause-onwards : goal.returns-clause-onwards
returns-clause-onwards c =
    let e = joined-made c.args.slots.now c.args.choice.now c.args.hole _ _ _ c.requires.hole c.requires.fit.choice.slots c.ends_beyond-beyond.ensures c.joined_ends.ensures refl in
    subst (FitsOnwards c.args.slots.now c.args.choice.now c.args.hole) (sym e) (joined-onwards c.args.slots.now c.args.choice.now c.args.hole c.requires.free c.requires.fit c.requires.hole)
