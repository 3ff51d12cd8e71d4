use Rattle.std.proofs.Common.{arith, lit<, lit≤, refl}
use Rattle.om_colour.proofs.joining.joined_ends.Goals as goal

pub bounds-beyond-choice-4 : goal.bounds-beyond-choice-4
bounds-beyond-choice-4 c = omega (arith, c.requires 1 (lit< tt, lit≤ tt))

pub returns : goal.returns
returns c = rw (c.ends_with.ensures, c.ends_with-second.ensures, c.ends_with-third.ensures, c.ends_with-fourth.ensures) refl
