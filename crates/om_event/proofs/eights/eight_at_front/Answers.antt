use Rattle.om_event.proofs.EightDigits.{eight_read}
use Rattle.om_event.proofs.eights.eight_at_front.Goals as goal

pub returns-clause-digits : goal.returns-clause-digits
returns-clause-digits c = (eight_read c.args.text.now c.type_inv.text c.in_ok-word.word c.in_ok-number.number c.in_ok-word.ensures.within c.in_ok-word.ensures.word c.in_ok-number.ensures.eight).0

pub returns-clause-value : goal.returns-clause-value
returns-clause-value c = (eight_read c.args.text.now c.type_inv.text c.in_ok-word.word c.in_ok-number.number c.in_ok-word.ensures.within c.in_ok-word.ensures.word c.in_ok-number.ensures.eight).1

pub returns-clause-below : goal.returns-clause-below
returns-clause-below c = (eight_read c.args.text.now c.type_inv.text c.in_ok-word.word c.in_ok-number.number c.in_ok-word.ensures.within c.in_ok-word.ensures.word c.in_ok-number.ensures.eight).2
