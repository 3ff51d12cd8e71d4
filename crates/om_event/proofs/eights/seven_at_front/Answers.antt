use Rattle.std.proofs.Common.{arith}
use Rattle.om_event.proofs.SevenDigits.{seven_read}
use Rattle.om_event.proofs.eights.seven_at_front.Goals as goal

pub returns-clause-digits : goal.returns-clause-digits
returns-clause-digits c = (seven_read c.args.text.now c.type_inv.text c.in_ok-word.word c.in_ok-value.value c.digit_count-count.result c.in_ok-word.ensures.within c.in_ok-word.ensures.word (omega (arith, c.if-count-gt7.false)) c.in_ok-value.ensures.eight).0

pub returns-clause-value : goal.returns-clause-value
returns-clause-value c = (seven_read c.args.text.now c.type_inv.text c.in_ok-word.word c.in_ok-value.value c.digit_count-count.result c.in_ok-word.ensures.within c.in_ok-word.ensures.word (omega (arith, c.if-count-gt7.false)) c.in_ok-value.ensures.eight).1

pub returns-clause-below : goal.returns-clause-below
returns-clause-below c = (seven_read c.args.text.now c.type_inv.text c.in_ok-word.word c.in_ok-value.value c.digit_count-count.result c.in_ok-word.ensures.within c.in_ok-word.ensures.word (omega (arith, c.if-count-gt7.false)) c.in_ok-value.ensures.eight).2
