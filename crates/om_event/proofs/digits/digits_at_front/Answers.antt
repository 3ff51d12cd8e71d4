use Rattle.std.proofs.Common.{◌∙◌, ◌-◌, ap, sym, subst, take, drop, length}
use Rattle.om_ring.specs.Numerals.{AllDigits, digits_value, digits_value_from}
use Rattle.om_event.proofs.LeadingNumbers.{digits_more, rest_of, value_more}
use Rattle.om_event.proofs.digits.digits_at_front.Goals as goal

pub returns-clause-digits : goal.returns-clause-digits
returns-clause-digits c =
    let text = c.args.text.now in
    let front = c.eights_at_front-front.result.len in
    let more = c.in_ok-more.more.len in
    digits_more text front more c.eights_at_front-front.ensures.digits (subst (λ t. AllDigits (take more t)) (rest_of text front) c.in_ok-more.ensures.digits)

pub returns-clause-value : goal.returns-clause-value
returns-clause-value c =
    let text = c.args.text.now in
    let front = c.eights_at_front-front.result.len in
    let more = c.in_ok-more.more.len in
    c.in_ok-more.ensures.value ∙ ap (λ n. digits_value_from n (take more (take (length text - front) (drop front text)))) c.eights_at_front-front.ensures.value
    ∙ ap (λ t. digits_value_from (digits_value (take front text)) (take more t)) (rest_of text front) ∙ sym (value_more text front more)
