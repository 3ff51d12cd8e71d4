use Rattle.std.proofs.Common.{◌≡◌, ◌∙◌, ◌-◌, ap, sym, subst, take, drop, length, get_or, arith}
use Rattle.std.proofs.lemmas.List.{get_or-drop}
use Rattle.om_ring.specs.Numerals.{AllDigits, digits_value, digits_value_from}
use Rattle.om_event.proofs.LeadingNumbers.{digits_more, rest_of, value_more}
use Rattle.om_event.proofs.digits.digits_before.Goals as goal

pub returns-clause-digits : goal.returns-clause-digits
returns-clause-digits c =
    let text = c.args.text.now in
    let few = c.in_ok-few-2.few.len in
    let front = c.eights_at_front-front in
    let sixteen : front.result.len ≡ 16 = omega (arith, front.ensures.few, c.if-front-lt16.false) in
    digits_more text 16 few (subst (λ n. AllDigits (take n text)) sixteen front.ensures.digits) (subst (λ t. AllDigits (take few t)) (rest_of text 16) c.in_ok-few-2.ensures.digits)

pub returns-clause-value : goal.returns-clause-value
returns-clause-value c =
    let text = c.args.text.now in
    let few = c.in_ok-few-2.few.len in
    let front = c.eights_at_front-front in
    let sixteen : front.result.len ≡ 16 = omega (arith, front.ensures.few, c.if-front-lt16.false) in
    c.in_ok-few-2.ensures.value ∙ ap (λ n. digits_value_from n (take few (take (length text - 16) (drop 16 text)))) (front.ensures.value ∙ ap (λ n. digits_value (take n text)) sixteen)
    ∙ ap (λ t. digits_value_from (digits_value (take 16 text)) (take few t)) (rest_of text 16) ∙ sym (value_more text 16 few)

pub returns-clause-stop : goal.returns-clause-stop
returns-clause-stop c =
    let text = c.args.text.now in
    let few = c.in_ok-few-2.few.len in
    sym (get_or-drop 16 text few 0) ∙ ap (λ t. get_or t few 0) (sym (rest_of text 16)) ∙ c.in_ok-few-2.ensures.stop
