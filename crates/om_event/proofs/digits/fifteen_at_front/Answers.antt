use Rattle.std.proofs.Common.{arith}
use Rattle.std.proofs.lemmas.Nat.{mul-le}
use Rattle.om_event.proofs.SevenDigits.{fifteen_value}
use Rattle.om_event.proofs.digits.fifteen_at_front.Goals as goal

pub overflow_add-result : goal.overflow_add-result
overflow_add-result c =
    let most = mul-le c.in-Some.first c.in_ok-ten_to.field-0 100000000 10000000 (omega (arith, c.in-Some.ensures.below)) c.in_ok-ten_to.ensures.1 in
    omega (arith, most, c.in_ok-second.ensures.below)

pub returns-clause-value : goal.returns-clause-value
returns-clause-value c =
    let second = c.in_ok-second.ensures in
    fifteen_value c.args.text.now c.in-Some.first c.in_ok-ten_to.field-0 c.in_ok-second.second.value c.in_ok-second.second.len c.in-Some.ensures.value c.in_ok-ten_to.ensures.0 second.value second.within.0 second.within.1
