use Rattle.std.proofs.Common.{arith}
use Rattle.om_ring.proofs.NumeralValues.{AllDigits-take_more, digits_value_from-take_more}
use Rattle.om_event.proofs.digits.more_digits.Goals as goal

pub loop-len-preserved : goal.loop-len-preserved
loop-len-preserved c =
    let text = c.args.text.now in
    let len = c.loop-len.len in
    record {
      value_is = omega (arith, c.loop-len.invariant.value_is, c.from.ensures, digits_value_from-take_more c.args.first text len c.loop-len-test.true);
      all_digits = AllDigits-take_more text len c.loop-len-test.true c.loop-len.invariant.all_digits (omega arith, omega arith);
    }
