use Rattle.std.proofs.Common.{arith}
use Rattle.om_event.proofs.EightDigits.{sum_fits, tens_fit, are_eight}
use Rattle.om_event.proofs.eights.joined.Goals as goal

pub overflow_add-values : goal.overflow_add-values
overflow_add-values c = let h = sum_fits c.args.values (omega (arith, c.ranges.values.fits)) c.if-values-ne0.false in omega (arith, h)

pub overflow_mul-pairs : goal.overflow_mul-pairs
overflow_mul-pairs c = let h = tens_fit c.args.values (omega (arith, c.ranges.values.fits)) c.if-values-ne0.false c.if-values-ne0-2.false in omega (arith, h)

pub overflow_add-pairs : goal.overflow_add-pairs
overflow_add-pairs c = let h = tens_fit c.args.values (omega (arith, c.ranges.values.fits)) c.if-values-ne0.false c.if-values-ne0-2.false in omega (arith, h)

pub returns : goal.returns
returns c = record { eight = are_eight c.args.values (omega (arith, c.ranges.values.fits)) c.if-values-ne0.false c.if-values-ne0-2.false }
