use Rattle.std.proofs.Common.{rules, ◌≡◌, ◌^◌, Some, arith}
use Rattle.om_ring.specs.Spelt.{decimal_below}
use Rattle.om_ring.proofs.SpeltLemmas.{decimal_past}
use Rattle.om_ring.proofs.numeral.decimal.read_decimal_below.Goals as goal

pub returns-else-number-limit-clause-value : goal.returns-else-number-limit-clause-value
returns-else-number-limit-clause-value c =
    let number = c.in_ok-number.number in
    let read : Some number ≡ decimal_below (2 ^ 64) c.args.text.now = search rules in
    decimal_past number c.args.limit c.args.text.now read (omega (arith, c.if-number-limit.false))
