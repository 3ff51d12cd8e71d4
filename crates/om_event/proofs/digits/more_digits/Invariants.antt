use Rattle.std.proofs.Common.{◌≡◌, take}
use Rattle.om_ring.specs.Numerals.{AllDigits, digits_value_from}
use Rattle.om_event.proofs.digits.more_digits.Given as goal

abbrev pub invariant-loop-len : goal.invariant-loop-len
invariant-loop-len l = record {
  value_is : l.value ≡ digits_value_from l.first (take l.len l.text);
  all_digits : AllDigits (take l.len l.text);
}
