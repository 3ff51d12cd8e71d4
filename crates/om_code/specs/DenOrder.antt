-- The order of denominators.
use Rattle.std.specs.Ordering.{nat_cmp, ordering_then}
use Rattle.std.specs.declared.cmp.Ordering.{Ordering}
use Rattle.om_code.specs.declared.code.Den.{Den}

-- by the set of legs as a number, then by the field
abbrev pub den_order : Den → Den → Ordering
den_order a b = ordering_then (nat_cmp a.legs b.legs) (nat_cmp a.field b.field)
