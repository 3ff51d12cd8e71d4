-- The orders of flows and of partial flows.
use Rattle.std.specs.Ordering.{nat_cmp, ordering_then}
use Rattle.std.specs.Cmp.Lexicographic.{slice_cmp}
use Rattle.std.specs.declared.cmp.Ordering.{Ordering}
use Rattle.om_colour.specs.declared.Partial.{Partial}
use Rattle.om_colour.specs.declared.Flow.{Flow}

-- by the ends from leg 1 on
abbrev pub flow_order : Flow → Flow → Ordering
flow_order v w = slice_cmp nat_cmp v.ends w.ends

-- by the ends from leg 1 on, then by where a line that enters ends
abbrev pub partial_order : Partial → Partial → Ordering
partial_order p q = ordering_then (slice_cmp nat_cmp p.ends q.ends) (nat_cmp p.into q.into)
