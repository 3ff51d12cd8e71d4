use Rattle.std.proofs.Common.{◌≡◌, ℕ, ◌+◌, ◌<◌, length, true, get_or}
use Rattle.om_graph.specs.declared.KeyTerm.{KeyTerm}
use Rattle.om_graph.specs.Graph.{numbered_lt}
use Rattle.om_graph.specs.Possible.{unsigned_key}
use Rattle.om_graph.proofs.key_order.are_rising.Given as goal

abbrev pub invariant-loop-k : goal.invariant-loop-k
invariant-loop-k l = (j : ℕ) (d : KeyTerm) → j + 1 < l.k → j + 1 < length l.keys → numbered_lt (unsigned_key (get_or l.keys j d)) (unsigned_key (get_or l.keys (j + 1) d)) ≡ true
