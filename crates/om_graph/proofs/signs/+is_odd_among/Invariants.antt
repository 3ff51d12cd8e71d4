use Rattle.std.proofs.Common.{length}
use Rattle.om_graph.proofs.signs.+is_odd_among.Given as goal

abbrev pub decreases-is_odd_among : goal.decreases-is_odd_among
decreases-is_odd_among l = length l.slots.now
