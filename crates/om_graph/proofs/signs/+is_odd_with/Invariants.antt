use Rattle.std.proofs.Common.{length}
use Rattle.om_graph.proofs.signs.+is_odd_with.Given as goal

abbrev pub decreases-is_odd_with : goal.decreases-is_odd_with
decreases-is_odd_with l = length l.slots.now
