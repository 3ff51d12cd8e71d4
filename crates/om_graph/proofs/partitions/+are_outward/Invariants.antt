use Rattle.std.proofs.Common.{length}
use Rattle.om_graph.proofs.partitions.+are_outward.Given as goal

abbrev pub decreases-are_outward : goal.decreases-are_outward
decreases-are_outward l = length l.parts.now
