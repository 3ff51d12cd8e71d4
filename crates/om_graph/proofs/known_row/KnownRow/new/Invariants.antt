use Rattle.std.proofs.Common.{◌≡◌, length}
use Rattle.om_graph.specs.Reactions.{AreChoices}
use Rattle.om_graph.proofs.known_row.KnownRow.new.Given as goal

abbrev pub invariant-loop-k : goal.invariant-loop-k
invariant-loop-k l = (length l.choices.items ≡ l.k) × AreChoices l.row l.choices.items
