use Rattle.std.proofs.Common.{◌≡◌, map, take}
use Rattle.om_graph.specs.Words.{lines_of_key}
use Rattle.om_graph.proofs.linked.Linked.new.Given as goal

abbrev pub invariant-loop-key : goal.invariant-loop-key
invariant-loop-key l = l.lines.items ≡ map lines_of_key (take l.key-index l.nodes)
