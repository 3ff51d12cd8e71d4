use Rattle.std.proofs.Common.{rules}
use Rattle.om_graph.proofs.FlowWords.{words_back}
use Rattle.om_graph.proofs.lines.words_of.Goals as goal

pub returns : goal.returns
returns c = words_back c.args.ends (search rules) (search rules) _ _ c.from_le_bytes-low.ensures c.from_le_bytes-high.ensures
