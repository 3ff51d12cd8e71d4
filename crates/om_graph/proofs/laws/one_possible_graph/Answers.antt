use Rattle.om_graph.proofs.OnePossible.{one_possible}
use Rattle.om_graph.proofs.laws.one_possible_graph.Goals as goal

pub returns : goal.returns
returns c = one_possible
