use Rattle.om_graph.proofs.ColoursFit.{nodes_join, nodes_close}
use Rattle.om_graph.proofs.laws.colours_fit.Goals as goal

pub returns-clause-join : goal.returns-clause-join
returns-clause-join c = nodes_join

pub returns-clause-close : goal.returns-clause-close
returns-clause-close c = nodes_close
