use Rattle.om_keystone.proofs.NodeNames.{nodes_have_names}
use Rattle.om_keystone.proofs.laws.nodes_have_names.Goals as goal

pub returns : goal.returns
returns c = nodes_have_names
