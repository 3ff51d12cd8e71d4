use Rattle.om_keystone.proofs.BuiltGraph.{canonical_is_built}
use Rattle.om_keystone.proofs.laws.canonical_is_built.Goals as goal

pub returns : goal.returns
returns c = canonical_is_built
