use Rattle.om_graph.proofs.KeysOfSides.{sides_have_keys}
use Rattle.om_graph.proofs.laws.sides_have_keys.Goals as goal

pub returns : goal.returns
returns c = sides_have_keys
