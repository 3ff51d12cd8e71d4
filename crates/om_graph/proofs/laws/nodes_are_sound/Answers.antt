use Rattle.om_graph.proofs.KeysOfSides.{nodes_are_sound}
use Rattle.om_graph.proofs.laws.nodes_are_sound.Goals as goal

pub returns : goal.returns
returns c = nodes_are_sound
