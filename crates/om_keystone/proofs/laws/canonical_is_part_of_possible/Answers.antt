use Rattle.om_keystone.proofs.PartOfPossible.{canonical_is_part_of_possible}
use Rattle.om_keystone.proofs.laws.canonical_is_part_of_possible.Goals as goal

pub returns : goal.returns
returns c = canonical_is_part_of_possible
