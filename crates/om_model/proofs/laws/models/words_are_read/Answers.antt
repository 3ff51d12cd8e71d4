use Rattle.om_model.proofs.WordLaws.{words_are_read}
use Rattle.om_model.proofs.laws.models.words_are_read.Goals as goal

pub returns : goal.returns
returns c = words_are_read
