use Rattle.om_keystone.proofs.TermSigns.{signs_of_terms_multiply}
use Rattle.om_keystone.proofs.laws.signs_of_terms_multiply.Goals as goal

pub returns : goal.returns
returns c = signs_of_terms_multiply
