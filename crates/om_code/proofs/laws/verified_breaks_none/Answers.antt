use Rattle.om_code.proofs.VerifiedFacts.{verified-breaks-none}
use Rattle.om_code.proofs.laws.verified_breaks_none.Goals as goal

pub returns : goal.returns
returns c = verified-breaks-none
