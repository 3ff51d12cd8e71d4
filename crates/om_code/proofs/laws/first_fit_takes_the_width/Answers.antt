use Rattle.om_code.proofs.FirstFit.{first_fit-narrow}
use Rattle.om_code.proofs.laws.first_fit_takes_the_width.Goals as goal

pub returns : goal.returns
returns c = first_fit-narrow
