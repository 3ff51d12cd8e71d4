use Rattle.om_code.proofs.DenOrder.{dens-by-numbers}
use Rattle.om_code.proofs.laws.dens_by_numbers.Goals as goal

pub returns : goal.returns
returns c = dens-by-numbers
