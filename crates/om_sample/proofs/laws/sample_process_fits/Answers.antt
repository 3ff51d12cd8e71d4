use Rattle.om_sample.proofs.Process.{process_fits}
use Rattle.om_sample.proofs.laws.sample_process_fits.Goals as goal

pub returns : goal.returns
returns c = process_fits
