use Rattle.om_sample.proofs.ByCode.{samples_by_code}
use Rattle.om_sample.proofs.laws.samples_by_code.Goals as goal

pub returns : goal.returns
returns g c = samples_by_code (g.R.Ring.ops c.args.ring.now)
