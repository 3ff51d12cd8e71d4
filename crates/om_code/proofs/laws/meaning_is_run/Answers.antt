use Rattle.om_code.proofs.ContentRuns.{meaning_is_run}
use Rattle.om_code.proofs.laws.meaning_is_run.Goals as goal

pub returns : goal.returns
returns g c = meaning_is_run (g.R.Ring.ops c.args.ring.now)
