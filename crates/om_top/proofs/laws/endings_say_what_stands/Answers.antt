use Rattle.om_top.proofs.CauseLemmas.{quiet_endings}
use Rattle.om_top.proofs.OutsideFaults.{faults_have_causes}
use Rattle.om_top.proofs.Statuses.{command_endings}
use Rattle.om_top.proofs.laws.endings_say_what_stands.Goals as goal

pub returns-clause-faults : goal.returns-clause-faults
returns-clause-faults g c = faults_have_causes (g.R.Ring.ops c.args.ring.now) (g.R.Ring.text c.args.ring.now)

pub returns-clause-quiet : goal.returns-clause-quiet
returns-clause-quiet g c = quiet_endings (g.R.Ring.ops c.args.ring.now) (g.R.Ring.text c.args.ring.now)

pub returns-clause-statuses : goal.returns-clause-statuses
returns-clause-statuses g c = command_endings (g.R.Ring.ops c.args.ring.now) (g.R.Ring.text c.args.ring.now)
