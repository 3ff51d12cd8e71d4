use Rattle.om_top.proofs.CauseLemmas.{model_cause, process_cause, program_cause, size_cause}
use Rattle.om_top.proofs.Completeness.{events_cause, program_events_cause}
use Rattle.om_top.proofs.laws.refusals_have_causes.Goals as goal

pub returns-clause-model : goal.returns-clause-model
returns-clause-model g c = model_cause (g.R.Ring.ops c.args.ring.now) (g.R.Ring.text c.args.ring.now)

pub returns-clause-process : goal.returns-clause-process
returns-clause-process g c = process_cause (g.R.Ring.ops c.args.ring.now) (g.R.Ring.text c.args.ring.now)

pub returns-clause-size : goal.returns-clause-size
returns-clause-size g c = size_cause (g.R.Ring.ops c.args.ring.now) (g.R.Ring.text c.args.ring.now)

pub returns-clause-program : goal.returns-clause-program
returns-clause-program g c = program_cause (g.R.Ring.ops c.args.ring.now) (g.R.Ring.text c.args.ring.now)

pub returns-clause-eval : goal.returns-clause-eval
returns-clause-eval g c = events_cause (g.R.Ring.ops c.args.ring.now) (g.R.Ring.text c.args.ring.now)

pub returns-clause-run : goal.returns-clause-run
returns-clause-run g c = program_events_cause (g.R.Ring.ops c.args.ring.now) (g.R.Ring.text c.args.ring.now)
