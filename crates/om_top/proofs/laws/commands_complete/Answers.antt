use Rattle.om_top.proofs.Completeness.{check_is_complete, eval_is_complete, run_is_complete, sample_is_complete, write_is_complete}
use Rattle.om_top.proofs.laws.commands_complete.Goals as goal

pub returns-clause-eval : goal.returns-clause-eval
returns-clause-eval g c = eval_is_complete (g.R.Ring.ops c.args.ring.now) (g.R.Ring.text c.args.ring.now)

pub returns-clause-run : goal.returns-clause-run
returns-clause-run g c = run_is_complete (g.R.Ring.ops c.args.ring.now) (g.R.Ring.text c.args.ring.now)

pub returns-clause-check : goal.returns-clause-check
returns-clause-check g c = check_is_complete (g.R.Ring.ops c.args.ring.now) (g.R.Ring.text c.args.ring.now)

pub returns-clause-write : goal.returns-clause-write
returns-clause-write g c = write_is_complete (g.R.Ring.ops c.args.ring.now) (g.R.Ring.text c.args.ring.now)

pub returns-clause-sample : goal.returns-clause-sample
returns-clause-sample g c = sample_is_complete (g.R.Ring.ops c.args.ring.now) (g.R.Ring.text c.args.ring.now)
