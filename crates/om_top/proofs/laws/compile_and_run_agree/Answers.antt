use Rattle.om_ring.specs.Ops.{laws_from}
use Rattle.om_top.proofs.AgreeFiles.{file_agrees}
use Rattle.om_top.proofs.AgreeLength.{text_is_a_program}
use Rattle.om_top.proofs.AgreeStreams.{compiled_agree}
use Rattle.om_top.proofs.laws.compile_and_run_agree.Goals as goal

pub returns-clause-program : goal.returns-clause-program
returns-clause-program g c = text_is_a_program (g.R.Ring.ops c.args.ring.now)

pub returns-clause-owed : goal.returns-clause-owed
returns-clause-owed g c =
    let ring = c.args.ring.now in let o = g.R.Ring.ops ring in
    compiled_agree o (laws_from (g.R.Ring.element ring) o (g.met.R.Ring.known ring) (g.met.R.Ring.laws ring))

pub returns-clause-run : goal.returns-clause-run
returns-clause-run g c =
    let ring = c.args.ring.now in let o = g.R.Ring.ops ring in
    file_agrees o (laws_from (g.R.Ring.element ring) o (g.met.R.Ring.known ring) (g.met.R.Ring.laws ring))
