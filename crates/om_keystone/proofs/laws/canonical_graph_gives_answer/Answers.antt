use Rattle.om_ring.specs.Ops.{laws_from}
use Rattle.om_keystone.proofs.GraphAnswer.{canonical_graph_gives_answer}
use Rattle.om_keystone.proofs.WavesExist.{nodes_have_waves}
use Rattle.om_keystone.proofs.laws.canonical_graph_gives_answer.Goals as goal

pub returns-clause-waves : goal.returns-clause-waves
returns-clause-waves g c = nodes_have_waves (g.R.Ring.ops c.args.ring.now)

pub returns-clause-answer : goal.returns-clause-answer
returns-clause-answer g c =
    let ring = c.args.ring.now in let o = g.R.Ring.ops ring in
    let l = laws_from (g.R.Ring.element ring) o (g.met.R.Ring.known ring) (g.met.R.Ring.laws ring) in
    canonical_graph_gives_answer o l
