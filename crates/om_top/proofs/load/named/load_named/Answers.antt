use Rattle.std.proofs.Common.{arith}
use Rattle.om_top.proofs.Files.{few_particles, formed}
use Rattle.om_top.proofs.load.named.load_named.Goals as goal

pub load_process-requires-clause-rows : goal.load_process-requires-clause-rows
load_process-requires-clause-rows g c = omega (arith, few_particles (g.R.Ring.ops c.args.ring.now) c.in-Ok.model c.in-Ok.ensures.model.2.says.1)

pub load_graph-requires-clause-accepted : goal.load_graph-requires-clause-accepted
load_graph-requires-clause-accepted g c = formed (g.R.Ring.ops c.args.ring.now) c.in-Ok.model c.in-Ok.ensures.model.2.says.1
