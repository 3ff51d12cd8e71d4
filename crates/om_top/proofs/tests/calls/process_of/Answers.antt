use Rattle.std.proofs.Common.{arith}
use Rattle.om_ring.specs.ZpOps.{zp}
use Rattle.om_top.proofs.Files.{few_particles}
use Rattle.om_top.proofs.tests.calls.process_of.Goals as goal

pub read_process-requires-clause-rows : goal.read_process-requires-clause-rows
read_process-requires-clause-rows c = omega (arith, few_particles zp c.args.model.now c.requires.accepted)
