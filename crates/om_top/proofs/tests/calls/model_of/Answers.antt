use Rattle.om_ring.specs.ZpOps.{zp}
use Rattle.om_top.proofs.Files.{formed}
use Rattle.om_top.proofs.tests.calls.model_of.Goals as goal

pub returns-in-Ok-clause-formed : goal.returns-in-Ok-clause-formed
returns-in-Ok-clause-formed c = formed zp c.in-Ok.model c.in-Ok.ensures.model.1
