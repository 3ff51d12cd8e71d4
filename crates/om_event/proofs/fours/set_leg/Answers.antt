use Rattle.std.proofs.Common.{◌∙◌, ap}
use Rattle.om_kernel.specs.Waves.{kind_of}
use Rattle.om_event.proofs.fours.set_leg.Goals as goal

pub set-requires-clause-kind : goal.set-requires-clause-kind
set-requires-clause-kind g c = (c.requires.kind.0, c.requires.kind.1, ap kind_of c.wave_of-wave.ensures ∙ c.requires.kind.2)
