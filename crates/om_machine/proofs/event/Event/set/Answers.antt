use Rattle.std.proofs.Common.{◌-◌}
use Rattle.om_machine.proofs.EventWaves.{still-made}
use Rattle.om_machine.proofs.event.Event.set.Goals as goal

pub returns-clause-made : goal.returns-clause-made
returns-clause-made g c = λ code made.
    still-made code c.self.inside.momenta c.set.new.self c.self.inside.waves c.set-2.new.self c.args.self.now (c.args.leg - 1) c.args.momentum c.args.wave c.self.view_is c.set.ensures c.set-2.ensures c.requires.kind made
