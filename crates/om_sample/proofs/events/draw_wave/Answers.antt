use Rattle.std.proofs.Common.{sym, ◌∙◌}
use Rattle.om_sample.proofs.Draws.{one_drawn}
use Rattle.om_sample.proofs.events.draw_wave.Goals as goal

pub returns-clause-state : goal.returns-clause-state
returns-clause-state g c = c.draw_element.ensures.state ∙ sym (one_drawn c.args.generator.now.state)
