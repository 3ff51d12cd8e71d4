use Rattle.om_sample.proofs.Draws.{four_drawn, four_states}
use Rattle.om_sample.proofs.events.draw_momentum.Goals as goal

pub returns-clause-value : goal.returns-clause-value
returns-clause-value g c =
    four_drawn (g.R.Ring.ops c.args.ring.now) c.args.generator.now.state c.draw_element.new.self.state c.draw_element-2.new.self.state c.draw_element-3.new.self.state c.draw_element.ensures.state c.draw_element-2.ensures.state c.draw_element-3.ensures.state c.draw_element.result c.draw_element-2.result c.draw_element-3.result c.draw_element-4.result c.draw_element.ensures.value c.draw_element-2.ensures.value c.draw_element-3.ensures.value c.draw_element-4.ensures.value

pub returns-clause-state : goal.returns-clause-state
returns-clause-state g c =
    four_states c.args.generator.now.state c.draw_element.new.self.state c.draw_element-2.new.self.state c.draw_element-3.new.self.state c.draw_element-4.new.self.state c.draw_element.ensures.state c.draw_element-2.ensures.state c.draw_element-3.ensures.state c.draw_element-4.ensures.state
