use Rattle.std.proofs.Common.{◌/◌, ap, sym, ◌∙◌}
use Rattle.om_sample.specs.declared.limits.TheConstants.{DRAW_UNIT}
use Rattle.om_sample.proofs.Draws.{first_draw, wrapped}
use Rattle.om_sample.proofs.generator.Generator.draw.Goals as goal

pub returns-clause-value : goal.returns-clause-value
returns-clause-value c = let x = c.args.self.now.state in ap (λ n. n / DRAW_UNIT) (wrapped x) ∙ sym (first_draw x)
