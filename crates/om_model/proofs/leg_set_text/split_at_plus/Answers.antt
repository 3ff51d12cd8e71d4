use Rattle.std.proofs.Common.{eqb, sym}
use Rattle.om_model.proofs.Splitting.{cut_at}
use Rattle.om_model.proofs.leg_set_text.split_at_plus.Goals as goal

pub returns-clause-parts : goal.returns-clause-parts
returns-clause-parts c = cut_at (λ b. eqb b 43) c.args.text.now c.split_at.result.0.now c.split_at.result.1.now c.in_ok-end.end (sym c.in_ok-end.ensures) c.split_at.ensures.front c.split_at.ensures.back
