use Rattle.std.proofs.Common.{◌∙◌, ◌++◌, ◌∷◌, ap, arith, List, ℕ}
use Rattle.om_event.proofs.LeadingNumbers.{one_digit}
use Rattle.om_event.proofs.written.behind_leg_number.Goals as goal

pub returns-then-k-lt10 : goal.returns-then-k-lt10
returns-then-k-lt10 c = c.in_ok-rest.ensures ∙ ap (λ (ds : List ℕ). ds ++ 32 ∷ c.in_ok-rest.rest.now) (one_digit c.args.k (omega (arith, c.if-k-lt10.true)))
