use Rattle.std.proofs.Common.{rules, ◌∙◌, ◌++◌, ◌∷◌, ◌+◌, ◌≤◌, ap, arith, subst, decimal, List, ℕ}
use Rattle.om_event.proofs.LeadingNumbers.{decimal_stopped, no_zero_in_front, rest_of}
use Rattle.om_event.proofs.written.fifteen_before.Goals as goal

pub returns-clause-split : goal.returns-clause-split
returns-clause-split c =
    let text = c.args.text.now in
    let n = c.in_ok-value.field-0.value in
    let k = c.in_ok-value.field-0.len in
    let e = c.in_ok-value.ensures in
    let some = c.in_ok-least_of_len.ensures.0 in
    let lead = no_zero_in_front text n k e.digits e.value e.within some (λ more. subst (λ m. m ≤ n) (c.in_ok-least_of_len.ensures.1 more) (omega (arith, c.if-branch.false))) in
    decimal_stopped text n k c.args.stop e.digits e.value (omega arith) e.within some lead (search rules) ∙ ap (λ (t : List ℕ). decimal n ++ c.args.stop ∷ t) (rest_of text (k + 1))
