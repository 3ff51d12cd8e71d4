use Rattle.std.proofs.Common.{sym, ◌∙◌, arith, length, eqb, get_or, ◌≡◌, ◌≤◌, ◌<◌, false, inl, inr}
use Rattle.std.proofs.lemmas.Bool.{eqb-true}
use Rattle.std.proofs.lemmas.Bool.Decides.{nat_tests}
use Rattle.om_ring.proofs.SpeltLemmas.{empty_is_no_decimal, zero_in_front, digits_and_more, digits_alone}
use Rattle.om_ring.proofs.numeral.decimal.read_decimal.Goals as goal

pub returns-then-is_empty : goal.returns-then-is_empty
returns-then-is_empty c = empty_is_no_decimal c.args.text.now (eqb-true (length c.args.text.now) 0 (sym c.is_empty.ensures ∙ c.if-is_empty.true))

pub returns-then-end-text : goal.returns-then-end-text
returns-then-end-text c = digits_and_more c.args.text.now _ _ c.more_digits-value.ensures c.if-end-text.true

pub returns-then-end-gt1 : goal.returns-then-end-gt1
returns-then-end-gt1 c = zero_in_front c.args.text.now c.if-text-eq48.true (let w = c.more_digits-value.ensures.within in omega (arith, w, c.if-end-gt1.true))

pub returns-else-text-eq48 : goal.returns-else-text-eq48
returns-else-text-eq48 c =
    let text = c.args.text.now in
    let empty : eqb (length text) 0 ≡ false = sym c.is_empty.ensures ∙ c.if-is_empty.false in
    let some : 0 < length text = grind (arith, nat_tests) in
    let short = λ (z : get_or text 0 0 ≡ 48). let l : length text ≤ 1 = elim c.else-text-eq48.either [ inl p ↦ omega (arith, p.1, c.if-end-text.false) | inr n ↦ absurd (n z) ] in l in
    digits_alone text _ _ c.more_digits-value.ensures (omega (arith, c.if-end-text.false)) some short
