use Rattle.std.proofs.Common.{◌+◌, ◌/◌, ◌%◌, ◌∙◌, ◌∷◌, [], ap, ap₂, arith}
use Rattle.om_program_text.proofs.Digits.{one_digit, two_digits, three_digits, four_digits}
use Rattle.om_program_text.proofs.spellings.spelling_of.Goals as goal

pub returns-then-k-lt10-clause-text : goal.returns-then-k-lt10-clause-text
returns-then-k-lt10-clause-text c = ap (λ t. 32 ∷ t) (ap (λ a. a ∷ []) c.digit.ensures ∙ one_digit c.args.k (omega (arith, c.if-k-lt10.true)))

pub returns-then-k-lt100-clause-text : goal.returns-then-k-lt100-clause-text
returns-then-k-lt100-clause-text c =
    ap (λ t. 32 ∷ t) (ap₂ (λ a b. a ∷ b ∷ []) c.digit-then-k-lt100.ensures c.digit-then-k-lt100-2.ensures ∙ two_digits c.args.k (omega (arith, c.if-k-lt10.false)) (omega (arith, c.if-k-lt100.true)))

pub returns-then-k-lt1000-clause-text : goal.returns-then-k-lt1000-clause-text
returns-then-k-lt1000-clause-text c =
    let front = ap₂ (λ a b. a ∷ b ∷ c.digit-then-k-lt1000-3.result ∷ []) c.digit-then-k-lt1000.ensures c.digit-then-k-lt1000-2.ensures in
    let digits = front ∙ ap (λ d. (48 + c.args.k / 10 / 10) ∷ (48 + c.args.k / 10 % 10) ∷ d ∷ []) c.digit-then-k-lt1000-3.ensures ∙ three_digits c.args.k (omega (arith, c.if-k-lt100.false)) (omega (arith, c.if-k-lt1000.true)) in
    ap (λ t. 32 ∷ t) digits

pub returns-clause-text : goal.returns-clause-text
returns-clause-text c =
    let front = ap₂ (λ a b. a ∷ b ∷ c.digit-4.result ∷ c.digit-5.result ∷ []) c.digit-2.ensures c.digit-3.ensures in
    let back = ap₂ (λ a b. (48 + c.args.k / 10 / 10 / 10) ∷ (48 + c.args.k / 10 / 10 % 10) ∷ a ∷ b ∷ []) c.digit-4.ensures c.digit-5.ensures in
    let digits = front ∙ back ∙ four_digits c.args.k (omega (arith, c.if-k-lt1000.false)) (omega (arith, c.requires)) in
    ap (λ t. 32 ∷ t) digits
