use Rattle.std.proofs.Common.{◌+◌, ◌∷◌, ◌++◌, [], take, ap, ◌∙◌, arith, append_assoc}
use Rattle.om_program_text.proofs.Digits.{one_digit}
use Rattle.om_program_text.proofs.pieces.put_short.Goals as goal

pub returns-then-k-lt10-clause-bytes : goal.returns-then-k-lt10-clause-bytes
returns-then-k-lt10-clause-bytes c =
    c.put_byte.ensures.bytes ∙ ap (λ t. t ++ (48 + c.args.k) ∷ []) c.put_byte-at.ensures.bytes
    ∙ append_assoc (take c.args.at c.args.to.now) (32 ∷ []) ((48 + c.args.k) ∷ [])
    ∙ ap (λ t. take c.args.at c.args.to.now ++ 32 ∷ t) (one_digit c.args.k (omega (arith, c.if-k-lt10.true)))
