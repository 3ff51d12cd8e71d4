use Rattle.std.specs.Prelude.{string_bytes}
use Rattle.om_top.proofs.Short.{within}
use Rattle.om_top.proofs.words.within_limits.Goals as goal

pub returns-then-words-lt-WORD_LIMIT : goal.returns-then-words-lt-WORD_LIMIT
returns-then-words-lt-WORD_LIMIT c =
    let same = within (λ w. string_bytes w) c.args.words.now c.if-words-lt-WORD_LIMIT.true in
    (λ so. same.0 (c.are_short.ensures.0 so), λ h. c.are_short.ensures.1 (same.1 h))
