use Rattle.std.proofs.Common.{decimal}
use Rattle.om_model.specs.TermText.{branch_words, place_word, sign_word}
use Rattle.om_model.proofs.TermWords.{term_joined}
use Rattle.om_model.proofs.term_text.push_term.Goals as goal

pub returns-clause-text : goal.returns-clause-text
returns-clause-text c =
    let e = term_joined c.args.line.now (place_word c.args.made) (sign_word c.args.minus) (place_word c.args.vertex) (decimal c.args.choice) (branch_words c.args.branches.now) in
    cc
