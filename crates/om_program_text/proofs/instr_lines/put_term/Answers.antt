use Rattle.std.proofs.Common.{decimal, take}
use Rattle.om_model.specs.TermText.{branch_words, place_word, sign_word}
use Rattle.om_program_text.proofs.TermLines.{term_line}
use Rattle.om_program_text.proofs.instr_lines.put_term.Goals as goal

pub returns-clause-bytes : goal.returns-clause-bytes
returns-clause-bytes c =
    let e = term_line (take c.args.at c.args.to.now) c.args.word.now (place_word c.args.made) (sign_word c.args.minus) (place_word c.args.vertex) (decimal c.args.choice) (branch_words c.args.branches.now) in
    cc
