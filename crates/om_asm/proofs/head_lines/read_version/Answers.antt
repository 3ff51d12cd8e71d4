use Rattle.std.proofs.Common.{sym, ◌∙◌, ap, codes}
use Rattle.om_asm.specs.Heads.{version_word, version_of}
use Rattle.om_asm.proofs.OneLine.{line_passed, keyed_none}
use Rattle.om_asm.proofs.head_lines.read_version.Goals as goal

pub returns : goal.returns
returns c = line_passed version_of c.in-Some.version c.args.lines.now c.advance.new.self (keyed_none (codes "omega") (version_word)) (ap version_of (sym c.words.ensures) ∙ sym c.in-Some.ensures) c.advance.ensures
