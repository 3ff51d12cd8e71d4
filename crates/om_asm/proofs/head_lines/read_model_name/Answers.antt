use Rattle.std.proofs.Common.{sym, ◌∙◌, ap, codes}
use Rattle.om_asm.specs.Heads.{model_name_of}
use Rattle.om_asm.specs.Reading.{name_of}
use Rattle.om_asm.proofs.OneLine.{line_passed, keyed_none}
use Rattle.om_asm.proofs.head_lines.read_model_name.Goals as goal

pub returns : goal.returns
returns c = line_passed model_name_of c.in-Some.name c.args.lines.now c.advance.new.self (keyed_none (codes "model") (name_of)) (ap model_name_of (sym c.words.ensures) ∙ sym c.in-Some.ensures) c.advance.ensures
