use Rattle.std.proofs.Common.{sym, ◌∙◌, ap}
use Rattle.om_asm.specs.Heads.{end_of}
use Rattle.om_asm.proofs.OneLine.{line_passed, end_none}
use Rattle.om_asm.proofs.head_lines.read_end_line.Goals as goal

pub returns : goal.returns
returns c = line_passed end_of _ c.args.lines.now c.advance.new.self end_none (ap end_of (sym c.words.ensures) ∙ sym c.in-Some.ensures) c.advance.ensures
