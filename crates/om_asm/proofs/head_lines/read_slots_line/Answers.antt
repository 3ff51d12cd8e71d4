use Rattle.std.proofs.Common.{sym, ◌∙◌, ap, codes, ◌^◌}
use Rattle.om_asm.specs.Heads.{slots_of}
use Rattle.om_ring.specs.Spelt.{decimal_below}
use Rattle.om_asm.proofs.OneLine.{line_passed, keyed_none}
use Rattle.om_asm.proofs.head_lines.read_slots_line.Goals as goal

pub returns : goal.returns
returns c = line_passed slots_of c.in-Some.slots c.args.lines.now c.advance.new.self (keyed_none (codes "slots") (decimal_below (2 ^ 32))) (ap slots_of (sym c.words.ensures) ∙ sym c.in-Some.ensures) c.advance.ensures
