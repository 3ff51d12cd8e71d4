use Rattle.std.proofs.Common.{arith, ap, sym}
use Rattle.std.specs.Prelude.{List}
use Rattle.om_asm.specs.Lines.{At}
use Rattle.om_io.specs.Lines.{Words}
use Rattle.om_asm.proofs.Splitting.{line_more, line_none}
use Rattle.om_asm.proofs.lines.Lines.from_line.Goals as goal

pub invariant_of-result : goal.invariant_of-result
invariant_of-result c = (omega arith, line_none c.args.text.now c.in-None.ensures.parts)

pub returns-in-Some : goal.returns-in-Some
returns-in-Some c = ap (λ (ls : List Words). let a : At = record { number = c.args.number; lines = ls } in a) (sym (line_more c.args.text.now c.in-Some.line.now c.in-Some.rest.now c.in-Some.ensures.parts))
