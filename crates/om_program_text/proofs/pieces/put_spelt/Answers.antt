use Rattle.std.proofs.Common.{take, ap, sym, ◌∙◌, arith}
use Rattle.om_program_text.proofs.SpeltNumbers.{less_put}
use Rattle.om_program_text.proofs.pieces.put_spelt.Goals as goal

pub returns-clause-bytes : goal.returns-clause-bytes
returns-clause-bytes c = less_put c.args.to.now c.put.new.to c.args.number.now.bytes c.args.at c.args.number.now.len (omega (arith, c.requires.room)) (omega (arith, c.requires.some)) (ap (λ n. take n c.put.new.to) (sym c.put.ensures.end) ∙ c.put.ensures.bytes)
