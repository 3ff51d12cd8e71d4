use Rattle.om_asm.proofs.Found.{code_found}
use Rattle.om_asm.proofs.VisibleLines.{code_only}
use Rattle.om_asm.proofs.reader.read_code.Goals as goal

pub returns-clause-found : goal.returns-clause-found
returns-clause-found c = code_found c.args.text.now c.new-lines.result c.read_program.result c.new-lines.ensures c.read_program.ensures

pub returns-clause-only : goal.returns-clause-only
returns-clause-only c = code_only c.args.text.now c.new-lines.result c.read_program.result c.new-lines.ensures c.read_program.ensures
