use Rattle.std.proofs.Common.{arith}
use Rattle.om_top.proofs.ProgramLines.{few_lines}
use Rattle.om_top.proofs.load.program.verified_code.Goals as goal

pub verify-requires-clause-short : goal.verify-requires-clause-short
verify-requires-clause-short c = omega (arith, few_lines c.in-Ok.code c.args.bytes.now c.in-Ok.ensures.found.1, c.requires)
