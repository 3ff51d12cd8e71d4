use Rattle.std.proofs.Common.{subst}
use Rattle.om_code.specs.Lines.{IsFirstBreak, program_lines}
use Rattle.om_code.proofs.VerifiedFacts.{verified-from}
use Rattle.om_code.proofs.verifier.verify.Goals as goal

pub of-requires : goal.of-requires
of-requires c = verified-from c.args.code c.requires.plain (subst (IsFirstBreak (program_lines c.args.code)) c.in-Ok-None.field-0-is c.in-Ok-None.ensures.first)
