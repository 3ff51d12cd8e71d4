use Rattle.std.proofs.Common.{rules}
use Rattle.om_program_text.proofs.pieces.put_place.Goals as goal

pub put_spelt-requires-clause-some : goal.put_spelt-requires-clause-some
put_spelt-requires-clause-some c = search rules
