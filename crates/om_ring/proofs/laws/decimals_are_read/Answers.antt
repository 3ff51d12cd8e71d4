use Rattle.std.proofs.Common.{refl}
use Rattle.std.specs.Prelude.{decimal}
use Rattle.om_ring.proofs.SpeltLemmas.{decimal_read, spelt_found}
use Rattle.om_ring.proofs.laws.decimals_are_read.Goals as goal

pub returns-clause-read : goal.returns-clause-read
returns-clause-read c = λ n limit lt h. decimal_read n limit (decimal n) lt h refl

pub returns-clause-only : goal.returns-clause-only
returns-clause-only c = λ n limit text e. spelt_found decimal limit text n e
