use Rattle.std.proofs.Common.{rules}
use Rattle.om_cons.proofs.Identity.{place_of-slice_get}
use Rattle.om_cons.proofs.laws.distinct_keys.Goals as goal

pub returns-clause-found : goal.returns-clause-found
returns-clause-found g c = search (rules, place_of-slice_get)
