use Rattle.std.proofs.lemmas.Map.Made.{AllPairs-from_IsDistinct}
use Rattle.om_cons.proofs.Identity.{slice_get-place_of, IsSome-place_of, eq-Decides}
use Rattle.om_cons.proofs.laws.identical_keys.Goals as goal

pub returns-clause-found : goal.returns-clause-found
returns-clause-found g c place k = (slice_get-place_of c.args.table.now k place c.requires, c.distinct_keys.ensures.found place k)

pub returns-clause-there : goal.returns-clause-there
returns-clause-there g c = IsSome-place_of (g.met.K.Eq.laws) c.requires c.args.table.now

pub returns-clause-once : goal.returns-clause-once
returns-clause-once g c = AllPairs-from_IsDistinct (eq-Decides (g.met.K.Eq.laws) c.requires) c.args.table.now c.distinct_keys.ensures.distinct
