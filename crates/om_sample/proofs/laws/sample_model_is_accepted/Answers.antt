use Rattle.om_ring.specs.Ops.{laws_from}
use Rattle.om_sample.proofs.Accepted.{sample_model_accepted}
use Rattle.om_sample.proofs.laws.sample_model_is_accepted.Goals as goal

pub returns : goal.returns
returns g c =
    let r = c.args.ring.now in
    sample_model_accepted (g.R.Ring.ops r) (laws_from (g.R.Ring.element r) (g.R.Ring.ops r) (g.met.R.Ring.known r) (g.met.R.Ring.laws r))
