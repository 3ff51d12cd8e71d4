use Rattle.std.proofs.Common.{◌*◌}
use Rattle.om_ring.specs.Ops.{laws_from}
use Rattle.om_sample.specs.Generator.{state_after}
use Rattle.om_sample.specs.Events.{draws_of_event}
use Rattle.om_sample.proofs.Balance.{drawn_balances}
use Rattle.om_sample.proofs.laws.samples_balance.Goals as goal

pub returns : goal.returns
returns g c =
    let r = c.args.ring.now in
    let o = g.R.Ring.ops r in
    let l = laws_from (g.R.Ring.element r) o (g.met.R.Ring.known r) (g.met.R.Ring.laws r) in
    λ seed legs e some. drawn_balances o l (state_after seed (e * draws_of_event legs)) legs some
