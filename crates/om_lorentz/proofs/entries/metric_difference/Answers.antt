use Rattle.std.proofs.Common.{ℕ, ◌∙◌, ap}
use Rattle.om_ring.specs.Ops.{Ops, Laws, laws_from}
use Rattle.om_lorentz.specs.Entries.{g as pair}
use Rattle.om_lorentz.specs.Structures.{index}
use Rattle.om_lorentz.proofs.entries.metric_difference.Goals as goal

pub returns-clause-value : goal.returns-clause-value
returns-clause-value g c =
    let r = c.args.ring.now in
    let o : Ops g.row.R-E.Denot = g.R.Ring.ops r in
    let l : Laws o = laws_from (g.R.Ring.element r) o (g.met.R.Ring.known r) (g.met.R.Ring.laws r) in
    let e = rw (c.momentum-p.ensures, c.momentum-q.ensures, c.index.ensures.value) at c.lower_difference-along.ensures.value in
    let metric_at = λ (j k : ℕ). pair o (index c.args.vertex.now.indices) j k in
    let turn = l.times_comm c.lower_difference-along.result (metric_at c.args.j c.args.k) in
    c.times_g.ensures.value ∙ turn ∙ ap (o.times (metric_at c.args.j c.args.k)) e
