use Rattle.std.proofs.Common.{◌+◌, ◌*◌, length, inr, refl}
use Rattle.om_ring.specs.Ops.{laws_from}
use Rattle.om_machine.specs.Bound.{part}
use Rattle.om_machine.specs.Machines.{table_of}
use Rattle.om_sample.specs.Model.{sample_model}
use Rattle.om_sample.specs.declared.limits.TheConstants.{SAMPLE_EVENTS}
use Rattle.om_top.specs.Cost.{rows_calls}
use Rattle.om_top.proofs.Sampled.{calls_within, has_one_flow, has_scalar_legs, has_some_legs, sampled}
use Rattle.om_top.proofs.commands.sample.sums_of_sample.Goals as goal

pub sum_sample-requires-clause-scalars : goal.sum_sample-requires-clause-scalars
sum_sample-requires-clause-scalars g c =
    let r = c.args.ring.now in
    let l = laws_from (g.R.Ring.element r) (g.R.Ring.ops r) (g.met.R.Ring.known r) (g.met.R.Ring.laws r) in
    has_scalar_legs (g.R.Ring.ops r) l c.args.legs c.requires.fewest c.requires.most c.in-Ok.machine.code c.in-Ok.ensures.code

pub returns-clause-sums : goal.returns-clause-sums
returns-clause-sums g c =
    let r = c.args.ring.now in
    let o = g.R.Ring.ops r in
    let l = laws_from (g.R.Ring.element r) o (g.met.R.Ring.known r) (g.met.R.Ring.laws r) in
    let m = c.in-Ok.machine in
    sampled o l c.args.legs c.requires.fewest c.requires.most m.code c.in-Ok.ensures.code (table_of o m) c.in-Ok.ensures.loaded.table c.args.seed c.sum_sample.result.poles c.sum_sample.result.total c.sum_sample.ensures.sums

pub returns-clause-calls : goal.returns-clause-calls
returns-clause-calls g c =
    let r = c.args.ring.now in
    let o = g.R.Ring.ops r in
    let l = laws_from (g.R.Ring.element r) o (g.met.R.Ring.known r) (g.met.R.Ring.laws r) in
    let code = c.in-Ok.machine.code in
    let is = c.in-Ok.ensures.code in (
      rows_calls sample_model + SAMPLE_EVENTS * (part code + 8 * length code.legs),
      inr (code, is, refl),
      calls_within c.args.steps.now c.load_sample.new.steps c.sum_sample.new.steps (rows_calls sample_model) (part code) (length code.legs) (length code.flows) (g.R.Ring.cost r)
          (has_one_flow o l c.args.legs c.requires.fewest c.requires.most code is) (has_some_legs o l c.args.legs c.requires.fewest c.requires.most code is) c.in-Ok.ensures.calls c.sum_sample.ensures.at_most,
    )
