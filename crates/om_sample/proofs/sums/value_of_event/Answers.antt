use Rattle.std.proofs.Common.{◌≤◌, length, ap, ◌∙◌, arith}
use Rattle.std.proofs.lemmas.List.{take_all}
use Rattle.om_ring.specs.Ops.{laws_from}
use Rattle.om_ring.specs.Sums.{sum_list}
use Rattle.om_sample.proofs.CodeSums.{flow_added}
use Rattle.om_sample.proofs.sums.value_of_event.Goals as goal

pub loop-flow-preserved : goal.loop-flow-preserved
loop-flow-preserved g c =
    let o = g.R.Ring.ops c.args.ring.now in
    let l = laws_from (g.R.Ring.element c.args.ring.now) o (g.met.R.Ring.known c.args.ring.now) (g.met.R.Ring.laws c.args.ring.now) in
    let inv = c.loop-flow.invariant in
    let flows = c.len-flow-end.ensures ∙ ap (λ x. length x.flows) c.code.ensures.code in
    record {
      value = flow_added o l c.args.machine.now.sums c.loop-flow.flow c.loop-flow.value c.add-value.result c.value.result (omega (arith, c.loop-flow-test.true, flows, c.requires.sums)) c.value.ensures inv.value c.add-value.ensures.value;
      at_most = omega (arith, inv.at_most, c.add-value.ensures.at_most);
    }

pub returns-clause-value : goal.returns-clause-value
returns-clause-value g c =
    let o = g.R.Ring.ops c.args.ring.now in
    let sums = c.args.machine.now.sums in
    let flows = c.len-flow-end.ensures ∙ ap (λ x. length x.flows) c.code.ensures.code in
    let all : length sums ≤ c.loop-flow.flow = omega (arith, c.loop-flow-test.false, flows, c.requires.sums) in
    c.loop-flow.invariant.value ∙ ap (sum_list o) (take_all c.loop-flow.flow sums all)
