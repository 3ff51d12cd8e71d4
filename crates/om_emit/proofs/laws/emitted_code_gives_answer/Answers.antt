use Rattle.om_ring.specs.Ops.{laws_from}
use Rattle.om_emit.proofs.AnswerFlows.{emitted_flows_are_theirs, no_diagram_no_flow}
use Rattle.om_emit.proofs.EmittedAnswer.{emitted_code_gives_answer, evaluated_is_answer, sums_stand_at_flows}
use Rattle.om_emit.proofs.laws.emitted_code_gives_answer.Goals as goal

pub returns-clause-answer : goal.returns-clause-answer
returns-clause-answer g c =
    let ring = c.args.ring.now in let o = g.R.Ring.ops ring in
    emitted_code_gives_answer o (laws_from (g.R.Ring.element ring) o (g.met.R.Ring.known ring) (g.met.R.Ring.laws ring))

pub returns-clause-evaluated : goal.returns-clause-evaluated
returns-clause-evaluated g c =
    let ring = c.args.ring.now in let o = g.R.Ring.ops ring in
    evaluated_is_answer o (laws_from (g.R.Ring.element ring) o (g.met.R.Ring.known ring) (g.met.R.Ring.laws ring))

pub returns-clause-sums : goal.returns-clause-sums
returns-clause-sums g c = sums_stand_at_flows

pub returns-clause-flows : goal.returns-clause-flows
returns-clause-flows g c = emitted_flows_are_theirs

pub returns-clause-none : goal.returns-clause-none
returns-clause-none g c = no_diagram_no_flow
