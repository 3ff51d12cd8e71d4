use Rattle.std.proofs.Common.{[], get_or, refl, arith}
use Rattle.std.proofs.lemmas.Result.{err_from_is_err_and}
use Rattle.om_colour.specs.declared.Flow.{Flow}
use Rattle.om_io.specs.Writing.{outlet}
use Rattle.om_listing.specs.Parts.{flow_part}
use Rattle.om_listing.proofs.Loops.{numbered_all, numbered_breaks, numbered_more}
use Rattle.om_listing.proofs.flows.write_flows.Goals as goal

pub returns-in_err-write_flow : goal.returns-in_err-write_flow
returns-in_err-write_flow g c =
    let written = g.W.Sink.written in
    let faults = g.W.Sink.faults in
    let none : Flow = record { ends = [] } in
    let p = err_from_is_err_and c.from_residual.result c.from_residual.ensures.1 in
    rw p.1 (numbered_breaks flow_part c.args.flows.now (outlet (written c.args.to.now) (faults c.args.to.now) c.args.line.now) (outlet (written c.loop-number.to) (faults c.loop-number.to) c.loop-number.line) (outlet (written c.write_flow.new.to) (faults c.write_flow.new.to) c.write_flow.new.line)
    c.loop-number.number (get_or c.args.flows.now c.loop-number.number none) none c.loop-number-test.true refl c.loop-number.invariant c.in_err-write_flow.ensures)

pub loop-number-preserved : goal.loop-number-preserved
loop-number-preserved g c =
    let written = g.W.Sink.written in
    let faults = g.W.Sink.faults in
    let none : Flow = record { ends = [] } in
    numbered_more flow_part c.args.flows.now (outlet (written c.args.to.now) (faults c.args.to.now) c.args.line.now) (outlet (written c.loop-number.to) (faults c.loop-number.to) c.loop-number.line) (outlet (written c.write_flow.new.to) (faults c.write_flow.new.to) c.write_flow.new.line)
    c.loop-number.number (get_or c.args.flows.now c.loop-number.number none) none c.loop-number-test.true refl c.loop-number.invariant c.in_ok-write_flow.ensures

pub returns : goal.returns
returns g c =
    let written = g.W.Sink.written in
    let faults = g.W.Sink.faults in
    numbered_all flow_part c.args.flows.now (outlet (written c.args.to.now) (faults c.args.to.now) c.args.line.now) (outlet (written c.loop-number.to) (faults c.loop-number.to) c.loop-number.line) c.loop-number.number (omega arith) c.loop-number.invariant
