use Rattle.std.proofs.Common.{[], refl, arith, append-nil}
use Rattle.std.proofs.lemmas.Result.{err_from_is_err_and}
use Rattle.om_io.specs.Writing.{outlet}
use Rattle.om_io.proofs.Outlets.{told_nothing}
use Rattle.om_top.proofs.Values.{all_lines, line_breaks, line_more, same_flows}
use Rattle.om_top.proofs.answer_text.write_lines.Goals as goal

pub loop-k-init : goal.loop-k-init
loop-k-init g c = record { later = omega arith; sent = []; parts = append-nil c.args.line.now; appended = told_nothing (g.O.Sink.written c.args.out.now) }

pub returns-in_err-write_value : goal.returns-in_err-write_value
returns-in_err-write_value g c =
    let written = g.O.Sink.written in
    let faults = g.O.Sink.faults in
    let m = c.args.machine.now in
    let p = err_from_is_err_and c.from_residual.result c.from_residual.ensures.1 in
    rw p.1 (line_breaks (g.R.Ring.text c.args.ring.now) m.code.model c.args.number c.as_slice-flow-items.result.now m.code.flows m.sums (same_flows c.as_slice-flow-items.result.now c.code.result.now m.code c.as_slice-flow-items.ensures c.code.ensures.code) c.loop-k.k c.value.result c.loop-k-test.true c.value.ensures (record { ends = [] }) _ refl
    (outlet (written c.args.out.now) (faults c.args.out.now) c.args.line.now) (outlet (written c.loop-k.out) (faults c.loop-k.out) c.loop-k.line) (outlet (written c.write_value.new.out) (faults c.write_value.new.out) c.write_value.new.line) c.loop-k.invariant c.in_err-write_value.ensures)

pub loop-k-preserved : goal.loop-k-preserved
loop-k-preserved g c =
    let written = g.O.Sink.written in
    let faults = g.O.Sink.faults in
    let m = c.args.machine.now in
    line_more (g.R.Ring.text c.args.ring.now) m.code.model c.args.number c.as_slice-flow-items.result.now m.code.flows m.sums (same_flows c.as_slice-flow-items.result.now c.code.result.now m.code c.as_slice-flow-items.ensures c.code.ensures.code) c.loop-k.k c.value.result c.loop-k-test.true c.value.ensures (record { ends = [] }) _ refl
    (outlet (written c.args.out.now) (faults c.args.out.now) c.args.line.now) (outlet (written c.loop-k.out) (faults c.loop-k.out) c.loop-k.line) (outlet (written c.write_value.new.out) (faults c.write_value.new.out) c.write_value.new.line) c.loop-k.invariant c.in_ok-write_value.ensures

pub returns : goal.returns
returns g c =
    let written = g.O.Sink.written in
    let faults = g.O.Sink.faults in
    let m = c.args.machine.now in
    all_lines (g.R.Ring.text c.args.ring.now) m.code.model c.args.number c.as_slice-flow-items.result.now m.code.flows m.sums (same_flows c.as_slice-flow-items.result.now c.code.result.now m.code c.as_slice-flow-items.ensures c.code.ensures.code)
    (outlet (written c.args.out.now) (faults c.args.out.now) c.args.line.now) (outlet (written c.loop-k.out) (faults c.loop-k.out) c.loop-k.line) c.loop-k.k c.loop-k-test.false c.loop-k.invariant
