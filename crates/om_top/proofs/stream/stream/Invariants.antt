use Rattle.std.proofs.Common.{◌+◌, ◌*◌, ◌≤◌}
use Rattle.om_top.specs.Cost.{event_calls}
use Rattle.om_top.specs.RunRan.{OwesMeaning}
use Rattle.om_top.specs.Streamed.{kinds_of}
use Rattle.om_top.proofs.Streams.{Progress}
use Rattle.om_top.proofs.CodeAnswers.{IsReading}
use Rattle.om_top.proofs.stream.stream.Given as goal

abbrev pub invariant-loop-number : goal.invariant-loop-number
invariant-loop-number g l =
    let o = g.R.Ring.ops l.ring in
    let c = l.fn.machine.code in
    record {
      reading : IsReading l.fn.machine l.machine l.reader l.number l.event;
      progress : Progress (OwesMeaning o (g.R.Ring.text l.ring) c) o (kinds_of c.model.particles c.legs) (g.S.Source.left l.fn.input) (g.S.Source.left l.input) (g.O.Sink.written l.fn.out) (g.O.Sink.written l.out) l.reader.held l.number;
      input_later : g.S.Source.faults l.fn.input ≤ g.S.Source.faults l.input;
      out_later : g.O.Sink.faults l.fn.out ≤ g.O.Sink.faults l.out;
      calls : l.steps ≤ l.fn.steps + l.number * event_calls c * g.R.Ring.cost l.ring;
    }
