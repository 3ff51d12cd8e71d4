use Rattle.std.proofs.Common.{take, flat_map}
use Rattle.std.specs.List.{enumerate_from}
use Rattle.om_io.specs.Writing.{Takes, outlet}
use Rattle.om_listing.specs.Parts.{flow_part}
use Rattle.om_listing.proofs.flows.write_flows.Given as goal

abbrev pub invariant-loop-number : goal.invariant-loop-number
invariant-loop-number g l =
    let written = g.W.Sink.written in
    let faults = g.W.Sink.faults in
    Takes (outlet (written l.fn.to) (faults l.fn.to) l.fn.line) (outlet (written l.to) (faults l.to) l.line) (flat_map flow_part (take l.number (enumerate_from 0 l.flows)))
