use Rattle.std.proofs.Common.{take, flat_map}
use Rattle.std.specs.List.{enumerate_from}
use Rattle.om_io.specs.Writing.{Takes, outlet}
use Rattle.om_listing.specs.Parts.{node_part}
use Rattle.om_listing.proofs.Fusions.{FusionsLeft}
use Rattle.om_listing.proofs.nodes.write_nodes.Given as goal

abbrev pub invariant-loop-number : goal.invariant-loop-number
invariant-loop-number g l =
    let written = g.W.Sink.written in
    let faults = g.W.Sink.faults in
    record {
      written : Takes (outlet (written l.fn.to) (faults l.fn.to) l.fn.line) (outlet (written l.to) (faults l.to) l.line) (flat_map (node_part l.particles l.terms) (take l.number (enumerate_from 0 l.nodes)));
      left : FusionsLeft l.number l.terms l.rest;
    }
