use Rattle.std.proofs.Common.{◌∙◌, ap}
use Rattle.std.proofs.lemmas.Result.{err_from_is_err_and}
use Rattle.om_io.specs.Writing.{outlet, all_of}
use Rattle.om_io.proofs.Outlets.{whole_written, broken_end, broken_before}
use Rattle.om_listing.specs.Listing.{listing}
use Rattle.om_listing.specs.Parts.{listing_parts}
use Rattle.om_listing.proofs.Texts.{listing_of_parts}
use Rattle.om_listing.proofs.listing.write_listing.Goals as goal

pub returns-in_err-write_lines-clause-err : goal.returns-in_err-write_lines-clause-err
returns-in_err-write_lines-clause-err g c =
    let written = g.W.Sink.written in
    let faults = g.W.Sink.faults in
    let m = c.args.model.now in
    let graph = c.graph.result.now in
    let p = err_from_is_err_and c.from_residual.result c.from_residual.ensures.1 in
    let whole = listing_of_parts m graph ∙ ap (listing m) c.graph.ensures.graph in
    rw p.1 (broken_before (outlet (written c.args.to.now) (faults c.args.to.now) c.new-line.result) (outlet (written c.write_lines.new.to) (faults c.write_lines.new.to) c.write_lines.new.line) (all_of (listing_parts m graph)) (listing m c.args.pruned.now) whole c.new-line.ensures c.in_err-write_lines.ensures)

pub returns-clause-ok : goal.returns-clause-ok
returns-clause-ok g c =
    let written = g.W.Sink.written in
    let faults = g.W.Sink.faults in
    let m = c.args.model.now in
    let graph = c.graph.result.now in
    let whole = listing_of_parts m graph ∙ ap (listing m) c.graph.ensures.graph in
    whole_written (outlet (written c.args.to.now) (faults c.args.to.now) c.new-line.result) (outlet (written c.write_lines.new.to) (faults c.write_lines.new.to) c.write_lines.new.line) (outlet (written c.flush.new.to) (faults c.flush.new.to) c.flush.new.line)
    (all_of (listing_parts m graph)) (listing m c.args.pruned.now) c.flush.result whole c.new-line.ensures c.in_ok-write_lines.ensures c.flush.ensures.written c.flush.ensures.empty

pub returns-clause-err : goal.returns-clause-err
returns-clause-err g c =
    let written = g.W.Sink.written in
    let faults = g.W.Sink.faults in
    let m = c.args.model.now in
    let graph = c.graph.result.now in
    let whole = listing_of_parts m graph ∙ ap (listing m) c.graph.ensures.graph in
    broken_end (outlet (written c.args.to.now) (faults c.args.to.now) c.new-line.result) (outlet (written c.write_lines.new.to) (faults c.write_lines.new.to) c.write_lines.new.line) (outlet (written c.flush.new.to) (faults c.flush.new.to) c.flush.new.line)
    (all_of (listing_parts m graph)) (listing m c.args.pruned.now) c.flush.result whole c.new-line.ensures c.in_ok-write_lines.ensures c.flush.ensures.written
