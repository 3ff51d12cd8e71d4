use Rattle.std.proofs.lemmas.Result.{err_from_is_err_and}
use Rattle.om_io.specs.Writing.{outlet}
use Rattle.om_io.proofs.Outlets.{breaks_more, writes_both}
use Rattle.om_listing.specs.Parts.{fusion_lines, node_line}
use Rattle.om_listing.proofs.Loops.{all_have_texts}
use Rattle.om_listing.proofs.nodes.write_node.Goals as goal

pub returns-in_err-write_node_line : goal.returns-in_err-write_node_line
returns-in_err-write_node_line g c =
    let written = g.W.Sink.written in
    let faults = g.W.Sink.faults in
    let p = err_from_is_err_and c.from_residual.result c.from_residual.ensures.1 in
    rw p.1 (breaks_more (outlet (written c.args.to.now) (faults c.args.to.now) c.args.line.now) (outlet (written c.write_node_line.new.to) (faults c.write_node_line.new.to) c.write_node_line.new.line)
    (node_line c.args.particles.now c.args.number c.args.key.now) (fusion_lines c.args.fusions.now) c.in_err-write_node_line.ensures)

pub write_each-requires : goal.write_each-requires
write_each-requires g c = all_have_texts c.args.fusions.now

pub returns : goal.returns
returns g c =
    let written = g.W.Sink.written in
    let faults = g.W.Sink.faults in
    writes_both (outlet (written c.args.to.now) (faults c.args.to.now) c.args.line.now) (outlet (written c.write_node_line.new.to) (faults c.write_node_line.new.to) c.write_node_line.new.line) (outlet (written c.write_each.new.to) (faults c.write_each.new.to) c.write_each.new.line)
    (node_line c.args.particles.now c.args.number c.args.key.now) (fusion_lines c.args.fusions.now) c.write_each.result c.in_ok-write_node_line.ensures c.write_each.ensures
