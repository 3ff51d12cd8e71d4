use Rattle.std.proofs.Common.{◌∙◌, ap, drop}
use Rattle.std.proofs.lemmas.Result.{err_from_is_err_and}
use Rattle.om_io.proofs.Outlets.{steps_break, steps_last}
use Rattle.om_io.proofs.Outlets.Steps.{none, more}
use Rattle.om_listing.specs.Parts.{flow_parts, listing_parts, node_parts}
use Rattle.om_listing.proofs.Loops.{all_have_texts, breaks_same, takes_same}
use Rattle.om_listing.proofs.listing.write_lines.Goals as goal

pub returns-in_err-write_head : goal.returns-in_err-write_head
returns-in_err-write_head g c =
    let p = err_from_is_err_and c.from_residual.result c.from_residual.ensures.1 in
    rw p.1 (steps_break (drop 1 (listing_parts c.args.model.now c.args.graph.now)) none c.in_err-write_head.ensures)

pub returns-in_err-write_flows : goal.returns-in_err-write_flows
returns-in_err-write_flows g c =
    let p = err_from_is_err_and c.from_residual-in_err-write_flows.result c.from_residual-in_err-write_flows.ensures.1 in
    let flows = breaks_same _ _ (ap flow_parts c.as_slice.ensures) c.in_err-write_flows.ensures in
    rw p.1 (steps_break (drop 2 (listing_parts c.args.model.now c.args.graph.now)) (more c.in_ok-write_head.ensures none) flows)

pub returns-in_err-write_nodes : goal.returns-in_err-write_nodes
returns-in_err-write_nodes g c =
    let graph = c.args.graph.now in
    let p = err_from_is_err_and c.from_residual-in_err-write_nodes.result c.from_residual-in_err-write_nodes.ensures.1 in
    let flows = takes_same _ _ (ap flow_parts c.as_slice.ensures) c.in_ok-write_flows.ensures in
    let same = ap (λ ps. node_parts ps c.as_slice-4.result.now c.as_slice-3.result.now) c.as_slice-2.ensures
    ∙ ap (λ ts. node_parts c.args.model.now.particles ts c.as_slice-3.result.now) c.as_slice-4.ensures
    ∙ ap (λ ns. node_parts c.args.model.now.particles graph.terms ns) c.as_slice-3.ensures in
    let nodes = breaks_same _ _ same c.in_err-write_nodes.ensures in
    rw p.1 (steps_break (drop 3 (listing_parts c.args.model.now graph)) (more c.in_ok-write_head.ensures (more flows none)) nodes)

pub write_rows-requires : goal.write_rows-requires
write_rows-requires g c = all_have_texts c.args.graph.now.keys

pub returns : goal.returns
returns g c =
    let graph = c.args.graph.now in
    let flows = takes_same _ _ (ap flow_parts c.as_slice.ensures) c.in_ok-write_flows.ensures in
    let same = ap (λ ps. node_parts ps c.as_slice-4.result.now c.as_slice-3.result.now) c.as_slice-2.ensures
    ∙ ap (λ ts. node_parts c.args.model.now.particles ts c.as_slice-3.result.now) c.as_slice-4.ensures
    ∙ ap (λ ns. node_parts c.args.model.now.particles graph.terms ns) c.as_slice-3.ensures in
    let nodes = takes_same _ _ same c.in_ok-write_nodes.ensures in
    steps_last _ _ c.write_rows.result (more c.in_ok-write_head.ensures (more flows (more nodes none))) c.write_rows.ensures
