use Rattle.std.proofs.Common.{◌+◌, ◌++◌, ◌∙◌, rules, ap, sym, subst, take, drop, arith}
use Rattle.std.proofs.lemmas.Result.{err_from_is_err_and}
use Rattle.om_io.specs.Writing.{Breaks, Takes, outlet}
use Rattle.om_listing.specs.Parts.{fusion_lines, node_line, node_part}
use Rattle.om_listing.proofs.Fusions.{FusionsLeft, all_left, front_short, fusions_taken, rest_left}
use Rattle.om_listing.proofs.Loops.{numbered_all, numbered_breaks, numbered_more}
use Rattle.om_listing.proofs.nodes.write_nodes.Goals as goal

pub loop-number-init : goal.loop-number-init
loop-number-init g c = record {
  written = search rules;
  left = all_left c.args.terms.now c.requires;
}

pub split_at-requires : goal.split_at-requires
split_at-requires g c = rw c.count_of_node.ensures (front_short c.loop-number.number c.loop-number.rest.now)

pub returns-in_err-write_node : goal.returns-in_err-write_node
returns-in_err-write_node g c =
    let written = g.W.Sink.written in
    let faults = g.W.Sink.faults in
    let key = c.index-nodes-number.result in
    let p = err_from_is_err_and c.from_residual.result c.from_residual.ensures.1 in
    let before = outlet (written c.loop-number.to) (faults c.loop-number.to) c.loop-number.line in
    let now = outlet (written c.write_node.new.to) (faults c.write_node.new.to) c.write_node.new.line in
    let number = c.loop-number.number in
    let taken = c.split_at.ensures.front ∙ ap (λ n. take n c.loop-number.rest.now) c.count_of_node.ensures ∙ fusions_taken number c.args.terms.now c.loop-number.rest.now c.loop-number.invariant.left in
    rw p.1 (numbered_breaks (node_part c.args.particles.now c.args.terms.now) c.args.nodes.now (outlet (written c.args.to.now) (faults c.args.to.now) c.args.line.now) before now
    number key key c.loop-number-test.true c.index-nodes-number.is c.loop-number.invariant.written
    (subst (λ xs. Breaks before now (node_line c.args.particles.now number key ++ fusion_lines xs)) taken c.in_err-write_node.ensures))

pub loop-number-preserved : goal.loop-number-preserved
loop-number-preserved g c =
    let written = g.W.Sink.written in
    let faults = g.W.Sink.faults in
    let key = c.index-nodes-number.result in
    let before = outlet (written c.loop-number.to) (faults c.loop-number.to) c.loop-number.line in
    let now = outlet (written c.write_node.new.to) (faults c.write_node.new.to) c.write_node.new.line in
    let number = c.loop-number.number in
    let rest = c.loop-number.rest.now in
    let taken = c.split_at.ensures.front ∙ ap (λ n. take n rest) c.count_of_node.ensures ∙ fusions_taken number c.args.terms.now rest c.loop-number.invariant.left in
    let later = c.split_at.ensures.back ∙ ap (λ n. drop n rest) c.count_of_node.ensures in
    record {
      written =
          numbered_more (node_part c.args.particles.now c.args.terms.now) c.args.nodes.now (outlet (written c.args.to.now) (faults c.args.to.now) c.args.line.now) before now
          number key key c.loop-number-test.true c.index-nodes-number.is c.loop-number.invariant.written
          (subst (λ xs. Takes before now (node_line c.args.particles.now number key ++ fusion_lines xs)) taken c.in_ok-write_node.ensures);
      left = subst (λ xs. FusionsLeft (number + 1) c.args.terms.now xs) (sym later) (rest_left number c.args.terms.now rest c.loop-number.invariant.left);
    }

pub returns : goal.returns
returns g c =
    let written = g.W.Sink.written in
    let faults = g.W.Sink.faults in
    numbered_all (node_part c.args.particles.now c.args.terms.now) c.args.nodes.now (outlet (written c.args.to.now) (faults c.args.to.now) c.args.line.now) (outlet (written c.loop-number.to) (faults c.loop-number.to) c.loop-number.line) c.loop-number.number (omega arith) c.loop-number.invariant.written
