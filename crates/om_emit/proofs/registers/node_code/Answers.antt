use Rattle.std.proofs.Common.{◌≡◌, ◌<◌, ℕ, arith, ap, ◌∙◌, drop, length, get_or, length-drop}
use Rattle.om_model.specs.Model.{anti_field}
use Rattle.om_graph.specs.declared.Key.{Key}
use Rattle.om_emit.specs.GraphCode.{place_of, den_of}
use Rattle.om_emit.specs.GraphWalk.{walk_ops}
use Rattle.om_emit.proofs.GraphSteps.{node_more, nodes_end}
use Rattle.om_emit.proofs.registers.node_code.Goals as goal
use Rattle.om_emit.proofs.registers.node_code.Goals.{In_ok-count}

nodes_within : (c : In_ok-count) → c.loop-k.k < length c.args.graph.now.nodes
nodes_within c = omega (arith, ap length c.as_slice-node-items.ensures)

node_is : (c : In_ok-count) → c.node-item.result ≡ get_or c.args.graph.now.nodes c.loop-k.k c.node-item.result
node_is c = c.node-item.is ∙ ap (λ xs. get_or xs c.loop-k.k c.node-item.result) c.as_slice-node-items.ensures

pub loop-k-preserved : goal.loop-k-preserved
loop-k-preserved c =
    let den : Key → ℕ = λ node. place_of c.args.dens.now (den_of (anti_field c.args.particles.now) c.args.n node) in
    record {
      ops = node_more den c.args.graph.now.nodes c.args.graph.now.terms c.loop-k.k c.loop-k.next c.in_ok-count.count c.node-item.result c.terms_from-left.result.now c.loop-k.instrs c.push_node.new.instrs (walk_ops den 0 c.args.graph.now.nodes c.args.graph.now.terms)
          (nodes_within c) (node_is c) (c.terms_from-left.ensures ∙ ap (drop c.loop-k.next) c.as_slice-terms.ensures) c.in_ok-count.ensures.ops c.in_ok-count.ensures.rest c.loop-k.invariant.ops;
      within = omega (arith, c.in_ok-count.ensures.within, ap length c.terms_from-left.ensures, ap length c.as_slice-terms.ensures, length-drop c.loop-k.next c.as_slice-terms.result.now);
    }

pub returns : goal.returns
returns c =
    let den : Key → ℕ = λ node. place_of c.args.dens.now (den_of (anti_field c.args.particles.now) c.args.n node) in
    nodes_end den c.args.graph.now.nodes c.args.graph.now.terms c.loop-k.k (drop c.loop-k.next c.args.graph.now.terms) c.loop-k.instrs (walk_ops den 0 c.args.graph.now.nodes c.args.graph.now.terms) (omega (arith, ap length c.as_slice-node-items.ensures)) c.loop-k.invariant.ops
