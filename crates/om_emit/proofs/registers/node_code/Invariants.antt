use Rattle.std.proofs.Common.{◌≡◌, ◌≤◌, ◌++◌, ℕ, map, drop, length}
use Rattle.om_model.specs.Model.{anti_field}
use Rattle.om_graph.specs.declared.Key.{Key}
use Rattle.om_code.specs.Ops.{op_of}
use Rattle.om_emit.specs.GraphCode.{place_of, den_of}
use Rattle.om_emit.specs.GraphWalk.{walk_ops}
use Rattle.om_emit.proofs.registers.node_code.Given as goal

abbrev pub invariant-loop-k : goal.invariant-loop-k
invariant-loop-k l =
    let den : Key → ℕ = λ node. place_of l.dens (den_of (anti_field l.particles) l.n node) in
    record {
      ops : map op_of l.instrs ++ walk_ops den l.k (drop l.k l.graph.nodes) (drop l.next l.graph.terms) ≡ walk_ops den 0 l.graph.nodes l.graph.terms;
      within : l.next ≤ length l.graph.terms;
    }
