use Rattle.std.proofs.Common.{◌≡◌, arith, ap, sym, map, ◌++◌}
use Rattle.om_code.specs.declared.code.Instr.{Instr}
use Rattle.om_code.specs.declared.code.Instr.TheVariants.{Fuse}
use Rattle.om_legs.specs.BranchNodes.{nodes_of}
use Rattle.om_code.specs.Ops.{op_of, fuse}
use Rattle.om_emit.specs.GraphCode.{fuse_op}
use Rattle.om_emit.specs.GraphWalk.{front}
use Rattle.om_emit.proofs.Fronts.{ops_stop, rest_stops, ops_more, rest_more, ops_end, rest_end}
use Rattle.om_emit.proofs.registers.push_terms.Goals as goal

pub returns-then-term-number-clause-ops : goal.returns-then-term-number-clause-ops
returns-then-term-number-clause-ops c = ops_stop c.args.number c.args.terms.now c.loop-count.count c.index-terms-count.result (omega arith) c.index-terms-count.is (map op_of c.loop-count.instrs) (map op_of c.args.instrs.now ++ map fuse_op (front c.args.number c.args.terms.now)) c.if-term-number.true c.loop-count.invariant.ops

pub returns-then-term-number-clause-rest : goal.returns-then-term-number-clause-rest
returns-then-term-number-clause-rest c = rest_stops c.args.number c.args.terms.now c.loop-count.count c.index-terms-count.result (omega arith) c.index-terms-count.is c.if-term-number.true c.loop-count.invariant.rest

pub loop-count-preserved : goal.loop-count-preserved
loop-count-preserved c =
    let same : c.index-terms-count.result.node ≡ c.args.number = omega (arith, c.if-term-number.false) in
    let x : Instr = Fuse c.args.number c.index-terms-count.result.minus c.index-terms-count.result.vertex c.index-terms-count.result.choice c.index-terms-count.result.branches in
    record {
      ops = ops_more c.args.number c.args.terms.now c.loop-count.count c.index-terms-count.result (omega arith) c.index-terms-count.is c.loop-count.instrs c.push.new.self x (map op_of c.args.instrs.now ++ map fuse_op (front c.args.number c.args.terms.now)) same c.in_ok-push.ensures.ok
          (ap (λ k. fuse k c.index-terms-count.result.minus c.index-terms-count.result.vertex c.index-terms-count.result.choice (nodes_of c.index-terms-count.result.branches)) (sym same)) c.loop-count.invariant.ops;
      rest = rest_more c.args.number c.args.terms.now c.loop-count.count c.index-terms-count.result (omega arith) c.index-terms-count.is same c.loop-count.invariant.rest;
    }

pub returns-clause-ops : goal.returns-clause-ops
returns-clause-ops c = ops_end c.args.number c.args.terms.now c.loop-count.count (omega arith) (map op_of c.loop-count.instrs) (map op_of c.args.instrs.now ++ map fuse_op (front c.args.number c.args.terms.now)) c.loop-count.invariant.ops

pub returns-clause-rest : goal.returns-clause-rest
returns-clause-rest c = rest_end c.args.number c.args.terms.now c.loop-count.count (omega arith) c.loop-count.invariant.rest
