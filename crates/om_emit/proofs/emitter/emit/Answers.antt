use Rattle.std.proofs.Common.{◌≡◌, ◌^◌, ◌<◌, ◌∙◌, length, ap, arith, sym, subst}
use Rattle.om_graph.specs.Reactions.{reaction_of}
use Rattle.om_graph.specs.declared.Graph.{Graph}
use Rattle.om_keystone.specs.CanonicalGraph.{IsCanonicalOf}
use Rattle.om_keystone.proofs.BuiltGraph.{canonical_is_built}
use Rattle.om_code.specs.declared.code.Code.{Code}
use Rattle.om_emit.specs.GraphCode.{IsCodeOf}
use Rattle.om_emit.proofs.CodeSums.{codes_have_fewest_slots}
use Rattle.om_emit.proofs.CodesVerified.{code_is_verified}
use Rattle.om_emit.proofs.emitter.emit.Goals as goal

pub code_of-requires-clause-built : goal.code_of-requires-clause-built
code_of-requires-clause-built c = canonical_is_built c.args.model.now c.args.process.now c.requires.accepted c.requires.process c.graph-graph.result.now (subst (IsCanonicalOf (reaction_of c.args.model.now c.args.process.now)) (sym c.graph-graph.ensures.graph) c.requires.canonical)

pub of-requires : goal.of-requires
of-requires c =
    let g = c.graph-graph.result.now in
    let few_nodes : length g.nodes < 2 ^ 31 = let n = c.len.ensures in let t = c.if-len-gt-MOST_NUMBERED.false in omega (arith, n, t) in
    let few_flows : length g.flows < 2 ^ 31 = let n = c.len-else-len-gt-MOST_NUMBERED.ensures in let t = c.if-len-gt-MOST_NUMBERED-2.false in omega (arith, n, t) in
    code_is_verified c.args.model.now c.args.process.now c.requires.accepted c.requires.process g (subst (IsCanonicalOf (reaction_of c.args.model.now c.args.process.now)) (sym c.graph-graph.ensures.graph) c.requires.canonical)
    c.in_ok-code.code c.in_ok-code.ensures.code few_nodes few_flows c.in_ok-code.ensures.counted

pub returns : goal.returns
returns c =
    let P : Graph → Type 0 = λ g. IsCodeOf c.args.model.now c.args.process.now g c.of.result in
    let made = subst (IsCodeOf c.args.model.now c.args.process.now c.graph-graph.result.now) (sym c.of.ensures) c.in_ok-code.ensures.code in
    let code = subst P c.graph-graph.ensures.graph made in
    let n = c.len-else-len-gt-MOST_NUMBERED.ensures in
    let t = c.if-len-gt-MOST_NUMBERED-2.false in
    let flows : length c.of.result.flows ≡ length c.graph-graph.result.now.flows = ap length (ap (λ (x : Code). x.flows) c.of.ensures ∙ c.in_ok-code.ensures.code.flows) in
    record {
      code = code;
      slots = codes_have_fewest_slots c.args.model.now c.args.process.now c.args.pruned.now c.of.result code;
      few = omega (arith, n, t, flows);
    }
