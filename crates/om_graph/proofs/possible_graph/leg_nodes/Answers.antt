use Rattle.std.proofs.Common.{◌∙◌, arith}
use Rattle.om_graph.specs.Reactions.{reaction_in}
use Rattle.om_graph.proofs.LegNodes.{leg_more, leg_stands, no_legs}
use Rattle.om_graph.proofs.possible_graph.leg_nodes.Goals as goal

pub loop-leg-init : goal.loop-leg-init
loop-leg-init c = (c.in-Ok.ensures ∙ no_legs (reaction_in c.args.reaction.now), omega arith)

pub add-requires : goal.add-requires
add-requires c = record {
  last = leg_stands (reaction_in c.args.reaction.now) c.loop-leg.nodes c.loop-leg.leg c.leg_key.result c.loop-leg.invariant.0 c.loop-leg.invariant.1 (omega (arith, c.loop-leg-test.true, c.size-leg-end.ensures.most)) c.leg_key.ensures;
}

pub loop-leg-preserved : goal.loop-leg-preserved
loop-leg-preserved c = (
  leg_more (reaction_in c.args.reaction.now) c.loop-leg.nodes c.add.new.self c.loop-leg.leg c.leg_key.result c.loop-leg.invariant.0 c.loop-leg.invariant.1 (omega (arith, c.loop-leg-test.true, c.size-leg-end.ensures.most)) c.leg_key.ensures c.in_default-add.ensures.nodes,
  omega arith,
)
