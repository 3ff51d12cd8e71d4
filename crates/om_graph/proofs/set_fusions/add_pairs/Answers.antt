use Rattle.std.proofs.Common.{map, arith}
use Rattle.om_graph.specs.Loops.{fused_seen, meet_fused, met_parts}
use Rattle.om_graph.specs.Reactions.{reaction_in}
use Rattle.om_graph.proofs.Steps.{all_yielded, contained, one_yielded, stops_yielded}
use Rattle.om_graph.proofs.set_fusions.add_pairs.Goals as goal

pub add_split-requires : goal.add_split-requires
add_split-requires c =
    let is = contained c.loop-parts.yielded c.loop-parts.parts-iterator c.next.new.self c.into_iter-parts-iterator.ensures.into_iter_gives c.loop-parts.yielded_by c.next.ensures.steps c.in-Some.is in
    let l = c.requires.lengths c.in-Some.parts is in
    record { some = omega (arith, l); few = omega (arith, l); join = c.requires.join c.in-Some.parts is; cached = c.loop-parts.invariant.cached }

pub loop-parts-preserved : goal.loop-parts-preserved
loop-parts-preserved c = record {
  all = one_yielded (met_parts (reaction_in c.args.reaction.now) (meet_fused (reaction_in c.args.reaction.now)) c.args.nodes.now c.args.rest) c.loop-parts.yielded c.in-Some.parts (map fused_seen c.args.found.now.items) c.loop-parts.invariant.all c.in_default.ensures.added.0;
  fits = λ h. c.in_default.ensures.added.1 (c.loop-parts.invariant.fits h);
  cached = c.in_default.ensures.cached;
}

pub returns-in-Err-clause-added : goal.returns-in-Err-clause-added
returns-in-Err-clause-added c = λ e. stops_yielded c.loop-parts.yielded c.loop-parts.parts-iterator c.next.new.self c.into_iter-parts-iterator.ensures.into_iter_gives c.loop-parts.yielded_by c.next.ensures.steps (met_parts (reaction_in c.args.reaction.now) (meet_fused (reaction_in c.args.reaction.now)) c.args.nodes.now c.args.rest) (map fused_seen c.args.found.now.items) c.in-Some.is c.loop-parts.invariant.all (c.in-Err.ensures.added e)

pub returns-clause-added : goal.returns-clause-added
returns-clause-added c = (all_yielded c.loop-parts.yielded c.loop-parts.parts-iterator c.next.new.self c.into_iter-parts-iterator.ensures.into_iter_gives c.loop-parts.yielded_by c.next.ensures.steps (met_parts (reaction_in c.args.reaction.now) (meet_fused (reaction_in c.args.reaction.now)) c.args.nodes.now c.args.rest) (map fused_seen c.args.found.now.items) c.in-None.is c.loop-parts.invariant.all, c.loop-parts.invariant.fits)
