use Rattle.std.proofs.Common.{arith}
use Rattle.om_graph.specs.Loops.{meet_closed, met_partition}
use Rattle.om_graph.specs.Reactions.{reaction_in}
use Rattle.om_graph.proofs.Steps.{all_yielded, contained, one_yielded, stops_yielded}
use Rattle.om_graph.proofs.partitions.add_threes.Goals as goal

pub add_partition-requires : goal.add_partition-requires
add_partition-requires c =
    let is = contained c.loop-parts.yielded c.loop-parts.parts-iterator c.next.new.self c.into_iter-parts-iterator.ensures.into_iter_gives c.loop-parts.yielded_by c.next.ensures.steps c.in-Some.is in
    let l = c.requires.lengths c.in-Some.parts is in
    record { some = omega (arith, l); few = omega (arith, l); close = c.requires.close c.in-Some.parts is; cached = c.loop-parts.invariant.cached }

pub loop-parts-preserved : goal.loop-parts-preserved
loop-parts-preserved c = record {
  all = one_yielded (met_partition (reaction_in c.args.reaction.now) (meet_closed (reaction_in c.args.reaction.now)) c.args.nodes.now) c.loop-parts.yielded c.in-Some.parts c.args.found.now c.loop-parts.invariant.all c.in_default.ensures.added.0;
  fits = λ h. c.in_default.ensures.added.1 (c.loop-parts.invariant.fits h);
  cached = c.in_default.ensures.cached;
}

pub returns-in-Err-clause-added : goal.returns-in-Err-clause-added
returns-in-Err-clause-added c = λ e. stops_yielded c.loop-parts.yielded c.loop-parts.parts-iterator c.next.new.self c.into_iter-parts-iterator.ensures.into_iter_gives c.loop-parts.yielded_by c.next.ensures.steps (met_partition (reaction_in c.args.reaction.now) (meet_closed (reaction_in c.args.reaction.now)) c.args.nodes.now) c.args.found.now c.in-Some.is c.loop-parts.invariant.all (c.in-Err.ensures.added e)

pub returns-clause-added : goal.returns-clause-added
returns-clause-added c = (all_yielded c.loop-parts.yielded c.loop-parts.parts-iterator c.next.new.self c.into_iter-parts-iterator.ensures.into_iter_gives c.loop-parts.yielded_by c.next.ensures.steps (met_partition (reaction_in c.args.reaction.now) (meet_closed (reaction_in c.args.reaction.now)) c.args.nodes.now) c.args.found.now c.in-None.is c.loop-parts.invariant.all, c.loop-parts.invariant.fits)
