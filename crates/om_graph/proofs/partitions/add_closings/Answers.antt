use Rattle.std.proofs.Common.{ℕ, flat_map, subst, inl, inr, refl}
use Rattle.om_legs.specs.Legs.{all_legs}
use Rattle.om_legs.specs.Splits.{AreSplits}
use Rattle.om_graph.specs.Loops.{meet_closed, met_partition}
use Rattle.om_graph.specs.Reactions.{reaction_in}
use Rattle.om_graph.proofs.Steps.{adds_behind, stops_first}
use Rattle.om_graph.proofs.partitions.add_closings.Goals as goal

pub add_threes-requires-clause-close : goal.add_threes-requires-clause-close
add_threes-requires-clause-close c = λ parts k. c.requires.close 3 parts (inl refl) (((subst (λ (n : ℕ). AreSplits 3 (all_legs n) c.partitions3-threes.result) c.size.ensures.size c.partitions3-threes.ensures.items).members parts).0 k)

pub add_fours-requires-clause-close : goal.add_fours-requires-clause-close
add_fours-requires-clause-close c = λ parts k. c.requires.close 4 parts (inr refl) (((subst (λ (n : ℕ). AreSplits 4 (all_legs n) c.partitions4-fours.result) c.size-2.ensures.size c.partitions4-fours.ensures.items).members parts).0 k)

pub returns-in-Err : goal.returns-in-Err
returns-in-Err c = record {
  added = (c.partitions3-threes.result, c.partitions4-fours.result, (subst (λ (n : ℕ). AreSplits 3 (all_legs n) c.partitions3-threes.result) c.size.ensures.size c.partitions3-threes.ensures.items), (subst (λ (n : ℕ). AreSplits 4 (all_legs n) c.partitions4-fours.result) c.size-2.ensures.size c.partitions4-fours.ensures.items), λ e. stops_first c.args.found.now (flat_map (met_partition (reaction_in c.args.reaction.now) (meet_closed (reaction_in c.args.reaction.now)) c.args.nodes.now) c.partitions3-threes.result) (flat_map (met_partition (reaction_in c.args.reaction.now) (meet_closed (reaction_in c.args.reaction.now)) c.args.nodes.now) c.partitions4-fours.result) c.args.limit (c.in-Err.ensures.added e));
}

pub returns : goal.returns
returns c = record {
  added = (
    c.partitions3-threes.result,
    c.partitions4-fours.result,
    (subst (λ (n : ℕ). AreSplits 3 (all_legs n) c.partitions3-threes.result) c.size.ensures.size c.partitions3-threes.ensures.items),
    (subst (λ (n : ℕ). AreSplits 4 (all_legs n) c.partitions4-fours.result) c.size-2.ensures.size c.partitions4-fours.ensures.items),
    adds_behind c.args.limit c.args.found.now c.add_threes.new.found c.add_fours.new.found (flat_map (met_partition (reaction_in c.args.reaction.now) (meet_closed (reaction_in c.args.reaction.now)) c.args.nodes.now) c.partitions3-threes.result) (flat_map (met_partition (reaction_in c.args.reaction.now) (meet_closed (reaction_in c.args.reaction.now)) c.args.nodes.now) c.partitions4-fours.result) c.add_fours.result c.in_default.ensures.added.0 c.in_default.ensures.added.1 c.add_fours.ensures.added,
  );
}
