use Rattle.std.proofs.Common.{Ok, arith, ℕ, List, ◌≤◌, ◌+◌, ◌<◌, ◌++◌, ◌∷◌, [], Option, map, flat_map, length, ap, sym, subst, ◌∙◌}
use Rattle.std.proofs.lemmas.List.{length-map}
use Rattle.om_graph.specs.declared.Key.{Key}
use Rattle.om_graph.specs.Loops.{Signed, chosen_nodes, counts, fused_at, fused_seen, fused_with}
use Rattle.om_graph.specs.Fillings.{key_at}
use Rattle.om_graph.specs.Reactions.{reaction_in}
use Rattle.om_graph.specs.Vertices.{four_slots, hole_of}
use Rattle.om_graph.proofs.Filling.{fused_filled}
use Rattle.om_graph.proofs.FusedKeys.{key_is, found_is, fits_at, minus_is}
use Rattle.om_graph.proofs.Steps.{adds_seen, none_yet, more, stops}
use Rattle.om_graph.proofs.fusions.NodesMeets.add_choices.Goals as goal

pub loop-choice-init : goal.loop-choice-init
loop-choice-init c = record {
  all = none_yet (λ k. fused_at (reaction_in c.args.reaction.now) (chosen_nodes c.args.chosen) c.args.at.now c.in-Some.field c.args.meeting.vertex k ∷ []) (map fused_seen c.args.found.now.items);
  fits = λ h. h;
}

pub joined-requires-clause-hole : goal.joined-requires-clause-hole
joined-requires-clause-hole c = let f = fits_at (reaction_in c.args.reaction.now) c.in-Some.field c.args.meeting.vertex c.loop-choice.choice c.args.at.now c.union_of-legs.result c.slots_at-slots.result.hole c.slots_at-slots.result.keys c.args.meeting.up c.requires.fit c.in-Some.is c.union_of-legs.ensures (c.slots_at-slots.ensures.keys ∙ ap four_slots (ap (map (key_at c.args.at.now)) c.requires.filled ∙ fused_filled (reaction_in c.args.reaction.now) c.in-Some.field c.union_of-legs.result c.args.meeting c.args.at.now c.in-Some.is c.union_of-legs.ensures)) (c.slots_at-slots.ensures.hole ∙ ap hole_of (ap (map (key_at c.args.at.now)) c.requires.filled ∙ fused_filled (reaction_in c.args.reaction.now) c.in-Some.field c.union_of-legs.result c.args.meeting c.args.at.now c.in-Some.is c.union_of-legs.ensures)) (subst (λ n. c.loop-choice.choice < n) c.choices-choice-end.ensures c.loop-choice-test.true) in f.slot

pub joined-requires-clause-free : goal.joined-requires-clause-free
joined-requires-clause-free c = let f = fits_at (reaction_in c.args.reaction.now) c.in-Some.field c.args.meeting.vertex c.loop-choice.choice c.args.at.now c.union_of-legs.result c.slots_at-slots.result.hole c.slots_at-slots.result.keys c.args.meeting.up c.requires.fit c.in-Some.is c.union_of-legs.ensures (c.slots_at-slots.ensures.keys ∙ ap four_slots (ap (map (key_at c.args.at.now)) c.requires.filled ∙ fused_filled (reaction_in c.args.reaction.now) c.in-Some.field c.union_of-legs.result c.args.meeting c.args.at.now c.in-Some.is c.union_of-legs.ensures)) (c.slots_at-slots.ensures.hole ∙ ap hole_of (ap (map (key_at c.args.at.now)) c.requires.filled ∙ fused_filled (reaction_in c.args.reaction.now) c.in-Some.field c.union_of-legs.result c.args.meeting c.args.at.now c.in-Some.is c.union_of-legs.ensures)) (subst (λ n. c.loop-choice.choice < n) c.choices-choice-end.ensures c.loop-choice-test.true) in f.free

pub joined-requires-clause-fit : goal.joined-requires-clause-fit
joined-requires-clause-fit c = let f = fits_at (reaction_in c.args.reaction.now) c.in-Some.field c.args.meeting.vertex c.loop-choice.choice c.args.at.now c.union_of-legs.result c.slots_at-slots.result.hole c.slots_at-slots.result.keys c.args.meeting.up c.requires.fit c.in-Some.is c.union_of-legs.ensures (c.slots_at-slots.ensures.keys ∙ ap four_slots (ap (map (key_at c.args.at.now)) c.requires.filled ∙ fused_filled (reaction_in c.args.reaction.now) c.in-Some.field c.union_of-legs.result c.args.meeting c.args.at.now c.in-Some.is c.union_of-legs.ensures)) (c.slots_at-slots.ensures.hole ∙ ap hole_of (ap (map (key_at c.args.at.now)) c.requires.filled ∙ fused_filled (reaction_in c.args.reaction.now) c.in-Some.field c.union_of-legs.result c.args.meeting c.args.at.now c.in-Some.is c.union_of-legs.ensures)) (subst (λ n. c.loop-choice.choice < n) c.choices-choice-end.ensures c.loop-choice-test.true) in f.fits

pub returns-in-Err : goal.returns-in-Err
returns-in-Err c = record {
  added = λ e.
      let n = c.choices-choice-end.result in
      let l = stops (λ k. fused_at (reaction_in c.args.reaction.now) (chosen_nodes c.args.chosen) c.args.at.now c.in-Some.field c.args.meeting.vertex k ∷ []) c.loop-choice.choice n (map fused_seen c.args.found.now.items) (map fused_seen c.loop-choice.found.items) c.args.limit c.loop-choice-test.true c.loop-choice.invariant.all (let k = c.in-Err.ensures e in let m = length-map c.loop-choice.found.items fused_seen in omega arith) in
      let m = subst (λ k. c.args.limit < length (map fused_seen c.args.found.now.items) + length (flat_map (λ k. fused_at (reaction_in c.args.reaction.now) (chosen_nodes c.args.chosen) c.args.at.now c.in-Some.field c.args.meeting.vertex k ∷ []) (counts k))) c.choices-choice-end.ensures l in
      subst (λ (o : Option ℕ). c.args.limit < length (map fused_seen c.args.found.now.items) + length (fused_with (reaction_in c.args.reaction.now) (chosen_nodes c.args.chosen) c.args.at.now c.args.meeting.vertex o)) (sym c.in-Some.is) m;
}

pub loop-choice-preserved : goal.loop-choice-preserved
loop-choice-preserved c =
    let r = reaction_in c.args.reaction.now in
    let k = key_is r c.in-Some.field c.args.meeting.vertex c.loop-choice.choice c.args.at.now c.union_of-legs.result c.slots_at-slots.result.hole c.slots_at-slots.result.keys c.joined.result c.union_of-legs.ensures (c.slots_at-slots.ensures.keys ∙ ap four_slots (ap (map (key_at c.args.at.now)) c.requires.filled ∙ fused_filled (reaction_in c.args.reaction.now) c.in-Some.field c.union_of-legs.result c.args.meeting c.args.at.now c.in-Some.is c.union_of-legs.ensures)) (c.slots_at-slots.ensures.hole ∙ ap hole_of (ap (map (key_at c.args.at.now)) c.requires.filled ∙ fused_filled (reaction_in c.args.reaction.now) c.in-Some.field c.union_of-legs.result c.args.meeting c.args.at.now c.in-Some.is c.union_of-legs.ensures)) c.joined.ensures in
    let m = minus_is r c.in-Some.field c.args.meeting.vertex c.args.at.now c.union_of-legs.result c.fermions.result c.slots_at-slots.result.keys c.is_odd-minus.result c.union_of-legs.ensures (c.slots_at-slots.ensures.keys ∙ ap four_slots (ap (map (key_at c.args.at.now)) c.requires.filled ∙ fused_filled (reaction_in c.args.reaction.now) c.in-Some.field c.union_of-legs.result c.args.meeting c.args.at.now c.in-Some.is c.union_of-legs.ensures)) (subst (λ (s : List (Option Key)). length s ≤ 4) (ap (map (key_at c.args.at.now)) c.requires.filled ∙ fused_filled (reaction_in c.args.reaction.now) c.in-Some.field c.union_of-legs.result c.args.meeting c.args.at.now c.in-Some.is c.union_of-legs.ensures) c.slots_at-slots.ensures.few) c.fermions.ensures c.is_odd-minus.ensures in
    let x = found_is r c.in-Some.field c.args.meeting.vertex c.loop-choice.choice (chosen_nodes c.args.chosen) c.args.at.now _ _ k m in
    record {
      all = more (λ k. fused_at (reaction_in c.args.reaction.now) (chosen_nodes c.args.chosen) c.args.at.now c.in-Some.field c.args.meeting.vertex k ∷ []) c.loop-choice.choice (map fused_seen c.args.found.now.items) (map fused_seen c.loop-choice.found.items) (map fused_seen c.add.new.found.items) c.loop-choice.invariant.all
          ((adds_seen fused_seen c.args.limit c.loop-choice.found.items c.add.new.found.items (_ ∷ []) (Ok tt) c.in_default-add.ensures).0 ∙ ap (λ (y : Signed Key). map fused_seen c.loop-choice.found.items ++ y ∷ []) x);
      fits = λ h. (adds_seen fused_seen c.args.limit c.loop-choice.found.items c.add.new.found.items (_ ∷ []) (Ok tt) c.in_default-add.ensures).1 (c.loop-choice.invariant.fits h);
    }
