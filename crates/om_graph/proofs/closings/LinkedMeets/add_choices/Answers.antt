use Rattle.std.proofs.Common.{List, Option, ◌≤◌, ◌+◌, ◌<◌, ◌++◌, ◌∷◌, [], map, flat_map, take, length, ap, subst, sym, ◌∙◌}
use Rattle.om_colour.specs.Partials.{Fits, closed, no_hole}
use Rattle.om_colour.specs.declared.Flow.{Flow}
use Rattle.om_colour.specs.declared.Choice.{Choice}
use Rattle.om_graph.specs.Loops.{Signed, chosen_nodes, counts, closed_at}
use Rattle.om_graph.specs.declared.Key.{Key}
use Rattle.om_graph.specs.Fillings.{key_at}
use Rattle.om_graph.specs.Reactions.{reaction_in}
use Rattle.om_graph.specs.Vertices.{four_slots}
use Rattle.om_graph.specs.Words.{keys_behind, lines_of_key, partials_behind}
use Rattle.om_graph.proofs.AtNumbers.{mapped}
use Rattle.om_graph.proofs.Filling.{closed_filled}
use Rattle.om_graph.proofs.ClosedFlows.{closes_at, flow_is, found_is, minus_is}
use Rattle.om_graph.proofs.Steps.{none_yet, more, stops}
use Rattle.om_graph.proofs.closings.LinkedMeets.add_choices.Goals as goal

pub loop-choice-init : goal.loop-choice-init
loop-choice-init c = record {
  all = none_yet (λ k. closed_at (reaction_in c.args.reaction.now) (chosen_nodes c.args.chosen) c.args.at.now c.args.meeting.vertex k ∷ []) c.args.found.now;
  fits = λ h. h;
}

pub lines_at-slots-requires : goal.lines_at-slots-requires
lines_at-slots-requires c = mapped lines_of_key c.args.self.now (chosen_nodes c.args.chosen) c.args.at.now (take c.args.chosen.count c.lines_of-all_lines.result) c.requires.chosen c.lines_of-all_lines.ensures

pub closed-requires-clause-fit : goal.closed-requires-clause-fit
closed-requires-clause-fit c =
    subst (λ (x : Choice). Fits (partials_behind c.args.parts.now c.args.at.now) x no_hole) (sym c.choice.ensures)
    (closes_at (reaction_in c.args.reaction.now) c.args.meeting.vertex c.args.at.now (keys_behind c.args.parts.now c.args.at.now) c.loop-choice.choice c.requires.fit
    (ap four_slots (ap (map (key_at c.args.at.now)) c.requires.filled ∙ closed_filled (reaction_in c.args.reaction.now) c.args.meeting c.args.at.now))
    (subst (λ n. c.loop-choice.choice < n) c.choices-choice-end.ensures c.loop-choice-test.true))

pub returns-in-Err : goal.returns-in-Err
returns-in-Err c = record {
  added = λ e.
      let n = c.choices-choice-end.result in
      let l = stops (λ k. closed_at (reaction_in c.args.reaction.now) (chosen_nodes c.args.chosen) c.args.at.now c.args.meeting.vertex k ∷ []) c.loop-choice.choice n c.args.found.now c.loop-choice.found c.args.limit c.loop-choice-test.true c.loop-choice.invariant.all (c.in-Err.ensures.added e) in
      subst (λ k. c.args.limit < length c.args.found.now + length (flat_map (λ k. closed_at (reaction_in c.args.reaction.now) (chosen_nodes c.args.chosen) c.args.at.now c.args.meeting.vertex k ∷ []) (counts k))) c.choices-choice-end.ensures l;
}

pub loop-choice-preserved : goal.loop-choice-preserved
loop-choice-preserved c =
    let there = ap four_slots (ap (map (key_at c.args.at.now)) c.requires.filled ∙ closed_filled (reaction_in c.args.reaction.now) c.args.meeting c.args.at.now) in
    let flow = flow_is (reaction_in c.args.reaction.now) c.args.meeting.vertex c.loop-choice.choice c.args.at.now (keys_behind c.args.parts.now c.args.at.now) c.closed.result there
    (c.closed.ensures ∙ ap (λ (x : Choice). closed (partials_behind c.args.parts.now c.args.at.now) x) c.choice.ensures) in
    let sign = minus_is (reaction_in c.args.reaction.now) c.args.meeting.vertex c.args.at.now c.fermions.result (keys_behind c.args.parts.now c.args.at.now) c.is_minus-minus.result there
    (subst (λ (s : List (Option Key)). length s ≤ 4) (ap (map (key_at c.args.at.now)) c.requires.filled ∙ closed_filled (reaction_in c.args.reaction.now) c.args.meeting c.args.at.now) c.is_minus-minus.ensures.few) c.fermions.ensures c.is_minus-minus.ensures.sign in
    let x = found_is (reaction_in c.args.reaction.now) c.args.meeting.vertex c.loop-choice.choice (chosen_nodes c.args.chosen) c.args.at.now _ _ flow sign in
    record {
      all = more (λ k. closed_at (reaction_in c.args.reaction.now) (chosen_nodes c.args.chosen) c.args.at.now c.args.meeting.vertex k ∷ []) c.loop-choice.choice c.args.found.now c.loop-choice.found c.push.new.self c.loop-choice.invariant.all
          (c.in_default.ensures.added.0 ∙ ap (λ (y : Signed Flow). c.loop-choice.found ++ y ∷ []) x);
      fits = λ h. c.in_default.ensures.added.1 (c.loop-choice.invariant.fits h);
    }
