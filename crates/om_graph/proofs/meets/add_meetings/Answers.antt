use Rattle.std.proofs.Common.{◌≡◌, Some, ◌+◌, ◌<◌, ◌++◌, List, flat_map, take, length, ap, sym, subst, ◌∙◌, arith}
use Rattle.om_graph.specs.declared.Key.{Key}
use Rattle.om_graph.specs.declared.fillings.Filling.{Filling}
use Rattle.om_graph.specs.Graph.{at_numbers}
use Rattle.om_graph.specs.Fillings.{fillings_at, sides_of}
use Rattle.om_graph.specs.Loops.{chosen_nodes}
use Rattle.om_graph.specs.Reactions.{reaction_in}
use Rattle.om_graph.specs.Vertices.{fields_of}
use Rattle.om_graph.proofs.KeptFillings.{IsFilling, is_filling, over_meetings}
use Rattle.om_graph.proofs.MeetingLists.{meeting_vertex}
use Rattle.om_graph.proofs.MetFused.{met_is}
use Rattle.om_graph.proofs.Steps.{stops_at, take_whole}
use Rattle.om_graph.proofs.meets.add_meetings.Goals as goal

pub add_choices-requires-clause-vertex : goal.add_choices-requires-clause-vertex
add_choices-requires-clause-vertex g c =
    let r = reaction_in c.args.reaction.now in
    let at = take c.args.chosen.count c.keys_of-all.result in
    let e = c.all-fillings.ensures ∙ c.in_default.ensures.found ∙ ap (λ b. fillings_at r b (sides_of at)) c.requires.cached.meetings.kind in
    let d = c.filling-item.result in
    meeting_vertex r g.N.Meets.closing (fields_of at) d.meeting (subst (IsFilling r g.N.Meets.closing at) (sym c.filling-item.is) (is_filling r g.N.Meets.closing at c.all-fillings.result.now c.loop-filling.filling-index d e c.loop-filling-test.true)).0

pub add_choices-requires-clause-fit : goal.add_choices-requires-clause-fit
add_choices-requires-clause-fit g c =
    let r = reaction_in c.args.reaction.now in
    let at = take c.args.chosen.count c.keys_of-all.result in
    let e = c.all-fillings.ensures ∙ c.in_default.ensures.found ∙ ap (λ b. fillings_at r b (sides_of at)) c.requires.cached.meetings.kind in
    let d = c.filling-item.result in
    c.requires.fit at (subst (λ (ns : List Key). at_numbers ns (chosen_nodes c.args.chosen) ≡ Some (take c.args.chosen.count c.keys_of-all.result)) c.nodes-known.ensures c.keys_of-all.ensures) d.meeting (subst (IsFilling r g.N.Meets.closing at) (sym c.filling-item.is) (is_filling r g.N.Meets.closing at c.all-fillings.result.now c.loop-filling.filling-index d e c.loop-filling-test.true)).0

pub add_choices-requires-clause-filled : goal.add_choices-requires-clause-filled
add_choices-requires-clause-filled g c =
    let r = reaction_in c.args.reaction.now in
    let at = take c.args.chosen.count c.keys_of-all.result in
    let e = c.all-fillings.ensures ∙ c.in_default.ensures.found ∙ ap (λ b. fillings_at r b (sides_of at)) c.requires.cached.meetings.kind in
    let d = c.filling-item.result in
    (subst (IsFilling r g.N.Meets.closing at) (sym c.filling-item.is) (is_filling r g.N.Meets.closing at c.all-fillings.result.now c.loop-filling.filling-index d e c.loop-filling-test.true)).1

pub returns-in-Err-add_choices-clause-added : goal.returns-in-Err-add_choices-clause-added
returns-in-Err-add_choices-clause-added g c = λ t.
    let r = reaction_in c.args.reaction.now in
    let is = chosen_nodes c.args.chosen in
    let at = take c.args.chosen.count c.keys_of-all.result in
    let old = g.N.Meets.seen c.args.found.now in
    let now = g.N.Meets.seen c.loop-filling.found in
    let e = c.all-fillings.ensures ∙ c.in_default.ensures.found ∙ ap (λ b. fillings_at r b (sides_of at)) c.requires.cached.meetings.kind in
    let d = c.filling-item.result in
    let l = stops_at (λ (x : Filling). g.N.Meets.made r is at x.meeting) c.all-fillings.result.now c.loop-filling.filling-index d old now c.args.limit c.loop-filling-test.true c.loop-filling.invariant.all (subst (λ (x : Filling). c.args.limit < length now + length (g.N.Meets.made r is at x.meeting)) c.filling-item.is (c.in-Err-add_choices.ensures.added t)) in
    subst (λ l. c.args.limit < length old + length l) (over_meetings r g.N.Meets.closing (g.N.Meets.made r is at) at c.all-fillings.result.now e ∙ sym (met_is r g.N.Meets.closing (g.N.Meets.made r) (g.N.Meets.keys c.args.nodes.now) is at (subst (λ (ns : List Key). at_numbers ns (chosen_nodes c.args.chosen) ≡ Some (take c.args.chosen.count c.keys_of-all.result)) c.nodes-known.ensures c.keys_of-all.ensures))) l

pub returns-clause-added : goal.returns-clause-added
returns-clause-added g c =
    let r = reaction_in c.args.reaction.now in
    let is = chosen_nodes c.args.chosen in
    let at = take c.args.chosen.count c.keys_of-all.result in
    let e = c.all-fillings.ensures ∙ c.in_default.ensures.found ∙ ap (λ b. fillings_at r b (sides_of at)) c.requires.cached.meetings.kind in
    let w = take_whole c.all-fillings.result.now c.loop-filling.filling-index (omega (arith, c.loop-filling-test.false)) in (
      c.loop-filling.invariant.all
          ∙ ap (λ l. g.N.Meets.seen c.args.found.now ++ l) (ap (flat_map (λ (x : Filling). g.N.Meets.made r is at x.meeting)) w ∙ over_meetings r g.N.Meets.closing (g.N.Meets.made r is at) at c.all-fillings.result.now e ∙ sym (met_is r g.N.Meets.closing (g.N.Meets.made r) (g.N.Meets.keys c.args.nodes.now) is at (subst (λ (ns : List Key). at_numbers ns (chosen_nodes c.args.chosen) ≡ Some (take c.args.chosen.count c.keys_of-all.result)) c.nodes-known.ensures c.keys_of-all.ensures))),
      c.loop-filling.invariant.fits,
    )
