use Rattle.std.proofs.Common.{map, ap, refl, ◌∙◌, Some}
use Rattle.om_graph.specs.Fillings.{filling_at, listed_sides}
use Rattle.om_graph.specs.Reactions.{reaction_in}
use Rattle.om_graph.proofs.KeptFillings.{found_at, now_last, vertices_at}
use Rattle.om_graph.proofs.fillings.Fillings.find.Goals as goal

pub refill-requires-clause-vertices : goal.refill-requires-clause-vertices
refill-requires-clause-vertices c = vertices_at (reaction_in c.args.reaction.now) c.args.self.now.meetings.closing c.place_of.new.self c.in_ok-place.place c.at-met.result.now c.args.keys.now c.in_ok-place.ensures.place c.at-met.ensures

pub returns-clause-cached : goal.returns-clause-cached
returns-clause-cached c =
    now_last (reaction_in c.args.reaction.now) c.args.self.now.meetings.closing (record { meetings = c.place_of.new.self; last = Some c.sides_of-sides.result; fillings = c.refill.new.fillings }) c.args.keys.now c.sides_of-sides.result
    c.in_ok-place.ensures.cached refl c.sides_of-sides.ensures.listed
    (found_at (reaction_in c.args.reaction.now) c.args.self.now.meetings.closing c.place_of.new.self c.in_ok-place.place c.at-met.result.now c.args.keys.now (listed_sides c.sides_of-sides.result) c.refill.new.fillings.items c.in_ok-place.ensures.place c.at-met.ensures c.sides_of-sides.ensures.listed
    (c.in_ok-refill.ensures ∙ ap (λ b. map (filling_at (reaction_in c.args.reaction.now) b (listed_sides c.sides_of-sides.result)) c.at-met.result.now) c.in_ok-place.ensures.cached.kind))

pub returns-clause-found : goal.returns-clause-found
returns-clause-found c =
    found_at (reaction_in c.args.reaction.now) c.args.self.now.meetings.closing c.place_of.new.self c.in_ok-place.place c.at-met.result.now c.args.keys.now (listed_sides c.sides_of-sides.result) c.refill.new.fillings.items c.in_ok-place.ensures.place c.at-met.ensures c.sides_of-sides.ensures.listed
    (c.in_ok-refill.ensures ∙ ap (λ b. map (filling_at (reaction_in c.args.reaction.now) b (listed_sides c.sides_of-sides.result)) c.at-met.result.now) c.in_ok-place.ensures.cached.kind)
