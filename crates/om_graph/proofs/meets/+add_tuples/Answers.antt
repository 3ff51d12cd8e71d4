use Rattle.std.proofs.Common.{◌≡◌, ℕ, ◌+◌, ◌-◌, ◌<◌, ◌++◌, [], ◌∷◌, List, flat_map, take, drop, length, ap, sym, subst, ◌∙◌, arith}
use Rattle.om_graph.specs.declared.Key.{Key}
use Rattle.om_graph.specs.Caches.{AllBelow, counts_from}
use Rattle.om_graph.specs.Loops.{Adds, AllFrom, MeetWell, chosen_nodes, meet_by}
use Rattle.om_graph.specs.Reactions.{reaction_in}
use Rattle.om_graph.specs.Tuples.{met_from, numbers_over}
use Rattle.om_graph.proofs.Choosing.{below_more, empty_is, first_and_rest, from_first, from_none, none_more, one_more, rest_length}
use Rattle.om_graph.proofs.Steps.{none_from, more_from, stops_from}
use Rattle.om_graph.proofs.meets.+add_tuples.Goals as goal

pub add_meetings-requires-clause-fit : goal.add_meetings-requires-clause-fit
add_meetings-requires-clause-fit g t c =
    let r = reaction_in c.args.reaction.now in
    let keys = g.N.Meets.keys c.args.nodes.now in
    let Fit = MeetWell r g.N.Meets.closing (g.N.Meets.fit r) in
    none_more Fit keys (chosen_nodes c.args.chosen) (subst (AllFrom Fit keys (chosen_nodes c.args.chosen)) (empty_is c.args.parts.now c.in-empty.len_below) c.requires.fit)

pub returns-in-empty-clause-added : goal.returns-in-empty-clause-added
returns-in-empty-clause-added g t c =
    let r = reaction_in c.args.reaction.now in
    let meet = meet_by r g.N.Meets.closing (g.N.Meets.made r) in
    subst (λ l. Adds c.args.limit (g.N.Meets.seen c.args.found.now) l (g.N.Meets.seen c.add_meetings.new.found) c.add_meetings.result)
    (sym (from_none (λ (k : Key). k.legs) meet (g.N.Meets.keys c.args.nodes.now) (chosen_nodes c.args.chosen) c.args.parts.now c.in-empty.len_below)) c.add_meetings.ensures.added

pub add_tuples-requires : goal.add_tuples-requires
add_tuples-requires g t c = λ κs lives.
    let r = reaction_in c.args.reaction.now in
    let keys = g.N.Meets.keys c.args.nodes.now in
    let is = chosen_nodes c.args.chosen in
    let more = take (length c.args.parts.now - 1) (drop 1 c.args.parts.now) in
    let Fit = MeetWell r g.N.Meets.closing (g.N.Meets.fit r) in
    let e = rest_length c.args.parts.now c.in-len1-up.len_at_least in
    let n = c.with-chosen.ensures.count in
    let numbers = c.of-range.ensures.numbers ∙ ap (λ (ns : List Key). numbers_over (λ (k : Key). k.legs) ns c.part-item.result) c.nodes-known.ensures in
    let below = below_more (length keys) is c.loop-node.node c.requires.known (omega (arith, c.loop-node-test.true, c.of-range.ensures.within, ap length c.nodes-known.ensures)) in
    let fit = one_more Fit keys is (chosen_nodes c.with-chosen.result) c.part-item.result more c.of-range.result c.loop-node.node (subst (AllFrom Fit keys is) (first_and_rest c.args.parts.now c.part-item.result c.in-len1-up.len_at_least c.part-item.is) c.requires.fit) numbers c.loop-node.invariant.from c.loop-node-test.true c.with-chosen.ensures.nodes in
    (omega (arith, c.decreases), (lives.0, (lives.1.0, (lives.1.1, (omega (arith, c.requires.some), (omega (arith, c.requires.few), (subst (AllBelow (length keys)) (sym c.with-chosen.ensures.nodes) below, (fit, c.loop-node.invariant.cached))))))))

pub loop-node-init : goal.loop-node-init
loop-node-init g t c =
    let r = reaction_in c.args.reaction.now in
    let keys = g.N.Meets.keys c.args.nodes.now in
    let more = take (length c.args.parts.now - 1) (drop 1 c.args.parts.now) in
    let meet = meet_by r g.N.Meets.closing (g.N.Meets.made r) in
    record {
      all = none_from (λ n. met_from (λ (k : Key). k.legs) meet keys (chosen_nodes c.args.chosen ++ n ∷ []) more) c.of-range.result.first (g.N.Meets.seen c.args.found.now);
      fits = λ h. h;
      from = omega arith;
      cached = c.requires.cached;
    }

pub returns-in-Err-clause-added : goal.returns-in-Err-clause-added
returns-in-Err-clause-added g t c = λ e.
    let r = reaction_in c.args.reaction.now in
    let keys = g.N.Meets.keys c.args.nodes.now in
    let more = take (length c.args.parts.now - 1) (drop 1 c.args.parts.now) in
    let meet = meet_by r g.N.Meets.closing (g.N.Meets.made r) in
    let old = g.N.Meets.seen c.args.found.now in
    let now = g.N.Meets.seen c.loop-node.found in
    let h = ap (λ (is : List ℕ). length now + length (met_from (λ (k : Key). k.legs) meet keys is more)) c.with-chosen.ensures.nodes in
    let l = stops_from (λ n. met_from (λ (k : Key). k.legs) meet keys (chosen_nodes c.args.chosen ++ n ∷ []) more) c.of-range.result.first c.loop-node.node c.of-range.result.end old now c.args.limit c.loop-node.invariant.from c.loop-node-test.true c.loop-node.invariant.all (subst (λ (n : ℕ). c.args.limit < n) h (c.in-Err.ensures.added e)) in
    subst (λ l. c.args.limit < length old + length l) (sym (from_first (λ (k : Key). k.legs) meet keys (chosen_nodes c.args.chosen) c.args.parts.now more c.part-item.result c.of-range.result (first_and_rest c.args.parts.now c.part-item.result c.in-len1-up.len_at_least c.part-item.is) (c.of-range.ensures.numbers ∙ ap (λ (ns : List Key). numbers_over (λ (k : Key). k.legs) ns c.part-item.result) c.nodes-known.ensures))) l

pub loop-node-preserved : goal.loop-node-preserved
loop-node-preserved g t c =
    let r = reaction_in c.args.reaction.now in
    let keys = g.N.Meets.keys c.args.nodes.now in
    let more = take (length c.args.parts.now - 1) (drop 1 c.args.parts.now) in
    let meet = meet_by r g.N.Meets.closing (g.N.Meets.made r) in
    let now = g.N.Meets.seen c.loop-node.found in
    record {
      all = more_from (λ n. met_from (λ (k : Key). k.legs) meet keys (chosen_nodes c.args.chosen ++ n ∷ []) more) c.of-range.result.first c.loop-node.node (g.N.Meets.seen c.args.found.now) now (g.N.Meets.seen c.add_tuples.new.found) c.loop-node.invariant.from c.loop-node.invariant.all
          (c.in_default.ensures.added.0 ∙ ap (λ (is : List ℕ). now ++ met_from (λ (k : Key). k.legs) meet keys is more) c.with-chosen.ensures.nodes);
      fits = λ h. c.in_default.ensures.added.1 (c.loop-node.invariant.fits h);
      from = omega (arith, c.loop-node.invariant.from);
      cached = c.in_default.ensures.cached;
    }

pub returns-after-loop-node-clause-added : goal.returns-after-loop-node-clause-added
returns-after-loop-node-clause-added g t c =
    let r = reaction_in c.args.reaction.now in
    let keys = g.N.Meets.keys c.args.nodes.now in
    let is = chosen_nodes c.args.chosen in
    let more = take (length c.args.parts.now - 1) (drop 1 c.args.parts.now) in
    let meet = meet_by r g.N.Meets.closing (g.N.Meets.made r) in
    let old = g.N.Meets.seen c.args.found.now in
    let e : c.loop-node.node ≡ c.of-range.result.end = omega (arith, c.loop-node-test.false, c.loop-node.auto.node-end, c.of-range.ensures.rising) in (
      c.loop-node.invariant.all ∙ ap (λ (n : ℕ). old ++ flat_map (λ n. met_from (λ (k : Key). k.legs) meet keys (is ++ n ∷ []) more) (counts_from c.of-range.result.first (n - c.of-range.result.first))) e
          ∙ ap (λ l. old ++ l) (sym (from_first (λ (k : Key). k.legs) meet keys is c.args.parts.now more c.part-item.result c.of-range.result (first_and_rest c.args.parts.now c.part-item.result c.in-len1-up.len_at_least c.part-item.is) (c.of-range.ensures.numbers ∙ ap (λ (ns : List Key). numbers_over (λ (k : Key). k.legs) ns c.part-item.result) c.nodes-known.ensures))),
      c.loop-node.invariant.fits,
    )
