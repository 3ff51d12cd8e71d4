use Rattle.std.proofs.Common.{◌≡◌, ◌∙◌, List, ℕ, ◌+◌, ◌-◌, ◌<◌, ap, flat_map, length, sym, subst, arith}
use Rattle.om_legs.specs.Legs.{all_legs}
use Rattle.om_graph.specs.declared.TheConstants.{MOST_TERMS}
use Rattle.om_graph.specs.Caches.{counts_from}
use Rattle.om_graph.specs.Possible.{state_of}
use Rattle.om_graph.specs.Reactions.{reaction_in}
use Rattle.om_graph.specs.Search.{walk}
use Rattle.om_graph.specs.SetSearch.{set_at, set_search}
use Rattle.om_graph.specs.SetWalk.{CanWalk, HasWalked}
use Rattle.om_graph.specs.Vertices.{fusion}
use Rattle.om_graph.proofs.WalkSteps.{sets_in_range, can_next, large_in_range, more_in_range, none_in_range}
use Rattle.om_graph.proofs.walk.add_sets_of.Goals as goal

pub loop-number-init : goal.loop-number-init
loop-number-init c =
    let r = reaction_in c.args.reaction.now in
    record {
      walked = none_in_range r c.args.nodes.now c.args.terms.now (set_at (reaction_in c.args.reaction.now).scattering.size c.args.legs) 1 (c.number-end.result + 1) (subst (CanWalk r c.args.nodes.now c.args.terms.now) (sets_in_range (reaction_in c.args.reaction.now).scattering.size c.args.legs c.number-end.result (c.number-end.ensures.same ∙ c.all.ensures ∙ ap all_legs c.size.ensures.size)) c.requires.can);
      from = omega arith;
      cached = c.requires.cached;
    }

pub add_numbered-requires-clause-can : goal.add_numbered-requires-clause-can
add_numbered-requires-clause-can c =
    let r = reaction_in c.args.reaction.now in
    can_next r c.args.nodes.now c.args.terms.now (set_at (reaction_in c.args.reaction.now).scattering.size c.args.legs) 1 c.loop-number.number c.loop-number.invariant.from c.loop-number.nodes c.loop-number.terms c.loop-number.invariant.walked (c.number-end.result + 1) c.loop-number-test.true (subst (CanWalk r c.args.nodes.now c.args.terms.now) (sets_in_range (reaction_in c.args.reaction.now).scattering.size c.args.legs c.number-end.result (c.number-end.ensures.same ∙ c.all.ensures ∙ ap all_legs c.size.ensures.size)) c.requires.can)

pub returns-in-Err-clause-walks : goal.returns-in-Err-clause-walks
returns-in-Err-clause-walks c = λ e.
    let r = reaction_in c.args.reaction.now in
    subst (λ (ss : List ℕ). MOST_TERMS < length (walk (fusion r) (set_search r) (state_of c.args.nodes.now c.args.terms.now) ss).terms) (sym (sets_in_range (reaction_in c.args.reaction.now).scattering.size c.args.legs c.number-end.result (c.number-end.ensures.same ∙ c.all.ensures ∙ ap all_legs c.size.ensures.size)))
    (large_in_range r c.args.nodes.now c.args.terms.now (set_at (reaction_in c.args.reaction.now).scattering.size c.args.legs) 1 c.loop-number.number c.loop-number.invariant.from c.loop-number.nodes c.loop-number.terms c.loop-number.invariant.walked (c.number-end.result + 1) c.loop-number-test.true (subst (CanWalk r c.args.nodes.now c.args.terms.now) (sets_in_range (reaction_in c.args.reaction.now).scattering.size c.args.legs c.number-end.result (c.number-end.ensures.same ∙ c.all.ensures ∙ ap all_legs c.size.ensures.size)) c.requires.can) (c.in-Err.ensures.walks e))

pub loop-number-preserved : goal.loop-number-preserved
loop-number-preserved c =
    let r = reaction_in c.args.reaction.now in
    record {
      walked = more_in_range r c.args.nodes.now c.args.terms.now (set_at (reaction_in c.args.reaction.now).scattering.size c.args.legs) 1 c.loop-number.number c.loop-number.invariant.from c.loop-number.nodes c.loop-number.terms c.loop-number.invariant.walked c.add_numbered.new.nodes c.add_numbered.new.terms c.in_default.ensures.walks;
      from = omega (arith, c.loop-number.invariant.from);
      cached = c.in_default.ensures.cached;
    }

pub returns-clause-walks : goal.returns-clause-walks
returns-clause-walks c =
    let r = reaction_in c.args.reaction.now in
    let e : c.loop-number.number ≡ c.number-end.result + 1 = omega (arith, c.loop-number-test.false, c.loop-number.auto.number-end) in
    subst (λ (ss : List ℕ). HasWalked r c.args.nodes.now c.args.terms.now ss c.loop-number.nodes c.loop-number.terms) (sym (sets_in_range (reaction_in c.args.reaction.now).scattering.size c.args.legs c.number-end.result (c.number-end.ensures.same ∙ c.all.ensures ∙ ap all_legs c.size.ensures.size)))
    (subst (λ k. HasWalked r c.args.nodes.now c.args.terms.now (flat_map (set_at (reaction_in c.args.reaction.now).scattering.size c.args.legs) (counts_from 1 (k - 1))) c.loop-number.nodes c.loop-number.terms) e c.loop-number.invariant.walked)
