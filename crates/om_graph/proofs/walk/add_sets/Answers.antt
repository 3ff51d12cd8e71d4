use Rattle.std.proofs.Common.{◌≡◌, false, List, ℕ, ◌+◌, ◌-◌, ◌/◌, ◌<◌, flat_map, length, sym, subst, arith}
use Rattle.om_graph.specs.declared.TheConstants.{MOST_TERMS}
use Rattle.om_graph.specs.Caches.{counts_from}
use Rattle.om_graph.specs.Possible.{state_of}
use Rattle.om_graph.specs.Reactions.{reaction_in}
use Rattle.om_graph.specs.Search.{walk}
use Rattle.om_graph.specs.SetSearch.{sets_of_size, set_search}
use Rattle.om_graph.specs.SetWalk.{CanWalk, HasWalked}
use Rattle.om_graph.specs.Vertices.{fusion}
use Rattle.om_graph.proofs.KeptFillings.{none_filled}
use Rattle.om_graph.proofs.WalkSteps.{all_in_range, can_next, large_in_range, more_in_range, none_in_range}
use Rattle.om_graph.proofs.walk.add_sets.Goals as goal

pub loop-legs-init : goal.loop-legs-init
loop-legs-init c =
    let r = reaction_in c.args.reaction.now in
    record {
      walked = none_in_range r c.args.nodes.now c.args.terms.now (sets_of_size (reaction_in c.args.reaction.now).scattering.size) 2 (c.size.result / 2 + 1) (subst (CanWalk r c.args.nodes.now c.args.terms.now) (all_in_range (reaction_in c.args.reaction.now).scattering.size c.size.result c.size.ensures.size) c.requires);
      from = omega arith;
      cached = none_filled (reaction_in c.args.reaction.now) false c.new-fillings.result c.new-fillings.ensures.kind c.new-fillings.ensures.none c.new-fillings.ensures.no_last;
    }

pub add_sets_of-requires-clause-can : goal.add_sets_of-requires-clause-can
add_sets_of-requires-clause-can c =
    let r = reaction_in c.args.reaction.now in
    can_next r c.args.nodes.now c.args.terms.now (sets_of_size (reaction_in c.args.reaction.now).scattering.size) 2 c.loop-legs.legs c.loop-legs.invariant.from c.loop-legs.nodes c.loop-legs.terms c.loop-legs.invariant.walked (c.size.result / 2 + 1) c.loop-legs-test.true (subst (CanWalk r c.args.nodes.now c.args.terms.now) (all_in_range (reaction_in c.args.reaction.now).scattering.size c.size.result c.size.ensures.size) c.requires)

pub returns-in-Err : goal.returns-in-Err
returns-in-Err c = λ e.
    let r = reaction_in c.args.reaction.now in
    subst (λ (ss : List ℕ). MOST_TERMS < length (walk (fusion r) (set_search r) (state_of c.args.nodes.now c.args.terms.now) ss).terms) (sym (all_in_range (reaction_in c.args.reaction.now).scattering.size c.size.result c.size.ensures.size))
    (large_in_range r c.args.nodes.now c.args.terms.now (sets_of_size (reaction_in c.args.reaction.now).scattering.size) 2 c.loop-legs.legs c.loop-legs.invariant.from c.loop-legs.nodes c.loop-legs.terms c.loop-legs.invariant.walked (c.size.result / 2 + 1) c.loop-legs-test.true (subst (CanWalk r c.args.nodes.now c.args.terms.now) (all_in_range (reaction_in c.args.reaction.now).scattering.size c.size.result c.size.ensures.size) c.requires) (c.in-Err.ensures.walks e))

pub loop-legs-preserved : goal.loop-legs-preserved
loop-legs-preserved c =
    let r = reaction_in c.args.reaction.now in
    record {
      walked = more_in_range r c.args.nodes.now c.args.terms.now (sets_of_size (reaction_in c.args.reaction.now).scattering.size) 2 c.loop-legs.legs c.loop-legs.invariant.from c.loop-legs.nodes c.loop-legs.terms c.loop-legs.invariant.walked c.add_sets_of.new.nodes c.add_sets_of.new.terms c.in_default.ensures.walks;
      from = omega (arith, c.loop-legs.invariant.from);
      cached = c.in_default.ensures.cached;
    }

pub returns : goal.returns
returns c =
    let r = reaction_in c.args.reaction.now in
    let e : c.loop-legs.legs ≡ c.size.result / 2 + 1 = omega (arith, c.loop-legs-test.false, c.loop-legs.auto.legs-end, c.size.ensures.least) in
    subst (λ (ss : List ℕ). HasWalked r c.args.nodes.now c.args.terms.now ss c.loop-legs.nodes c.loop-legs.terms) (sym (all_in_range (reaction_in c.args.reaction.now).scattering.size c.size.result c.size.ensures.size))
    (subst (λ k. HasWalked r c.args.nodes.now c.args.terms.now (flat_map (sets_of_size (reaction_in c.args.reaction.now).scattering.size) (counts_from 2 (k - 2))) c.loop-legs.nodes c.loop-legs.terms) e c.loop-legs.invariant.walked)
