use Rattle.std.proofs.Common.{◌-◌, ap, sym, subst, IsPermutation, IsSortedBy}
use Rattle.om_graph.specs.Graph.{found_lt}
use Rattle.om_graph.specs.Loops.{fused_found}
use Rattle.om_graph.specs.Possible.{key_lt}
use Rattle.om_graph.specs.Reactions.{reaction_in}
use Rattle.om_graph.specs.declared.TheConstants.{MOST_TERMS}
use Rattle.om_graph.specs.declared.fusions.Fused.{Fused}
use Rattle.om_graph.proofs.SetStep.{all_over, can_meet_over, sorted_over, sorted_several, step_large, walks}
use Rattle.om_graph.proofs.walk.add_set.Goals as goal

pub add_fusions-requires-clause-join : goal.add_fusions-requires-clause-join
add_fusions-requires-clause-join c = can_meet_over (reaction_in c.args.reaction.now) c.args.nodes.now c.args.terms.now c.args.set c.requires.valid c.requires.outward c.requires.can

pub returns-in-Err-clause-walks : goal.returns-in-Err-clause-walks
returns-in-Err-clause-walks c = λ e.
    let a = c.in-Err.ensures.added in
    step_large (reaction_in c.args.reaction.now) c.args.nodes.now c.args.terms.now c.args.set c.requires.valid c.requires.outward c.requires.can a.0 a.1 a.2 a.3 c.new-found.result.items _ c.new-found.ensures.items (ap (λ n. MOST_TERMS - n) c.len-limit.ensures) (a.4 e)

pub sort-requires : goal.sort-requires
sort-requires c =
    let a = c.in_default.ensures.added in
    all_over (reaction_in c.args.reaction.now) c.args.nodes.now c.args.terms.now c.args.set c.requires.valid c.requires.outward c.requires.can a.0 a.1 a.2 a.3 c.new-found.result.items c.add_fusions.new.found.items c.new-found.ensures.items a.4.0

pub add_terms-requires-clause-over : goal.add_terms-requires-clause-over
add_terms-requires-clause-over c =
    let a = c.in_default.ensures.added in
    sorted_over (reaction_in c.args.reaction.now) c.args.nodes.now c.args.terms.now c.args.set c.requires.valid c.requires.outward c.requires.can a.0 a.1 a.2 a.3 c.new-found.result.items c.add_fusions.new.found.items c.new-found.ensures.items a.4.0 c.deref.result.now
    (subst (IsPermutation c.add_fusions.new.found.items) (sym c.deref.ensures.value) c.in_default-sort.ensures.same)

pub add_terms-requires-clause-counts : goal.add_terms-requires-clause-counts
add_terms-requires-clause-counts c =
    let a = c.in_default.ensures.added in
    sorted_several (reaction_in c.args.reaction.now) c.args.nodes.now c.args.terms.now c.args.set c.requires.valid c.requires.outward c.requires.can a.0 a.1 a.2 a.3 c.new-found.result.items c.add_fusions.new.found.items c.new-found.ensures.items a.4.0 c.deref.result.now
    (subst (IsPermutation c.add_fusions.new.found.items) (sym c.deref.ensures.value) c.in_default-sort.ensures.same)

pub returns-clause-walks : goal.returns-clause-walks
returns-clause-walks c =
    let a = c.in_default.ensures.added in
    walks (reaction_in c.args.reaction.now) c.args.nodes.now c.args.terms.now c.args.set c.requires.valid c.requires.outward c.requires.can a.0 a.1 a.2 a.3 c.new-found.result.items c.add_fusions.new.found.items c.new-found.ensures.items a.4.0 c.deref.result.now
    (subst (IsPermutation c.add_fusions.new.found.items) (sym c.deref.ensures.value) c.in_default-sort.ensures.same)
    (subst (IsSortedBy (λ (x y : Fused). found_lt key_lt (fused_found x) (fused_found y))) (sym c.deref.ensures.value) c.in_default-sort.ensures.sorted)
    _ (ap (λ n. MOST_TERMS - n) c.len-limit.ensures) a.4.1 c.add_terms.new.nodes c.add_terms.new.terms c.add_terms.result c.add_terms.ensures.state c.add_terms.ensures.signs c.add_terms.ensures.fault
