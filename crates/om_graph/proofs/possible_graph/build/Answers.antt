use Rattle.std.proofs.Common.{◌-◌, ◌<◌, ◌≤◌, ◌∙◌, ap, ap₂, subst, sym}
use Rattle.om_model.specs.ModelLines.{kinds_of}
use Rattle.om_graph.specs.declared.Graph.{Graph}
use Rattle.om_graph.specs.declared.TheConstants.{MOST_TERMS}
use Rattle.om_graph.specs.Possible.{IsPossible, term_count}
use Rattle.om_graph.specs.Reactions.{reaction_in, reaction_of}
use Rattle.om_graph.specs.TreeKeys.{IsReaction}
use Rattle.om_graph.specs.Vertices.{Reaction}
use Rattle.om_graph.proofs.HaveReactions.{well_formed_have_reactions}
use Rattle.om_graph.proofs.WholeGraph.{can_close, can_walk, keys_too_large, sets_too_large, whole}
use Rattle.om_graph.proofs.possible_graph.build.Goals as goal

pub add_sets-requires : goal.add_sets-requires
add_sets-requires c =
    let q = ap₂ reaction_of c.in-Ok.ensures.0 c.in-Ok.ensures.1 in
    let is = subst (λ (r : Reaction). IsReaction r (kinds_of c.args.model.now.particles)) (sym q) (well_formed_have_reactions c.args.model.now c.args.process.now c.requires.accepted c.requires.process) in
    can_walk (reaction_in c.in-Ok.reaction) (kinds_of c.args.model.now.particles) is c.in-Ok-leg_nodes.nodes c.new-terms.result c.in-Ok-leg_nodes.ensures.nodes c.new-terms.ensures

pub returns-in-Err-add_sets : goal.returns-in-Err-add_sets
returns-in-Err-add_sets c = λ e.
    let q = ap₂ reaction_of c.in-Ok.ensures.0 c.in-Ok.ensures.1 in
    let is = subst (λ (r : Reaction). IsReaction r (kinds_of c.args.model.now.particles)) (sym q) (well_formed_have_reactions c.args.model.now c.args.process.now c.requires.accepted c.requires.process) in
    subst (λ (r : Reaction). (g : Graph) × IsPossible r g × (MOST_TERMS < term_count g)) q
    (sets_too_large (reaction_in c.in-Ok.reaction) (kinds_of c.args.model.now.particles) is c.in-Ok-leg_nodes.nodes c.new-terms.result c.in-Ok-leg_nodes.ensures.nodes c.new-terms.ensures (c.in-Err-add_sets.ensures e))

pub add_keystones-requires-clause-can : goal.add_keystones-requires-clause-can
add_keystones-requires-clause-can c =
    let q = ap₂ reaction_of c.in-Ok.ensures.0 c.in-Ok.ensures.1 in
    let is = subst (λ (r : Reaction). IsReaction r (kinds_of c.args.model.now.particles)) (sym q) (well_formed_have_reactions c.args.model.now c.args.process.now c.requires.accepted c.requires.process) in
    can_close (reaction_in c.in-Ok.reaction) (kinds_of c.args.model.now.particles) is c.in-Ok-leg_nodes.nodes c.new-terms.result c.in-Ok-leg_nodes.ensures.nodes c.new-terms.ensures c.add_sets.new.nodes c.add_sets.new.terms c.in_default-add_sets.ensures

pub returns-in-Err-add_keystones : goal.returns-in-Err-add_keystones
returns-in-Err-add_keystones c = λ e.
    let q = ap₂ reaction_of c.in-Ok.ensures.0 c.in-Ok.ensures.1 in
    let is = subst (λ (r : Reaction). IsReaction r (kinds_of c.args.model.now.particles)) (sym q) (well_formed_have_reactions c.args.model.now c.args.process.now c.requires.accepted c.requires.process) in
    subst (λ (r : Reaction). (g : Graph) × IsPossible r g × (MOST_TERMS < term_count g)) q
    (keys_too_large (reaction_in c.in-Ok.reaction) (kinds_of c.args.model.now.particles) is c.in-Ok-leg_nodes.nodes c.new-terms.result c.in-Ok-leg_nodes.ensures.nodes c.new-terms.ensures c.add_sets.new.nodes c.add_sets.new.terms c.in_default-add_sets.ensures
    _ (ap (λ n. MOST_TERMS - n) c.len-limit.ensures) (c.in-Err-add_keystones.ensures e))

pub returns : goal.returns
returns c =
    let q = ap₂ reaction_of c.in-Ok.ensures.0 c.in-Ok.ensures.1 in
    let is = subst (λ (r : Reaction). IsReaction r (kinds_of c.args.model.now.particles)) (sym q) (well_formed_have_reactions c.args.model.now c.args.process.now c.requires.accepted c.requires.process) in
    let g : Graph = record { nodes = c.in-Ok-copied.nodes; terms = c.add_sets.new.terms; keys = c.add_keystones.new.keys; flows = c.in-Ok-copied-2.flows } in
    subst (λ (r : Reaction). IsPossible r g × (term_count g ≤ MOST_TERMS)) q
    (whole (reaction_in c.in-Ok.reaction) (kinds_of c.args.model.now.particles) is c.in-Ok-leg_nodes.nodes c.new-terms.result c.in-Ok-leg_nodes.ensures.nodes c.new-terms.ensures c.add_sets.new.nodes c.add_sets.new.terms c.in_default-add_sets.ensures
    _ (ap (λ n. MOST_TERMS - n) c.len-limit.ensures) c.in-Ok-copied.nodes c.add_keystones.new.keys c.in-Ok-copied-2.flows c.add_keystones.new.flows
    (c.in-Ok-copied.ensures.items ∙ c.keys-2.ensures) (c.in-Ok-copied-2.ensures.items ∙ c.as_slice.ensures) c.in_default-add_keystones.ensures)
