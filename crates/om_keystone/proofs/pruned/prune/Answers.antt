use Rattle.om_model.specs.ModelLines.{kinds_of}
use Rattle.om_graph.specs.Reactions.{reaction_of}
use Rattle.om_graph.proofs.HaveReactions.{well_formed_have_reactions}
use Rattle.om_keystone.proofs.Canonical.{pruned_is_canonical_of}
use Rattle.om_keystone.proofs.Whole.{possible_names_nodes}
use Rattle.om_keystone.proofs.pruned.prune.Goals as goal

pub reached_part-requires : goal.reached_part-requires
reached_part-requires c = record { within = possible_names_nodes (reaction_of c.args.model.now c.args.process.now) c.args.graph c.requires.possible }

pub invariant_of-result : goal.invariant_of-result
invariant_of-result c =
    let m = c.args.model.now in
    let p = c.args.process.now in
    let canonical = pruned_is_canonical_of (reaction_of m p) (kinds_of m.particles) (well_formed_have_reactions m p c.requires.accepted c.requires.process) c.args.graph c.in_ok-graph.graph c.requires.possible c.in_ok-graph.ensures.part in
    canonical.graph.terms_rise

pub returns : goal.returns
returns c =
    let m = c.args.model.now in
    let p = c.args.process.now in
    record {
      canonical = pruned_is_canonical_of (reaction_of m p) (kinds_of m.particles) (well_formed_have_reactions m p c.requires.accepted c.requires.process) c.args.graph c.in_ok-graph.graph c.requires.possible c.in_ok-graph.ensures.part;
    }
