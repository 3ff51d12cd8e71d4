use Rattle.om_graph.specs.Reactions.{reaction_in}
use Rattle.om_graph.proofs.KeyStep.{all_counted, can_close_over, close_large, closed_different, closed_several, closes}
use Rattle.om_graph.proofs.possible_graph.add_linked.Goals as goal

pub add_closings-requires : goal.add_closings-requires
add_closings-requires c = record { close = can_close_over (reaction_in c.args.reaction.now) c.args.nodes.now c.requires.can }

pub returns-in-Err : goal.returns-in-Err
returns-in-Err c = λ e.
    let a = c.in-Err.ensures.added in
    close_large (reaction_in c.args.reaction.now) c.args.nodes.now c.requires.can a.0 a.1 a.2 a.3 c.in-Ok.found c.args.limit c.in-Ok.ensures (a.4 e)

pub add_key_terms-requires : goal.add_key_terms-requires
add_key_terms-requires c =
    let a = c.in_default-add_closings.ensures.added in
    record {
      no_flows = c.requires.no_flows;
      no_keys = c.requires.no_keys;
      several = closed_several (reaction_in c.args.reaction.now) c.args.nodes.now c.requires.can a.0 a.1 a.2 a.3 c.in-Ok.found c.add_closings.new.found c.in-Ok.ensures a.4.0;
      counted = all_counted (reaction_in c.args.reaction.now) c.args.nodes.now c.requires.can a.0 a.1 a.2 a.3 c.in-Ok.found c.add_closings.new.found c.in-Ok.ensures a.4.0;
      different = closed_different (reaction_in c.args.reaction.now) c.args.nodes.now c.requires.can a.0 a.1 a.2 a.3 c.in-Ok.found c.add_closings.new.found c.in-Ok.ensures a.4.0;
    }

pub returns-in-Ok-add_key_terms : goal.returns-in-Ok-add_key_terms
returns-in-Ok-add_key_terms c =
    let a = c.in_default-add_closings.ensures.added in
    closes (reaction_in c.args.reaction.now) c.args.nodes.now c.requires.can a.0 a.1 a.2 a.3 c.in-Ok.found c.add_closings.new.found c.in-Ok.ensures a.4.0
    c.args.limit a.4.1 c.add_key_terms.new.keys c.add_key_terms.new.flows c.in-Ok-add_key_terms.ensures.flows c.in-Ok-add_key_terms.ensures.keys c.in-Ok-add_key_terms.ensures.signs
