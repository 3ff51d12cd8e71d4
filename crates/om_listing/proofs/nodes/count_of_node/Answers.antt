use Rattle.std.proofs.Common.{ap, ◌∙◌, length, unwrap_or}
use Rattle.om_listing.proofs.Fusions.{front_counted}
use Rattle.om_listing.proofs.nodes.count_of_node.Goals as goal

pub returns : goal.returns
returns c = c.unwrap_or.ensures ∙ ap (λ p. unwrap_or p (length c.args.terms.now)) c.first_of_another.ensures ∙ front_counted c.args.number c.args.terms.now
