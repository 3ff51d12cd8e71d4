use Rattle.std.proofs.Common.{refl}
use Rattle.om_graph.specs.Loops.{fused_found}
use Rattle.om_graph.specs.Possible.{key_lt, unsigned}
use Rattle.om_legs.specs.BranchNodes.{nodes_of}
use Rattle.om_graph.proofs.AddedSigns.{term_signs}
use Rattle.om_graph.proofs.AddedTerms.{numbered_is, term_added}
use Rattle.om_graph.proofs.terms.add_term.Goals as goal

pub returns-in-Ok-push-clause-state : goal.returns-in-Ok-push-clause-state
returns-in-Ok-push-clause-state c =
    term_added key_lt unsigned c.args.nodes.now c.add.new.self c.args.terms.now c.push.new.self _ (fused_found c.args.one) c.in-Ok.ensures.nodes c.in-Ok-push.ensures.ok
    (numbered_is key_lt c.in-Ok.node c.add.new.self (fused_found c.args.one) (nodes_of c.branches_of.result) c.in-Ok.ensures.node c.branches_of.ensures)

pub returns-in-Ok-push-clause-signs : goal.returns-in-Ok-push-clause-signs
returns-in-Ok-push-clause-signs c =
    λ r old new. term_signs r c.args.nodes.now c.add.new.self c.args.terms.now c.push.new.self _ c.args.one c.in-Ok.ensures.nodes c.in-Ok-push.ensures.ok c.in-Ok.ensures.node c.branches_of.ensures refl refl old new
