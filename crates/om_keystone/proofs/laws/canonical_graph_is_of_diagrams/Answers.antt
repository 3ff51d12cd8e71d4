use Rattle.om_keystone.proofs.OutwardEdges.{nodes_are_edges, terms_are_vertices, keys_are_keystones, flows_are_theirs}
use Rattle.om_keystone.proofs.laws.canonical_graph_is_of_diagrams.Goals as goal

pub returns-clause-nodes : goal.returns-clause-nodes
returns-clause-nodes c = nodes_are_edges

pub returns-clause-terms : goal.returns-clause-terms
returns-clause-terms c = terms_are_vertices

pub returns-clause-keys : goal.returns-clause-keys
returns-clause-keys c = keys_are_keystones

pub returns-clause-flows : goal.returns-clause-flows
returns-clause-flows c = flows_are_theirs
