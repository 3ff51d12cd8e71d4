-- A graph whose nodes, terms and keystone terms stand in another one.
use Rattle.std.specs.Prelude.{◌≡◌, slice_get}
use Rattle.om_ring.specs.Members.{In}
use Rattle.om_graph.specs.declared.Graph.{Graph}
use Rattle.om_graph.specs.declared.Key.{Key}
use Rattle.om_graph.specs.declared.KeyTerm.{KeyTerm}
use Rattle.om_graph.specs.declared.Term.{Term}
use Rattle.om_graph.specs.Graph.{at_numbers}
use Rattle.om_legs.specs.BranchNodes.{nodes_of}

-- a term of one graph stands in another one: of the same nodes, with the same vertex, choice and sign
pub record StandsIn (whole part : Graph) (x : Term) : Type 0 where
  pub term : Term
  pub is_term : In term whole.terms
  pub node : slice_get part.nodes x.node ≡ slice_get whole.nodes term.node
  pub minus : x.minus ≡ term.minus
  pub vertex : x.vertex ≡ term.vertex
  pub choice : x.choice ≡ term.choice
  pub branches : at_numbers part.nodes (nodes_of x.branches) ≡ at_numbers whole.nodes (nodes_of term.branches)

-- and a keystone term
pub record KeyStandsIn (whole part : Graph) (y : KeyTerm) : Type 0 where
  pub key : KeyTerm
  pub is_key : In key whole.keys
  pub flow : slice_get part.flows y.flow ≡ slice_get whole.flows key.flow
  pub minus : y.minus ≡ key.minus
  pub vertex : y.vertex ≡ key.vertex
  pub choice : y.choice ≡ key.choice
  pub branches : at_numbers part.nodes (nodes_of y.branches) ≡ at_numbers whole.nodes (nodes_of key.branches)

-- each node, term and keystone term of one graph stands in another one
pub record IsPartOf (whole part : Graph) : Type 0 where
  pub nodes : (k : Key) → In k part.nodes → In k whole.nodes
  pub terms : (x : Term) → In x part.terms → StandsIn whole part x
  pub keys : (y : KeyTerm) → In y part.keys → KeyStandsIn whole part y
