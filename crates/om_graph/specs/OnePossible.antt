-- There is one possible graph of a process.
use Rattle.std.specs.Prelude.{◌≡◌, map}
use Rattle.om_graph.specs.declared.Graph.{Graph}
use Rattle.om_graph.specs.Possible.{IsPossible, term_count, unsigned, unsigned_key}
use Rattle.om_graph.specs.Vertices.{Reaction}

-- two graphs have the same nodes, terms, keystone terms and flows
pub record HasSame (g h : Graph) : Type 0 where
  pub nodes : g.nodes ≡ h.nodes
  pub terms : map unsigned g.terms ≡ map unsigned h.terms
  pub keys : map unsigned_key g.keys ≡ map unsigned_key h.keys
  pub flows : g.flows ≡ h.flows
  pub count : term_count g ≡ term_count h

abbrev pub OnePossible : Type 0
OnePossible = (r : Reaction) (g h : Graph) → IsPossible r g → IsPossible r h → HasSame g h
