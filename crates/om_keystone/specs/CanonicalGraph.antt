-- The canonical graph of a process: what its diagrams have, by numbers, each once and in order.
use Rattle.std.specs.Prelude.{◌≡◌, ℕ, List, map, Bool, Some, slice_get, ◌↔◌}
use Rattle.om_ring.specs.Members.{In}
use Rattle.om_model.specs.Order.{Rising}
use Rattle.om_graph.specs.declared.Graph.{Graph}
use Rattle.om_graph.specs.declared.Key.{Key}
use Rattle.om_graph.specs.declared.KeyTerm.{KeyTerm}
use Rattle.om_graph.specs.declared.Term.{Term}
use Rattle.om_graph.specs.Fusion.{Fusion}
use Rattle.om_graph.specs.Graph.{Numbered, at_numbers, numbered_lt}
use Rattle.om_graph.specs.Possible.{key_lt, flow_lt, unsigned, unsigned_key}
use Rattle.om_legs.specs.BranchNodes.{nodes_of}
use Rattle.om_graph.specs.Vertices.{Reaction, fusion, fused_minus, closed_minus}
use Rattle.om_keystone.specs.InDiagrams.{IsOutward, IsMet, IsKeyMet, IsFlowMet}

module _ {K F : Type 0} (p : Fusion K F) where
  -- a term of nodes of the list, by number, that is met in some diagram
  pub record IsMetAt (ns : List K) (x : Numbered) : Type 0 where
    pub node : K
    pub branches : List K
    pub is_node : slice_get ns x.made ≡ Some node
    pub are_branches : at_numbers ns x.branches ≡ Some branches
    pub met : IsMet p (record { node = node; vertex = x.vertex; choice = x.choice; branches = branches })

  -- a keystone term of nodes and flows of these lists, by number, that is met in some diagram
  pub record IsKeyMetAt (ns : List K) (ws : List F) (y : Numbered) : Type 0 where
    pub flow : F
    pub branches : List K
    pub is_flow : slice_get ws y.made ≡ Some flow
    pub are_branches : at_numbers ns y.branches ≡ Some branches
    pub met : IsKeyMet p (record { flow = flow; vertex = y.vertex; choice = y.choice; branches = branches })

  -- nodes, terms, keystone terms and flows that diagrams have, each once and in order
  pub record IsCanonicalGraph (lt : K → K → Bool) (before : F → F → Bool) (ns : List K) (ts ys : List Numbered) (ws : List F) : Type 0 where
    pub nodes_rise : Rising lt ns
    pub nodes : (k : K) → In k ns ↔ IsOutward p k
    pub terms_rise : Rising numbered_lt ts
    pub terms : (x : Numbered) → In x ts ↔ IsMetAt ns x
    pub keys_rise : Rising numbered_lt ys
    pub keys : (y : Numbered) → In y ys ↔ IsKeyMetAt ns ws y
    pub flows_rise : Rising before ws
    pub flows : (u : F) → In u ws ↔ IsFlowMet p u

-- each term and each keystone term has the sign that its vertex and the keys that meet there give
pub record HasSigns (minus : ℕ → Key → List Key → Bool) (closed_minus : ℕ → List Key → Bool) (g : Graph) : Type 0 where
  pub signs : (x : Term) (k : Key) (ks : List Key) → In x g.terms → slice_get g.nodes x.node ≡ Some k
      → at_numbers g.nodes (nodes_of x.branches) ≡ Some ks → x.minus ≡ minus x.vertex k ks
  pub key_signs : (y : KeyTerm) (ks : List Key) → In y g.keys
      → at_numbers g.nodes (nodes_of y.branches) ≡ Some ks → y.minus ≡ closed_minus y.vertex ks

-- the canonical graph of a process over its model, with the signs of the fermions that cross
pub record IsCanonicalOf (r : Reaction) (g : Graph) : Type 0 where
  pub graph : IsCanonicalGraph (fusion r) key_lt flow_lt g.nodes (map unsigned g.terms) (map unsigned_key g.keys) g.flows
  pub signs : HasSigns (λ v (k : Key) ks. fused_minus r k.field v k.legs ks) (closed_minus r) g
