-- What the walk over sets asks and leaves, and the signs of what it adds.
use Rattle.std.specs.Prelude.{◌≡◌, ℕ, ◌<◌, ◌≤◌, List, map, length, Some, slice_get, slice_index_or, Result, MatchResult}
use Rattle.om_ring.specs.Members.{In}
use Rattle.om_colour.specs.declared.Flow.{Flow}
use Rattle.om_model.specs.FermionLines.{Kinds}
use Rattle.om_graph.specs.declared.BuildFault.{BuildFault}
use Rattle.om_graph.specs.declared.BuildFault.TheVariants.{TooLarge}
use Rattle.om_graph.specs.declared.Key.{Key}
use Rattle.om_graph.specs.declared.KeyTerm.{KeyTerm}
use Rattle.om_graph.specs.declared.Term.{Term}
use Rattle.om_graph.specs.declared.TheConstants.{MOST_TERMS}
use Rattle.om_graph.specs.declared.fusions.Fused.{Fused}
use Rattle.om_graph.specs.declared.closed_rows.Row.{Row}
use Rattle.om_graph.specs.Fusion.{IsNode}
use Rattle.om_graph.specs.Graph.{at_numbers}
use Rattle.om_graph.specs.Loops.{Signed, chosen_nodes}
use Rattle.om_graph.specs.Possible.{flow_lt, state_of, unsigned_key}
use Rattle.om_legs.specs.BranchNodes.{nodes_of}
use Rattle.om_graph.specs.Search.{HasDone, Ready, walk, numbered, flows_of}
use Rattle.om_graph.specs.SetSearch.{set_search, closings_of}
use Rattle.om_graph.specs.TreeKeys.{IsReaction}
use Rattle.om_graph.specs.Vertices.{Reaction, fusion, fused_minus, closed_minus}

-- the sign of a term is that of its nodes at its vertex
pub record HasTermSign (r : Reaction) (ns : List Key) (x : Term) : Type 0 where
  pub node : Key
  pub branches : List Key
  pub is_node : slice_get ns x.node ≡ Some node
  pub are_branches : at_numbers ns (nodes_of x.branches) ≡ Some branches
  pub minus : x.minus ≡ fused_minus r node.field x.vertex node.legs branches

abbrev pub HaveSigns : Reaction → List Key → List Term → Type 0
HaveSigns r ns ts = (x : Term) → In x ts → HasTermSign r ns x

-- the same of what was found
abbrev pub HasFoundSign : Reaction → List Key → Fused → Type 0
HasFoundSign r ns x = (ks : List Key) × (at_numbers ns (chosen_nodes x.branches) ≡ Some ks) × (x.minus ≡ fused_minus r x.key.field x.vertex x.key.legs ks)

-- the sign of a keystone term
abbrev pub HasKeySign : Reaction → List Key → KeyTerm → Type 0
HasKeySign r ns y = (ks : List Key) × (at_numbers ns (nodes_of y.branches) ≡ Some ks) × (y.minus ≡ closed_minus r y.vertex ks)

abbrev pub KeysHaveSigns : Reaction → List Key → List KeyTerm → Type 0
KeysHaveSigns r ns ys = (y : KeyTerm) → In y ys → HasKeySign r ns y

-- the sign of what closes
abbrev pub HasClosedSign : Reaction → List Key → Signed Flow → Type 0
HasClosedSign r ns x = (ks : List Key) × (at_numbers ns x.found.branches ≡ Some ks) × (x.minus ≡ closed_minus r x.found.vertex ks)

-- the same of a row
abbrev pub HasRowSign : Reaction → List Key → Row → Type 0
HasRowSign r ns y = (ks : List Key) × (at_numbers ns (chosen_nodes y.branches) ≡ Some ks) × (y.minus ≡ closed_minus r y.vertex ks)

abbrev pub RowsHaveSigns : Reaction → List Key → List Row → Type 0
RowsHaveSigns r ns ys = (y : Row) → In y ys → HasRowSign r ns y

-- with another number of its flow
abbrev pub renumbered : List ℕ → Row → Row
renumbered numbers y = record { flow = slice_index_or numbers y.flow 0; vertex = y.vertex; choice = y.choice; branches = y.branches; minus = y.minus }

-- found over a set, with as many nodes as the vertex takes
pub record IsOver (set : ℕ) (counts : ℕ → ℕ) (x : Fused) : Type 0 where
  pub legs : x.key.legs ≡ set
  pub ends : length x.key.partial.ends ≡ 12
  pub counted : length (chosen_nodes x.branches) ≡ counts x.vertex

-- some sets were done, and these are next
pub record CanWalk (r : Reaction) (ns : List Key) (ts : List Term) (ss : List ℕ) : Type 0 where
  pub kinds : Kinds
  pub reaction : IsReaction r kinds
  pub done : List ℕ
  pub have : HasDone (fusion r) (set_search r) done (state_of ns ts)
  pub ready : Ready (fusion r) (set_search r) done ss
  pub few : length ts ≤ MOST_TERMS
  pub signs : HaveSigns r ns ts

-- they were walked over
pub record HasWalked (r : Reaction) (ns : List Key) (ts : List Term) (ss : List ℕ) (ms : List Key) (us : List Term) : Type 0 where
  pub state : state_of ms us ≡ walk (fusion r) (set_search r) (state_of ns ts) ss
  pub few : length us ≤ MOST_TERMS
  pub signs : HaveSigns r ms us

abbrev pub Walks : Reaction → List Key → List Term → List ℕ → List Key → List Term → Result (Unit {0}) BuildFault → Type 0
Walks r ns ts ss ms us result = MatchResult result (λ _. HasWalked r ns ts ss ms us) (λ fault. fault ≡ TooLarge → MOST_TERMS < length (walk (fusion r) (set_search r) (state_of ns ts) ss).terms)

-- these are nodes
pub record CanCloseAll (r : Reaction) (ns : List Key) : Type 0 where
  pub kinds : Kinds
  pub reaction : IsReaction r kinds
  pub nodes : (k : Key) → In k ns → IsNode (fusion r) k

-- the keystone terms and the flows of what they close to
pub record HasClosed (r : Reaction) (ns : List Key) (limit : ℕ) (ys : List KeyTerm) (ws : List Flow) : Type 0 where
  pub flows : ws ≡ flows_of (fusion r) (set_search r) flow_lt (closings_of r ns)
  pub keys : map unsigned_key ys ≡ numbered flow_lt ws (closings_of r ns)
  pub few : length ys ≤ limit
  pub signs : KeysHaveSigns r ns ys

abbrev pub ClosesAll : Reaction → List Key → ℕ → List KeyTerm → List Flow → Result (Unit {0}) BuildFault → Type 0
ClosesAll r ns limit ys ws result = MatchResult result (λ _. HasClosed r ns limit ys ws) (λ fault. fault ≡ TooLarge → limit < length (closings_of r ns))
