-- What diagrams have, each opened at its keystone: edges, vertices, keystones and flows, by the keys of what meets.
use Rattle.std.specs.Prelude.{ℕ, List}
use Rattle.om_ring.specs.Members.{In}
use Rattle.om_model.specs.Tree.{Tree, Branches}
use Rattle.om_model.specs.Tree.Tree.{join}
use Rattle.om_model.specs.Opened.{Opened}
use Rattle.om_model.specs.Outward.{subtrees_all}
use Rattle.om_graph.specs.Fusion.{Fusion, HasKey, HaveKeys}

-- nodes that meet at a vertex by a choice and make a node
pub record TermOf (K : Type 0) : Type 0 where
  pub node : K
  pub vertex : ℕ
  pub choice : ℕ
  pub branches : List K

-- nodes that meet at a keystone by a choice and make a flow
pub record KeyTermOf (K F : Type 0) : Type 0 where
  pub flow : F
  pub vertex : ℕ
  pub choice : ℕ
  pub branches : List K

module _ {K F : Type 0} (p : Fusion K F) where
  -- a diagram with this flow that is opened at its keystone
  pub record IsOpened (a : Opened) (w : F) : Type 0 where
    pub keys : List K
    pub have : HaveKeys p a.parts keys
    pub close : p.closes a.vertex a.choice keys w

  -- a diagram in which a tree hangs from an edge, away from the keystone
  pub record InDiagram (t : Tree) : Type 0 where
    pub diagram : Opened
    pub flow : F
    pub opened : IsOpened diagram flow
    pub hangs : In t (subtrees_all diagram.parts)

  -- the key of an edge of some diagram, seen away from the keystone
  abbrev pub IsOutward : K → Type 0
  IsOutward k = (t : Tree) × InDiagram t × HasKey p t k

  -- the branches that meet at a vertex of some diagram other than its keystone
  pub record IsMet (x : TermOf K) : Type 0 where
    pub field : ℕ
    pub branches : Branches
    pub in_diagram : InDiagram (join field x.vertex x.choice branches)
    pub have : HaveKeys p branches x.branches
    pub fuse : p.fuses field x.vertex x.choice x.branches x.node

  -- the branches that meet at the keystone of some diagram
  pub record IsKeyMet (y : KeyTermOf K F) : Type 0 where
    pub branches : Branches
    pub have : HaveKeys p branches y.branches
    pub close : p.closes y.vertex y.choice y.branches y.flow

  -- a flow that some diagram has
  abbrev pub IsFlowMet : F → Type 0
  IsFlowMet w = (a : Opened) × IsOpened a w
