-- Nodes, terms and keystone terms in the words of diagrams.
use Rattle.std.specs.Prelude.{◌≡◌, ℕ, true, Some, slice_get}
use Rattle.om_ring.specs.Members.{In}
use Rattle.om_model.specs.Tree.{Tree, Branches}
use Rattle.om_model.specs.Tree.Tree.{join}
use Rattle.om_model.specs.Diagrams.{counts}
use Rattle.om_model.specs.Opened.{Opened}
use Rattle.om_model.specs.ColourLines.{flow_at}
use Rattle.om_model.specs.KeystoneForm.{IsKeystoneForm}
use Rattle.om_model.specs.Outward.{OutwardEdge, subtrees_all}
use Rattle.om_graph.specs.declared.Graph.{Graph}
use Rattle.om_graph.specs.declared.Key.{Key}
use Rattle.om_graph.specs.Graph.{at_numbers, Numbered}
use Rattle.om_graph.specs.TreeKeys.{colours_in, key_of, keys_of}
use Rattle.om_graph.specs.Vertices.{Reaction}

-- a node as an outward edge
abbrev pub edge_of : Key → OutwardEdge
edge_of k = record { legs = k.legs; field = k.field; flow = k.partial }

-- a vertex of a diagram that counts, other than its keystone, at which these nodes meet by this choice and make this node
pub record IsVertexOf (r : Reaction) (g : Graph) (x : Numbered) : Type 0 where
  pub diagram : Tree
  pub form : Opened
  pub field : ℕ
  pub branches : Branches
  pub counted : counts r.scattering diagram ≡ true
  pub is_form : IsKeystoneForm r.scattering diagram form
  pub hangs : In (join field x.vertex x.choice branches) (subtrees_all form.parts)
  pub node : slice_get g.nodes x.made ≡ Some (key_of r (join field x.vertex x.choice branches))
  pub are_branches : at_numbers g.nodes x.branches ≡ Some (keys_of r branches)

-- the keystone of a diagram that counts, at which these nodes meet by this choice and make this flow
pub record IsKeystoneOf (r : Reaction) (g : Graph) (y : Numbered) : Type 0 where
  pub diagram : Tree
  pub form : Opened
  pub counted : counts r.scattering diagram ≡ true
  pub is_form : IsKeystoneForm r.scattering diagram form
  pub vertex : y.vertex ≡ form.vertex
  pub choice : y.choice ≡ form.choice
  pub flow : slice_get g.flows y.made ≡ Some (flow_at r.scattering (colours_in r) form)
  pub are_branches : at_numbers g.nodes y.branches ≡ Some (keys_of r form.parts)
