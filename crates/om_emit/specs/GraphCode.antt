-- The code of a graph.
use Rattle.std.specs.Prelude.{◌≡◌, ℕ, suc, List, [], ◌∷◌, ◌++◌, map, length, if◌then◌else◌}
use Rattle.std.specs.List.{filter, fold, position_or_len}
use Rattle.std.specs.BTreeMap.{is_at}
use Rattle.std.specs.BTreeSet.{insert_key}
use Rattle.om_legs.specs.Legs.{holds, least, complement}
use Rattle.om_model.specs.declared.model.Model.{Model}
use Rattle.om_model.specs.declared.process.Process.{Process}
use Rattle.om_model.specs.Model.{anti_field}
use Rattle.om_graph.specs.declared.Key.{Key}
use Rattle.om_graph.specs.declared.Term.{Term}
use Rattle.om_graph.specs.declared.KeyTerm.{KeyTerm}
use Rattle.om_graph.specs.declared.Graph.{Graph}
use Rattle.om_keystone.specs.Built.{is_inner, terms_at}
use Rattle.om_code.specs.declared.code.Den.{Den}
use Rattle.om_code.specs.declared.code.Code.{Code}
use Rattle.om_code.specs.DenOrder.{den_order}
use Rattle.om_legs.specs.BranchNodes.{nodes_of}
use Rattle.om_code.specs.Ops.{Op, load, fuse, prop, key, op_of, named_in, placed_op}
use Rattle.om_code.specs.SlotPlans.{first_fit, slots_used}

-- the edge above a node, by its side without leg 1 and the field that leaves that side
unfoldable pub den_of : (ℕ → ℕ) → ℕ → Key → Den
den_of anti n node = if holds node.legs 1
    then record { legs = complement node.legs n; field = anti node.field }
    else record { legs = node.legs; field = node.field }

-- the edges above the inner nodes, in order and each once
unfoldable pub dens_of : (ℕ → ℕ) → ℕ → List Key → List Den
dens_of anti n nodes = fold (λ dens node. insert_key den_order dens (den_of anti n node)) [] (filter is_inner nodes)

-- the place of a denominator
unfoldable pub place_of : List Den → Den → ℕ
place_of dens den = position_or_len (is_at (den_order den)) dens

abbrev pub fuse_op : Term → Op
fuse_op t = fuse t.node t.minus t.vertex t.choice (nodes_of t.branches)

abbrev pub key_op : KeyTerm → Op
key_op t = key t.flow t.minus t.vertex t.choice (nodes_of t.branches)

-- the registers that keystone terms name
abbrev pub key_lines : List KeyTerm → List (List ℕ)
key_lines keys = map (λ t. nodes_of t.branches) keys

module _ (den : Key → ℕ) (terms : List Term) where
  -- the load of a leg; of an inner node its terms, and then its propagator
  unfoldable pub node_ops : ℕ → Key → List Op
  node_ops k node = if is_inner node then map fuse_op (terms_at terms k) ++ prop k (den node) ∷ [] else load k (least node.legs) ∷ []

  -- the nodes from number k on
  unfoldable pub nodes_ops : ℕ → List Key → List Op
  nodes_ops k [] = []
  nodes_ops k (node ∷ nodes) = node_ops k node ++ nodes_ops (suc k) nodes

-- the denominators of a graph of a model with so many legs
abbrev pub graph_dens : Model → ℕ → Graph → List Den
graph_dens model n graph = dens_of (anti_field model.particles) n graph.nodes

abbrev pub den_place : Model → ℕ → Graph → Key → ℕ
den_place model n graph node = place_of (graph_dens model n graph) (den_of (anti_field model.particles) n node)

-- the instructions of a graph, where a register is the number of its node: the nodes in order, and then the keystones
unfoldable pub register_ops : Model → ℕ → Graph → List Op
register_ops model n graph = nodes_ops (den_place model n graph) graph.terms 0 graph.nodes ++ map key_op graph.keys

abbrev pub register_lines : Model → ℕ → Graph → List (List ℕ)
register_lines model n graph = map named_in (register_ops model n graph)

-- the code of a graph, in version 2: its registers stand in the slots of the first-fit plan
pub record IsCodeOf (model : Model) (process : Process) (graph : Graph) (code : Code) : Type 0 where
  pub version : code.version ≡ 2
  pub same_model : code.model ≡ model
  pub legs : code.legs ≡ map (λ leg. leg.field) process.legs
  pub flows : code.flows ≡ graph.flows
  pub dens : code.dens ≡ graph_dens model (length process.legs) graph
  pub slots : (let lines = register_lines model (length process.legs) graph in code.slots ≡ slots_used lines (first_fit lines))
  pub instrs : (let n = length process.legs in
      map op_of code.instrs ≡ map (placed_op (first_fit (register_lines model n graph))) (register_ops model n graph))
