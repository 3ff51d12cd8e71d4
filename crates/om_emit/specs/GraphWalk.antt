-- The walk that writes the instructions of a graph: once over its nodes, and beside them once over its terms.
use Rattle.std.specs.Prelude.{◌≡◌, ℕ, suc, ◌==◌, true, List, [], ◌∷◌, ◌++◌, map, if◌then◌else◌}
use Rattle.std.specs.List.{list_any}
use Rattle.std.specs.BTreeMap.{is_at}
use Rattle.om_legs.specs.Legs.{least}
use Rattle.om_graph.specs.declared.Key.{Key}
use Rattle.om_graph.specs.declared.Term.{Term}
use Rattle.om_keystone.specs.Built.{is_inner}
use Rattle.om_code.specs.declared.code.Den.{Den}
use Rattle.om_code.specs.DenOrder.{den_order}
use Rattle.om_code.specs.Ops.{Op, load, prop}
use Rattle.om_emit.specs.GraphCode.{fuse_op, den_of}

-- the terms of a node at the front of a list, and those behind them
unfoldable pub front : ℕ → List Term → List Term
front k [] = []
front k (t ∷ ts) = if t.node == k then t ∷ front k ts else []

unfoldable pub behind : ℕ → List Term → List Term
behind k [] = []
behind k (t ∷ ts) = if t.node == k then behind k ts else t ∷ ts

-- the instructions of one node, and the terms that are left
unfoldable pub step_ops : (Key → ℕ) → ℕ → Key → List Term → List Op
step_ops den k node ts = if is_inner node then map fuse_op (front k ts) ++ prop k (den node) ∷ [] else load k (least node.legs) ∷ []

unfoldable pub step_rest : ℕ → Key → List Term → List Term
step_rest k node ts = if is_inner node then behind k ts else ts

-- the nodes from number k on
unfoldable pub walk_ops : (Key → ℕ) → ℕ → List Key → List Term → List Op
walk_ops den k [] ts = []
walk_ops den k (node ∷ nodes) ts = step_ops den k node ts ++ walk_ops den (suc k) nodes (step_rest k node ts)

-- the edge above an inner node is among the denominators
abbrev pub HasDen : (ℕ → ℕ) → ℕ → List Den → Key → Type 0
HasDen anti n dens node = is_inner node ≡ true → list_any (is_at (den_order (den_of anti n node))) dens ≡ true
