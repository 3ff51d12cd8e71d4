-- The denominators of a graph are the edges above its inner nodes.
use Rattle.std.specs.Prelude.{◌≡◌, ℕ, ◌↔◌, true, List}
use Rattle.std.specs.List.Sorted.{IsStrictlySortedBy}
use Rattle.om_ring.specs.Members.{In}
use Rattle.om_graph.specs.declared.Key.{Key}
use Rattle.om_keystone.specs.Built.{is_inner}
use Rattle.om_code.specs.declared.code.Den.{Den}
use Rattle.om_code.specs.DenOrder.{den_order}
use Rattle.om_emit.specs.GraphCode.{den_of, dens_of}

-- an inner node has this edge above it
pub record HasEdgeAbove (anti : ℕ → ℕ) (n : ℕ) (nodes : List Key) (den : Den) : Type 0 where
  pub node : Key
  pub is_node : In node nodes
  pub inner : is_inner node ≡ true
  pub edge : den ≡ den_of anti n node

-- the denominators are in order, each once, and are just the edges above the inner nodes
pub record AreEdgesAbove (anti : ℕ → ℕ) (n : ℕ) (nodes : List Key) : Type 0 where
  pub ordered : IsStrictlySortedBy den_order (dens_of anti n nodes)
  pub members : (den : Den) → In den (dens_of anti n nodes) ↔ HasEdgeAbove anti n nodes den

abbrev pub DensAreEdgesAbove : Type 0
DensAreEdgesAbove = (anti : ℕ → ℕ) (n : ℕ) (nodes : List Key) → AreEdgesAbove anti n nodes
