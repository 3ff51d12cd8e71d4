-- What keys show of the sides of edges.
use Rattle.std.specs.Prelude.{ℕ, List}
use Rattle.om_legs.specs.Legs.{holds}
use Rattle.om_colour.specs.declared.Flow.{Flow}
use Rattle.om_graph.specs.declared.Key.{Key}
use Rattle.om_keystone.proofs.ModelRules.{KeyView}
use Rattle.om_graph.specs.Vertices.{Reaction, fused_minus, closed_minus}

-- the field that leaves and the legs behind, and the signs of vertices
abbrev pub key_view : Reaction → KeyView Key
key_view r = record {
  part = λ (k : Key). record { field = k.field; behind = holds k.legs };
  minus = λ v (k : Key) ks. fused_minus r k.field v k.legs ks;
  closed_minus = closed_minus r;
}

abbrev pub flow_ends : Flow → List ℕ
flow_ends w = w.ends
