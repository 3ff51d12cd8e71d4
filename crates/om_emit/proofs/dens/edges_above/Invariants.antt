use Rattle.std.proofs.Common.{◌≡◌, take}
use Rattle.std.specs.List.Sorted.{IsStrictlySortedBy}
use Rattle.om_model.specs.Model.{anti_field}
use Rattle.om_code.specs.DenOrder.{den_order}
use Rattle.om_emit.specs.GraphCode.{dens_of}
use Rattle.om_emit.proofs.dens.edges_above.Given as goal

abbrev pub invariant-loop-node : goal.invariant-loop-node
invariant-loop-node l = record {
  edges : l.dens.keys ≡ dens_of (anti_field l.particles) l.n (take l.node-index l.nodes);
  ordered : IsStrictlySortedBy den_order l.dens.keys;
}
