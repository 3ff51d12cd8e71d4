use Rattle.std.proofs.Common.{◌≡◌, ◌++◌, drop, map}
use Rattle.om_graph.specs.declared.KeyTerm.{KeyTerm}
use Rattle.om_keystone.specs.Pruning.{renumbered_key}
use Rattle.om_graph.specs.Possible.{unsigned_key}
use Rattle.om_keystone.proofs.pruned.renumbered_keys.Given as goal

abbrev pub invariant-loop-key : goal.invariant-loop-key
invariant-loop-key l = record {
  keys : map (λ y. renumbered_key l.numbers (unsigned_key y)) l.keys ≡ map unsigned_key l.new ++ map (λ y. renumbered_key l.numbers (unsigned_key y)) (drop l.key-index l.keys);
  signs : map (λ (y : KeyTerm). y.minus) l.keys ≡ map (λ (y : KeyTerm). y.minus) l.new ++ map (λ (y : KeyTerm). y.minus) (drop l.key-index l.keys);
}
