use Rattle.std.proofs.Common.{◌≡◌, drop, length, map}
use Rattle.om_keystone.specs.Pruning.{mark_keys}
use Rattle.om_graph.specs.Possible.{unsigned_key}
use Rattle.om_keystone.proofs.marking.mark_keys.Given as goal

abbrev pub invariant-loop-key : goal.invariant-loop-key
invariant-loop-key l = record {
  marks : mark_keys l.initial.marks (map unsigned_key l.keys) ≡ mark_keys l.marks (map unsigned_key (drop l.key-index l.keys));
  length : length l.marks ≡ length l.initial.marks;
}
