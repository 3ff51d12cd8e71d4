use Rattle.std.proofs.Common.{◌∙◌, map, sym, arith}
use Rattle.om_keystone.specs.Pruning.{renumbered_key}
use Rattle.om_graph.specs.Possible.{unsigned_key}
use Rattle.om_ring.proofs.Members.{map-map}
use Rattle.om_keystone.proofs.Steps.{mapped_end}
use Rattle.om_keystone.proofs.pruned.renumbered_keys.Goals as goal

pub returns-clause-keys : goal.returns-clause-keys
returns-clause-keys c =
    mapped_end (λ y. renumbered_key c.args.numbers.now (unsigned_key y)) unsigned_key (map (λ y. renumbered_key c.args.numbers.now (unsigned_key y)) c.args.keys.now) c.loop-key.new c.args.keys.now c.loop-key.key-index (omega arith) c.loop-key.invariant.keys
    ∙ sym (map-map (renumbered_key c.args.numbers.now) unsigned_key c.args.keys.now)
