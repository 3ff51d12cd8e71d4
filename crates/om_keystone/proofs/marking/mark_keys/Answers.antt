use Rattle.std.proofs.Common.{◌∙◌, map, refl, arith}
use Rattle.om_keystone.specs.Pruning.{mark_keys}
use Rattle.om_graph.specs.Possible.{unsigned_key}
use Rattle.om_keystone.proofs.Steps.{mark_keys_step, mark_keys_end}
use Rattle.om_keystone.proofs.marking.mark_keys.Goals as goal

pub loop-key-init : goal.loop-key-init
loop-key-init c = record { marks = refl; length = refl }

pub loop-key-preserved : goal.loop-key-preserved
loop-key-preserved c = record {
  marks = mark_keys_step (mark_keys c.args.marks.now (map unsigned_key c.args.keys.now)) c.loop-key.marks c.mark.new.marks c.args.keys.now c.key-item.result c.loop-key.key-index (omega arith) c.key-item.is c.loop-key.invariant.marks c.mark.ensures.marks;
  length = c.mark.ensures.length ∙ c.loop-key.invariant.length;
}

pub returns-clause-marks : goal.returns-clause-marks
returns-clause-marks c = mark_keys_end (mark_keys c.args.marks.now (map unsigned_key c.args.keys.now)) c.loop-key.marks c.args.keys.now c.loop-key.key-index (omega arith) c.loop-key.invariant.marks
