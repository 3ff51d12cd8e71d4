use Rattle.std.proofs.Common.{arith, length-drop}
use Rattle.om_io.proofs.Told.{after_front}
use Rattle.om_io.proofs.whole.write_all.Goals as goal

pub loop-done-preserved : goal.loop-done-preserved
loop-done-preserved g c =
    let written = g.W.Sink.written in
    record {
      within = grind (arith, c.in_ok-count.ensures.count, length-drop);
      appended = after_front (written c.args.to.now) (written c.loop-done.to) (written c.write.new.self) c.args.piece.now c.loop-done.done c.in_ok-count.count c.loop-done.invariant.appended c.in_ok-count.ensures.appended;
      later = omega (arith, c.loop-done.invariant.later, c.write.ensures.cause.later);
    }
