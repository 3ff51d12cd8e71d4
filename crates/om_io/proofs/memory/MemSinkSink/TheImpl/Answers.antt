use Rattle.om_io.proofs.SinkInMemory.{sink_count, sink_some, sink_appended, sink_kept, sink_cause}
use Rattle.om_io.proofs.memory.MemSinkSink.TheImpl.Goals as goal

pub write-tells : goal.write-tells
write-tells c =
    let old = c.args.self.now in
    let new = c.new.self.now in
    let piece = c.args.piece.now in
    record {
      count = sink_count old new piece c.result c.ensures.exact;
      some = sink_some old new piece c.result c.ensures.exact;
      appended = sink_appended old new piece c.result c.ensures.exact;
      kept = sink_kept old new piece c.result c.ensures.exact;
      cause = sink_cause old new piece c.result c.ensures.exact;
    }
