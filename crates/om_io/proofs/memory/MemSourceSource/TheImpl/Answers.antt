use Rattle.om_io.proofs.SourceInMemory.{source_count, source_taken, source_rest, source_end, source_kept, source_cause}
use Rattle.om_io.proofs.memory.MemSourceSource.TheImpl.Goals as goal

pub read-tells : goal.read-tells
read-tells c =
    let old = c.args.self.now in
    let new = c.new.self.now in
    let buffer = c.args.to.now in
    let filled = c.new.to.now in
    record {
      count = source_count old new buffer filled c.result c.ensures.exact;
      taken = source_taken old new buffer filled c.result c.ensures.exact;
      rest = λ _. source_rest old new buffer filled c.result c.ensures.exact;
      end = source_end old new buffer filled c.result c.ensures.exact;
      kept = source_kept old new buffer filled c.result c.ensures.exact;
      cause = source_cause old new buffer filled c.result c.ensures.exact;
    }
