use Rattle.om_io.proofs.FolderInMemory.{folder_count, folder_bytes, folder_files, folder_others, folder_cause}
use Rattle.om_io.proofs.memory.MemFolderFolder.TheImpl.Goals as goal

pub read_at-tells : goal.read_at-tells
read_at-tells c =
    let old = c.args.self.now in
    let new = c.new.self.now in
    let name = c.args.name.now in
    let buffer = c.args.to.now in
    let filled = c.new.to.now in
    record {
      count = folder_count old new name c.args.at buffer filled c.result c.ensures.exact;
      bytes = folder_bytes old new name c.args.at buffer filled c.result c.ensures.exact;
      files = folder_files old new name c.args.at buffer filled c.result c.ensures.exact;
      others = folder_others old new name c.args.at buffer filled c.result c.ensures.exact;
      cause = folder_cause old new name c.args.at buffer filled c.result c.ensures.exact;
    }
