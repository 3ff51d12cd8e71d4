use Rattle.om_top.specs.Outside.{file_side}
use Rattle.om_top.proofs.CallBounds.{none_called}
use Rattle.om_top.proofs.load.model.load_model.Goals as goal

pub returns-in-Err-TooLong-clause-calls : goal.returns-in-Err-TooLong-clause-calls
returns-in-Err-TooLong-clause-calls g c =
    none_called (file_side g.F.Folder.file g.F.Folder.faults c.args.name.now c.args.files.now c.read_file.new.files) c.args.steps.now (g.R.Ring.cost c.args.ring.now)

pub returns-in-Err-Failed-clause-calls : goal.returns-in-Err-Failed-clause-calls
returns-in-Err-Failed-clause-calls g c =
    none_called (file_side g.F.Folder.file g.F.Folder.faults c.args.name.now c.args.files.now c.read_file.new.files) c.args.steps.now (g.R.Ring.cost c.args.ring.now)

pub returns-in-Err-Memory-clause-calls : goal.returns-in-Err-Memory-clause-calls
returns-in-Err-Memory-clause-calls g c =
    none_called (file_side g.F.Folder.file g.F.Folder.faults c.args.name.now c.args.files.now c.read_file.new.files) c.args.steps.now (g.R.Ring.cost c.args.ring.now)
