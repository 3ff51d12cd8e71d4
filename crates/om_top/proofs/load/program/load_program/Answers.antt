use Rattle.om_top.specs.Outside.{file_side}
use Rattle.om_top.proofs.CallBounds.{holds_read, no_text_called, program_called}
use Rattle.om_top.proofs.load.program.load_program.Goals as goal

pub returns-in-Ok-clause-calls : goal.returns-in-Ok-clause-calls
returns-in-Ok-clause-calls g c =
    let file = file_side g.F.Folder.file g.F.Folder.faults c.args.name.now c.args.files.now c.read_file.new.files in
    program_called (g.R.Ring.ops c.args.ring.now) file c.deref.result.now (holds_read (g.F.Folder.file c.args.files.now c.args.name.now) c.deref.result.now c.in-Ok.bytes.items c.deref.ensures.value c.in-Ok.ensures.bytes) c.machine_of.result c.machine_of.ensures.program c.args.steps.now c.machine_of.new.steps (g.R.Ring.cost c.args.ring.now) c.machine_of.ensures.calls

pub returns-in-Err-TooLong-clause-calls : goal.returns-in-Err-TooLong-clause-calls
returns-in-Err-TooLong-clause-calls g c =
    no_text_called (file_side g.F.Folder.file g.F.Folder.faults c.args.name.now c.args.files.now c.read_file.new.files) c.args.steps.now (g.R.Ring.cost c.args.ring.now)

pub returns-in-Err-Failed-clause-calls : goal.returns-in-Err-Failed-clause-calls
returns-in-Err-Failed-clause-calls g c =
    no_text_called (file_side g.F.Folder.file g.F.Folder.faults c.args.name.now c.args.files.now c.read_file.new.files) c.args.steps.now (g.R.Ring.cost c.args.ring.now)

pub returns-in-Err-Memory-clause-calls : goal.returns-in-Err-Memory-clause-calls
returns-in-Err-Memory-clause-calls g c =
    no_text_called (file_side g.F.Folder.file g.F.Folder.faults c.args.name.now c.args.files.now c.read_file.new.files) c.args.steps.now (g.R.Ring.cost c.args.ring.now)
