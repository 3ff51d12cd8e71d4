use Rattle.om_top.specs.Outside.{file_side, side}
use Rattle.om_top.proofs.ProgramRuns.{called, ran}
use Rattle.om_top.proofs.commands.run_program.run_program.Goals as goal

pub returns-in-Ok-clause-ran : goal.returns-in-Ok-clause-ran
returns-in-Ok-clause-ran g c =
    let file = file_side g.F.Folder.file g.F.Folder.faults c.args.name.now c.args.files.now c.load_program.new.files in
    let input = side g.S.Source.left g.S.Source.faults c.args.input.now c.answer_events.new.input in
    let out = side g.O.Sink.written g.O.Sink.faults c.args.out.now c.answer_events.new.out in
    ran (g.R.Ring.ops c.args.ring.now) (g.R.Ring.text c.args.ring.now) file input out c.in-Ok.machine.code c.in-Ok.ensures.program c.answer_events.result c.answer_events.ensures.ran

pub returns-in-Ok-clause-calls : goal.returns-in-Ok-clause-calls
returns-in-Ok-clause-calls g c =
    let file = file_side g.F.Folder.file g.F.Folder.faults c.args.name.now c.args.files.now c.load_program.new.files in
    let input = side g.S.Source.left g.S.Source.faults c.args.input.now c.answer_events.new.input in
    let out = side g.O.Sink.written g.O.Sink.faults c.args.out.now c.answer_events.new.out in
    called (g.R.Ring.ops c.args.ring.now) (g.R.Ring.text c.args.ring.now) file input out c.in-Ok.machine.code c.in-Ok.ensures.program
    c.args.steps.now c.load_program.new.steps c.answer_events.new.steps (g.R.Ring.cost c.args.ring.now) c.in-Ok.ensures.calls c.answer_events.ensures.calls
