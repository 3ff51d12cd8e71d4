use Rattle.std.proofs.Common.{refl, subst, sym}
use Rattle.om_top.specs.EvalRan.{EvalRan, Evaluates}
use Rattle.om_top.specs.Outside.{IsUntouched, file_side, side}
use Rattle.om_top.specs.declared.ending.Ending.{Ending}
use Rattle.om_top.proofs.CallBounds.{eval_called, eval_refused, eval_unloaded}
use Rattle.om_top.proofs.EvalRuns.{went}
use Rattle.om_top.proofs.Files.{formed}
use Rattle.om_top.proofs.Refused.{with_named, without_named}
use Rattle.om_top.proofs.commands.eval.eval.Goals as goal

pub returns-in-Err-clause-ran : goal.returns-in-Err-clause-ran
returns-in-Err-clause-ran g c =
    let o = g.R.Ring.ops c.args.ring.now in
    let file = file_side g.F.Folder.file g.F.Folder.faults c.args.name.now c.args.files.now c.load_named.new.files in
    let input = side g.S.Source.left g.S.Source.faults c.args.input.now c.args.input.now in
    let out = side g.O.Sink.written g.O.Sink.faults c.args.out.now c.args.out.now in
    without_named o file c.args.process.now (IsUntouched input × IsUntouched out) (λ m p graph. Evaluates o (g.R.Ring.text c.args.ring.now) m p input out) c.in-Err.ending c.in-Err.ensures.named (refl, refl)

pub returns-in-Ok-load_machine-clause-ran : goal.returns-in-Ok-load_machine-clause-ran
returns-in-Ok-load_machine-clause-ran g c =
    let o = g.R.Ring.ops c.args.ring.now in
    let file = file_side g.F.Folder.file g.F.Folder.faults c.args.name.now c.args.files.now c.load_named.new.files in
    let input = side g.S.Source.left g.S.Source.faults c.args.input.now c.answer_events.new.input in
    let out = side g.O.Sink.written g.O.Sink.faults c.args.out.now c.answer_events.new.out in
    let show = g.R.Ring.text c.args.ring.now in
    let x = c.in-Ok.named in
    let named = c.in-Ok.ensures.named in
    let law = c.emitted_code_gives_answer.ensures in
    with_named o file c.args.process.now (IsUntouched input × IsUntouched out) (λ m p graph. Evaluates o show m p input out) x.model x.process x.graph named c.answer_events.result
    (went o show law.answer law.none x.model x.process (formed o x.model named.model.2.says.1) named.fits x.graph named.graph.canonical c.in-Ok-load_machine.machine.code c.in-Ok-load_machine.ensures.code input out c.answer_events.result c.answer_events.ensures.ran)

pub returns-in-Ok-load_machine-clause-calls : goal.returns-in-Ok-load_machine-clause-calls
returns-in-Ok-load_machine-clause-calls g c =
    let o = g.R.Ring.ops c.args.ring.now in
    let file = file_side g.F.Folder.file g.F.Folder.faults c.args.name.now c.args.files.now c.load_named.new.files in
    let input = side g.S.Source.left g.S.Source.faults c.args.input.now c.answer_events.new.input in
    let x = c.in-Ok.named in
    eval_called o file input c.args.process.now c.args.steps.now (g.R.Ring.cost c.args.ring.now) x.model x.process x.graph c.in-Ok.ensures.named c.load_named.new.steps c.load_machine.new.steps c.answer_events.new.steps c.in-Ok.ensures.calls
    c.in-Ok-load_machine.ensures.calls c.in-Ok-load_machine.machine.code c.in-Ok-load_machine.ensures.code c.answer_events.ensures.calls

pub returns-clause-ran : goal.returns-clause-ran
returns-clause-ran g c =
    let o = g.R.Ring.ops c.args.ring.now in
    let file = file_side g.F.Folder.file g.F.Folder.faults c.args.name.now c.args.files.now c.load_named.new.files in
    let input = side g.S.Source.left g.S.Source.faults c.args.input.now c.args.input.now in
    let out = side g.O.Sink.written g.O.Sink.faults c.args.out.now c.args.out.now in
    subst (λ (e : Ending). EvalRan o (g.R.Ring.text c.args.ring.now) file c.args.process.now input out e) (sym c.in-Err-load_machine.ensures.fault) (refl, refl)

pub returns-clause-calls : goal.returns-clause-calls
returns-clause-calls g c =
    let o = g.R.Ring.ops c.args.ring.now in
    let file = file_side g.F.Folder.file g.F.Folder.faults c.args.name.now c.args.files.now c.load_named.new.files in
    let input = side g.S.Source.left g.S.Source.faults c.args.input.now c.args.input.now in
    let x = c.in-Ok.named in
    eval_unloaded o file input c.args.process.now c.args.steps.now (g.R.Ring.cost c.args.ring.now) x.model x.process x.graph c.in-Ok.ensures.named c.load_named.new.steps c.load_machine.new.steps c.load_machine.new.steps c.in-Ok.ensures.calls
    c.in-Err-load_machine.ensures.calls

pub returns-in-Err-clause-calls : goal.returns-in-Err-clause-calls
returns-in-Err-clause-calls g c =
    let o = g.R.Ring.ops c.args.ring.now in
    let file = file_side g.F.Folder.file g.F.Folder.faults c.args.name.now c.args.files.now c.load_named.new.files in
    let input = side g.S.Source.left g.S.Source.faults c.args.input.now c.args.input.now in
    eval_refused o file input c.args.process.now c.args.steps.now (g.R.Ring.cost c.args.ring.now) c.load_named.new.steps c.in-Err.ensures.calls
