use Rattle.std.proofs.Common.{[]}
use Rattle.std.proofs.lemmas.Result.{err_from_is_err_and}
use Rattle.om_io.specs.Lines.{line_text}
use Rattle.om_io.specs.Writing.{outlet}
use Rattle.om_io.proofs.Outlets.{breaks_more, pushed, row_more, row_breaks}
use Rattle.om_program_text.specs.ProgramText.{instr_words}
use Rattle.om_program_text.proofs.instr_lines.write_each.Goals as goal

pub returns-in_err-make_block_room : goal.returns-in_err-make_block_room
returns-in_err-make_block_room g c =
    let written = g.W.Sink.written in
    let faults = g.W.Sink.faults in
    let p = err_from_is_err_and c.from_residual.result c.from_residual.ensures.1 in
    let before = outlet (written c.loop-instr.to) (faults c.loop-instr.to) c.loop-instr.block in
    let now = outlet (written c.make_block_room.new.to) (faults c.make_block_room.new.to) c.make_block_room.new.block in
    rw p.1 (row_breaks (λ i. line_text (instr_words c.args.version i)) c.args.instrs.now (outlet (written c.args.to.now) (faults c.args.to.now) c.args.block.now) before now
    c.loop-instr.instr-index c.instr-item.result c.instr-item.result c.loop-instr-test.true c.instr-item.is c.loop-instr.invariant
    (breaks_more before now [] (line_text (instr_words c.args.version c.instr-item.result)) c.in_err-make_block_room.ensures.written))

pub loop-instr-preserved : goal.loop-instr-preserved
loop-instr-preserved g c =
    let written = g.W.Sink.written in
    let faults = g.W.Sink.faults in
    let before = outlet (written c.loop-instr.to) (faults c.loop-instr.to) c.loop-instr.block in
    let line = line_text (instr_words c.args.version c.instr-item.result) in
    let one = pushed before (written c.make_block_room.new.to) (faults c.make_block_room.new.to) c.make_block_room.new.block c.push_instr.new.block line [] c.in_ok-make_block_room.ensures.written c.push_instr.ensures in
    row_more (λ i. line_text (instr_words c.args.version i)) c.args.instrs.now (outlet (written c.args.to.now) (faults c.args.to.now) c.args.block.now) before (outlet (written c.make_block_room.new.to) (faults c.make_block_room.new.to) c.push_instr.new.block)
    c.loop-instr.instr-index c.instr-item.result c.instr-item.result c.loop-instr-test.true c.instr-item.is c.loop-instr.invariant one
