use Rattle.std.proofs.Common.{ap, arith}
use Rattle.om_asm.specs.Reading.{product_of}
use Rattle.om_asm.specs.Lists.{list_from}
use Rattle.om_asm.specs.Rows.{formed}
use Rattle.om_asm.proofs.ReadingLists.{item_more, item_bad, list_full, list_end, formed_some, formed_fault}
use Rattle.om_asm.proofs.vertex_line.read_products.Goals as goal

pub returns-then-len-ge3 : goal.returns-then-len-ge3
returns-then-len-ge3 c = ap formed (list_full product_of 3 c.loop-word.factors c.loop-word.words c.in-Some.word.now c.next.new.self c.in-Ok.product (list_from product_of 3 0 c.args.words) c.in-Some.ensures (omega (arith, c.len.ensures, c.if-len-ge3.true)) (formed_some (product_of c.in-Some.word.now) c.in-Ok.product c.in-Ok.ensures) c.loop-word.invariant)

pub loop-word-preserved : goal.loop-word-preserved
loop-word-preserved c = item_more product_of 3 c.loop-word.factors c.push.new.self c.loop-word.words c.in-Some.word.now c.next.new.self c.in-Ok.product (list_from product_of 3 0 c.args.words) c.in-Some.ensures (omega (arith, c.len.ensures, c.if-len-ge3.false)) (formed_some (product_of c.in-Some.word.now) c.in-Ok.product c.in-Ok.ensures) c.in-Ok-push.ensures.ok c.loop-word.invariant

pub returns-in-Err : goal.returns-in-Err
returns-in-Err c = formed_fault (product_of c.in-Some.word.now) (list_from product_of 3 0 c.args.words) c.in-Err.fault c.in-Err.ensures (λ e. item_bad product_of 3 c.loop-word.factors c.loop-word.words c.in-Some.word.now c.next.new.self (list_from product_of 3 0 c.args.words) c.in-Some.ensures e c.loop-word.invariant)

pub returns : goal.returns
returns c = ap formed (list_end product_of 3 c.loop-word.factors c.loop-word.words (list_from product_of 3 0 c.args.words) c.in_default.ensures.0 c.loop-word.invariant)
