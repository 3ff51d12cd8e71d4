use Rattle.std.proofs.Common.{sym, ap, arith}
use Rattle.om_asm.specs.Reading.{factor_of, product_of}
use Rattle.om_asm.specs.Rows.{formed}
use Rattle.om_asm.proofs.ReadingLists.{item_more, item_bad, list_full, list_end}
use Rattle.om_asm.proofs.particle_line.read_product.Goals as goal

pub returns-in_default-read_factor : goal.returns-in_default-read_factor
returns-in_default-read_factor c = ap formed (item_bad factor_of 8 c.loop-piece.product c.loop-piece.pieces c.in-Some.piece.now c.next.new.self (product_of c.args.word.now) c.in-Some.ensures (sym c.in_default-read_factor.ensures) c.loop-piece.invariant)

pub returns-then-len-ge-MOST_NUMERALS : goal.returns-then-len-ge-MOST_NUMERALS
returns-then-len-ge-MOST_NUMERALS c = ap formed (list_full factor_of 8 c.loop-piece.product c.loop-piece.pieces c.in-Some.piece.now c.next.new.self c.in-Some-read_factor.x (product_of c.args.word.now) c.in-Some.ensures (omega (arith, c.len.ensures, c.if-len-ge-MOST_NUMERALS.true)) (sym c.in-Some-read_factor.ensures) c.loop-piece.invariant)

pub loop-piece-preserved : goal.loop-piece-preserved
loop-piece-preserved c = item_more factor_of 8 c.loop-piece.product c.push.new.self c.loop-piece.pieces c.in-Some.piece.now c.next.new.self c.in-Some-read_factor.x (product_of c.args.word.now) c.in-Some.ensures (omega (arith, c.len.ensures, c.if-len-ge-MOST_NUMERALS.false)) (sym c.in-Some-read_factor.ensures) c.in-Ok.ensures.ok c.loop-piece.invariant

pub returns : goal.returns
returns c = ap formed (list_end factor_of 8 c.loop-piece.product c.loop-piece.pieces (product_of c.args.word.now) c.in_default.ensures.0 c.loop-piece.invariant)
