use Rattle.std.proofs.Common.{◌≡◌, length}
use Rattle.om_asm.specs.Reading.{factor_of, product_of}
use Rattle.om_asm.specs.Lists.{list_from}
use Rattle.om_asm.proofs.ReadingLists.{listed_behind}
use Rattle.om_asm.proofs.particle_line.read_product.Given as goal

abbrev pub invariant-loop-piece : goal.invariant-loop-piece
invariant-loop-piece l = listed_behind l.product (list_from factor_of 8 (length l.product) l.pieces) ≡ product_of l.word

abbrev pub decreases-loop-piece : goal.decreases-loop-piece
decreases-loop-piece l = length l.pieces
