use Rattle.std.proofs.Common.{◌≡◌, length}
use Rattle.om_asm.specs.Reading.{product_of}
use Rattle.om_asm.specs.Lists.{list_from}
use Rattle.om_asm.proofs.ReadingLists.{listed_behind}
use Rattle.om_asm.proofs.vertex_line.read_products.Given as goal

abbrev pub invariant-loop-word : goal.invariant-loop-word
invariant-loop-word l = listed_behind l.factors (list_from product_of 3 (length l.factors) l.words) ≡ list_from product_of 3 0 l.fn.words

abbrev pub decreases-loop-word : goal.decreases-loop-word
decreases-loop-word l = length l.words
