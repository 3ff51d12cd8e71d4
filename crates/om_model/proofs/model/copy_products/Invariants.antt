use Rattle.std.proofs.Common.{◌≡◌, take}
use Rattle.om_model.proofs.model.copy_products.Given as goal

abbrev pub invariant-loop-product : goal.invariant-loop-product
invariant-loop-product l = l.copy ≡ take l.product-index l.product-items
