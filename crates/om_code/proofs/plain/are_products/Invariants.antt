use Rattle.std.proofs.Common.{drop, ◌↔◌}
use Rattle.std.specs.List.{AllByRecursion}
use Rattle.om_code.proofs.plain.are_products.Given as goal
use Rattle.om_model.specs.Rules.{HasLength}

-- whether all are plain is whether those that are left are
abbrev pub invariant-loop-product : goal.invariant-loop-product
invariant-loop-product l = AllByRecursion HasLength l.products ↔ AllByRecursion HasLength (drop l.product-index l.products)
