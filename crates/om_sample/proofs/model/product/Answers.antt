use Rattle.std.proofs.Common.{[], ◌∷◌, ◌++◌, refl, ap, ◌∙◌}
use Rattle.om_ring.proofs.NumeralValues.{numeral_from}
use Rattle.om_sample.specs.Model.{whole}
use Rattle.om_sample.proofs.model.product.Goals as goal

pub returns : goal.returns
returns c =
    let x = whole c.args.num in
    c.in_ok-push.ensures.ok ∙ ap (λ n. c.new-product.result ++ n ∷ []) (numeral_from _ x refl refl refl refl) ∙ ap (λ xs. xs ++ x ∷ []) c.new-product.ensures
