use Rattle.std.proofs.Common.{map, refl, arith}
use Rattle.om_modelfile.specs.Products.{product_of}
use Rattle.om_modelfile.specs.Vertices.{products_of}
use Rattle.om_modelfile.proofs.FaultsOf.{Fails-through}
use Rattle.om_modelfile.proofs.Reading.{none_read, one_more, has_fault}
use Rattle.om_modelfile.proofs.vertex.read_products.Goals as goal

pub loop-text-init : goal.loop-text-init
loop-text-init c = rw c.new-products.ensures (none_read (λ _ text. product_of c.args.parameters.now text) (λ s. s.now) 0 c.args.texts.now)

pub returns-in-Err : goal.returns-in-Err
returns-in-Err c =
    Fails-through c.in-Err.fault _ (products_of c.args.parameters.now (map (λ s. s.now) c.args.texts.now))
    (λ e. has_fault (λ _ text. product_of c.args.parameters.now text) (λ s. s.now) 0 c.args.texts.now c.loop-text.text-index _ _ _ c.in-Err.fault (omega arith) refl c.loop-text.invariant e)
    c.in-Err.ensures

pub loop-text-preserved : goal.loop-text-preserved
loop-text-preserved c =
    one_more (λ _ text. product_of c.args.parameters.now text) (λ s. s.now) 0 c.args.texts.now c.loop-text.text-index _ _ _ _ c.in-Ok.product (omega arith) refl c.loop-text.invariant c.in-Ok.ensures c.in-Ok-push.ensures.ok
