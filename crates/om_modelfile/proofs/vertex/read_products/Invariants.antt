use Rattle.om_modelfile.specs.Products.{product_of}
use Rattle.om_modelfile.proofs.Reading.{IsRead}
use Rattle.om_modelfile.proofs.vertex.read_products.Given as goal

abbrev pub invariant-loop-text : goal.invariant-loop-text
invariant-loop-text l = IsRead (λ _ text. product_of l.parameters text) (λ s. s.now) 0 l.texts l.text-index l.products
