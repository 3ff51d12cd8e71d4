use Rattle.om_modelfile.specs.Products.{term_of}
use Rattle.om_modelfile.proofs.Reading.{IsRead}
use Rattle.om_modelfile.proofs.product.read_terms.Given as goal

abbrev pub invariant-loop-term : goal.invariant-loop-term
invariant-loop-term l = IsRead (λ _ term. term_of l.parameters term) (λ s. s.now) 0 l.terms l.term-index l.product
