use Rattle.std.proofs.Common.{map, refl, arith}
use Rattle.om_modelfile.specs.Each.{each_from}
use Rattle.om_modelfile.specs.Products.{term_of}
use Rattle.om_modelfile.proofs.FaultsOf.{Fails-through}
use Rattle.om_modelfile.proofs.Reading.{none_read, one_more, has_fault}
use Rattle.om_modelfile.proofs.product.read_terms.Goals as goal

pub loop-term-init : goal.loop-term-init
loop-term-init c = rw c.new-product.ensures (none_read (λ _ term. term_of c.args.parameters.now term) (λ s. s.now) 0 c.args.terms.now)

pub returns-in-Err : goal.returns-in-Err
returns-in-Err c =
    Fails-through c.in-Err.fault _ (each_from (λ _ term. term_of c.args.parameters.now term) 0 (map (λ s. s.now) c.args.terms.now))
    (λ e. has_fault (λ _ term. term_of c.args.parameters.now term) (λ s. s.now) 0 c.args.terms.now c.loop-term.term-index _ _ _ c.in-Err.fault (omega arith) refl c.loop-term.invariant e)
    c.in-Err.ensures

pub loop-term-preserved : goal.loop-term-preserved
loop-term-preserved c =
    one_more (λ _ term. term_of c.args.parameters.now term) (λ s. s.now) 0 c.args.terms.now c.loop-term.term-index _ _ _ _ c.in-Ok.factor (omega arith) refl c.loop-term.invariant c.in-Ok.ensures c.in-Ok-push.ensures.ok
