use Rattle.std.proofs.Common.{◌∙◌, map, arith, ap}
use Rattle.std.proofs.lemmas.List.{map-append}
use Rattle.toml.specs.View.{view}
use Rattle.om_modelfile.specs.Keys.{text_of, texts_of}
use Rattle.om_modelfile.proofs.FaultsOf.{Fails-through}
use Rattle.om_modelfile.proofs.Reading.{none_read, one_more, has_fault}
use Rattle.om_modelfile.proofs.keys.texts_of.Goals as goal

pub loop-value-init : goal.loop-value-init
loop-value-init c = rw c.new-texts.ensures.items (none_read (λ _ d. text_of d) view 0 c.args.values.now)

pub returns-in-Err : goal.returns-in-Err
returns-in-Err c =
    Fails-through c.in-Err.fault (text_of (view c.value-item.result)) (texts_of (map view c.args.values.now))
    (λ e. has_fault (λ _ d. text_of d) view 0 c.args.values.now c.loop-value.value-index c.value-item.result c.value-item.result _ c.in-Err.fault (omega arith) c.value-item.is c.loop-value.invariant e)
    c.in-Err.ensures

pub loop-value-preserved : goal.loop-value-preserved
loop-value-preserved c =
    one_more (λ _ d. text_of d) view 0 c.args.values.now c.loop-value.value-index c.value-item.result c.value-item.result _ _ c.in-Ok.text.now (omega arith) c.value-item.is c.loop-value.invariant c.in-Ok.ensures
    (ap (map (λ s. s.now)) c.in-Ok-push.ensures.items ∙ map-append (λ s. s.now) c.loop-value.texts.items _)
