use Rattle.std.proofs.Common.{map}
use Rattle.toml.specs.View.{view}
use Rattle.om_modelfile.specs.Keys.{text_of}
use Rattle.om_modelfile.proofs.Reading.{IsRead}
use Rattle.om_modelfile.proofs.keys.texts_of.Given as goal

abbrev pub invariant-loop-value : goal.invariant-loop-value
invariant-loop-value l = IsRead (λ _ d. text_of d) view 0 l.values l.value-index (map (λ s. s.now) l.texts.items)
