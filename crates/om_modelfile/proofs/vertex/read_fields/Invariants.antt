use Rattle.om_modelfile.specs.Vertices.{field_in}
use Rattle.om_modelfile.proofs.Reading.{IsRead}
use Rattle.om_modelfile.proofs.vertex.read_fields.Given as goal

abbrev pub invariant-loop-name : goal.invariant-loop-name
invariant-loop-name l = IsRead (λ _ name. field_in l.particles name) (λ s. s.now) 0 l.names l.name-index l.fields
