use Rattle.std.proofs.Common.{map, refl, arith}
use Rattle.om_modelfile.specs.Vertices.{field_in, fields_named}
use Rattle.om_modelfile.proofs.FaultsOf.{Fails-through}
use Rattle.om_modelfile.proofs.Reading.{none_read, one_more, has_fault}
use Rattle.om_modelfile.proofs.vertex.read_fields.Goals as goal

pub loop-name-init : goal.loop-name-init
loop-name-init c = rw c.new-fields.ensures (none_read (λ _ name. field_in c.args.particles.now name) (λ s. s.now) 0 c.args.names.now)

pub returns-in-Err : goal.returns-in-Err
returns-in-Err c =
    Fails-through c.in-Err.fault _ (fields_named c.args.particles.now (map (λ s. s.now) c.args.names.now))
    (λ e. has_fault (λ _ name. field_in c.args.particles.now name) (λ s. s.now) 0 c.args.names.now c.loop-name.name-index _ _ _ c.in-Err.fault (omega arith) refl c.loop-name.invariant e)
    c.in-Err.ensures

pub loop-name-preserved : goal.loop-name-preserved
loop-name-preserved c =
    one_more (λ _ name. field_in c.args.particles.now name) (λ s. s.now) 0 c.args.names.now c.loop-name.name-index _ _ _ _ c.in-Ok.field (omega arith) refl c.loop-name.invariant c.in-Ok.ensures c.in-Ok-push.ensures.ok
