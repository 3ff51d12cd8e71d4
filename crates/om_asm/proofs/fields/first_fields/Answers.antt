use Rattle.om_asm.proofs.FirstFields.{particle_in, particles_in}
use Rattle.om_asm.proofs.fields.first_fields.Goals as goal

pub loop-row-preserved : goal.loop-row-preserved
loop-row-preserved c = λ q.
    particle_in c.args.particles.now c.loop-row.row c.index-particles-row.result c.index-particles-row.result q c.bytes.result.now c.bytes-in-loop-row.result.now _ _ _ _
    c.loop-row-test.true c.index-particles-row.is c.bytes.ensures.value c.bytes-in-loop-row.ensures.value (c.in_ok-put_first.ensures q) (c.in_ok-put_first-2.ensures q) (c.loop-row.invariant q)

pub returns : goal.returns
returns c = λ q. particles_in c.args.particles.now c.loop-row.row q _ _ c.loop-row-test.false (c.loop-row.invariant q)
