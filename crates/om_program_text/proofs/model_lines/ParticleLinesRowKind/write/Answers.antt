use Rattle.om_program_text.specs.Parts.{particle_parts}
use Rattle.om_io.specs.Writing.{all_of}
use Rattle.om_io.proofs.Outlets.{writes_same}
use Rattle.om_program_text.proofs.Texts.{particle_text}
use Rattle.om_program_text.proofs.model_lines.ParticleLinesRowKind.write.Goals as goal

pub returns : goal.returns
returns g c = writes_same _ _ (all_of (particle_parts c.args.particle.now)) _ c.write_particle.result (particle_text c.args.particle.now) c.write_particle.ensures
