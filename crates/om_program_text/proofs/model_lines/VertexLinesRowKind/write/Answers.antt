use Rattle.om_program_text.specs.Parts.{vertex_parts}
use Rattle.om_io.specs.Writing.{all_of}
use Rattle.om_io.proofs.Outlets.{writes_same}
use Rattle.om_program_text.proofs.Texts.{vertex_text}
use Rattle.om_program_text.proofs.model_lines.VertexLinesRowKind.write.Goals as goal

pub returns : goal.returns
returns g c = writes_same _ _ (all_of (vertex_parts c.args.self.now.particles.now c.args.vertex.now)) _ c.write_vertex.result (vertex_text c.args.self.now.particles.now c.args.vertex.now) c.write_vertex.ensures
