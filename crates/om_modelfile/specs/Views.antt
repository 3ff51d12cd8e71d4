-- What the texts of a row stand for.
use Rattle.std.specs.Prelude.{map}
use Rattle.toml.specs.View.{view}
use Rattle.om_modelfile.specs.declared.parameter.ParameterTexts as parameter
use Rattle.om_modelfile.specs.declared.particle.ParticleTexts as particle
use Rattle.om_modelfile.specs.declared.vertex.VertexTexts as vertex
use Rattle.om_modelfile.specs.declared.read.TopValues as top
use Rattle.om_modelfile.specs.ModelOf.{TopValues}
use Rattle.om_modelfile.specs.Parameters.{ParameterTexts}
use Rattle.om_modelfile.specs.Particles.{ParticleTexts}
use Rattle.om_modelfile.specs.Vertices.{VertexTexts}

abbrev pub parameter_texts_view : parameter.ParameterTexts → ParameterTexts
parameter_texts_view texts = record { name = texts.name.now; value = texts.value.now }

abbrev pub particle_texts_view : particle.ParticleTexts → ParticleTexts
particle_texts_view texts = record {
  name = texts.name.now;
  anti = texts.anti.now;
  spin = texts.spin.now;
  mass = texts.mass.now;
  width = texts.width.now;
  norm = texts.norm.now;
  colour = texts.colour;
}

abbrev pub vertex_texts_view : vertex.VertexTexts → VertexTexts
vertex_texts_view texts = record {
  fields = map (λ s. s.now) texts.fields.items;
  factors = map (λ s. s.now) texts.factors.items;
  structure = texts.structure.now;
  order = texts.order;
}

abbrev pub top_view : top.TopValues → TopValues
top_view values = record {
  name = values.name;
  parameters = map view values.parameters.now;
  particles = map view values.particles.now;
  vertices = map view values.vertices.now;
}
