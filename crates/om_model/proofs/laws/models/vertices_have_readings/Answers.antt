use Rattle.om_model.proofs.VertexReadings.{vertices_have_readings}
use Rattle.om_model.proofs.laws.models.vertices_have_readings.Goals as goal

pub returns : goal.returns
returns c = vertices_have_readings
