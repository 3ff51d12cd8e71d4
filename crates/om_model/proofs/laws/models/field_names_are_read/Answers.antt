use Rattle.om_model.proofs.FieldNameLaws.{field_names_are_read}
use Rattle.om_model.proofs.laws.models.field_names_are_read.Goals as goal

pub returns : goal.returns
returns c = field_names_are_read
