-- A row of the parameters.
use Rattle.std.specs.Prelude.{ℕ, List, [], ◌∷◌, codes, ok_or, Result, Ok}
use Rattle.toml.specs.Data.{Data, as_table, Members}
use Rattle.om_modelfile.specs.declared.fault.RowFault.{RowFault}
use Rattle.om_modelfile.specs.declared.fault.RowFault.TheVariants.{MissingKey, WrongKind, UnknownKey}
use Rattle.om_modelfile.specs.declared.parameter.Parameter.{Parameter}
use Rattle.om_ring.specs.ResultSteps.{◌>>=◌}
use Rattle.om_modelfile.specs.Each.{unless}
use Rattle.om_modelfile.specs.Keys.{has_all, knows_all, text_at}
use Rattle.om_modelfile.specs.Texts.{name_in, number_in}

abbrev pub parameter_keys : List (List ℕ)
parameter_keys = codes "name" ∷ codes "value" ∷ []

-- the texts of a row
pub record ParameterTexts : Type 0 where
  pub name : List ℕ
  pub value : List ℕ

unfoldable pub parameter_texts : Members → Result ParameterTexts RowFault
parameter_texts ms = do
  _ ← unless (knows_all parameter_keys ms) UnknownKey
  _ ← unless (has_all parameter_keys ms) MissingKey
  name ← text_at (codes "name") ms
  value ← text_at (codes "value") ms
  Ok (record { name = name; value = value })

-- what the texts say
unfoldable pub parameter_from : ParameterTexts → Result Parameter RowFault
parameter_from texts = do
  name ← name_in texts.name
  value ← number_in texts.value
  Ok (record { name = name; value = value })

unfoldable pub parameter_of : Data → Result Parameter RowFault
parameter_of d = do
  ms ← ok_or (as_table d) WrongKind
  texts ← parameter_texts ms
  parameter_from texts
