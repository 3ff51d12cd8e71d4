-- The model of a file's bytes, or the first fault.
use Rattle.std.specs.Prelude.{◌≡◌, ℕ, ◌+◌, nat_le, ◌&&◌, List, [], ◌∷◌, length, codes, ok_or, if◌then◌else◌, Option, None, Result, Ok, Err}
use Rattle.std.specs.Str.{is_utf8}
use Rattle.toml.specs.Data.{Data, Members}
use Rattle.toml.specs.Parse.{parse_document}
use Rattle.om_ring.specs.Ops.{Ops}
use Rattle.om_model.specs.declared.limits.TheConstants.{MOST_PARTICLES, MOST_VERTICES}
use Rattle.om_modelfile.specs.declared.limits.TheConstants.{MOST_PARAMETERS}
use Rattle.om_model.specs.Rules.{Checks, IsAccepted}
use Rattle.om_model.specs.declared.model.Model.{Model}
use Rattle.om_model.specs.declared.rules.Table.TheVariants.{Top, Parameter, Particle, Vertex}
use Rattle.om_modelfile.specs.declared.fault.ModelFault.{ModelFault}
use Rattle.om_modelfile.specs.declared.fault.ModelFault.TheVariants.{NotToml, Rule, Memory}
use Rattle.om_modelfile.specs.declared.fault.RowFault.{RowFault}
use Rattle.om_modelfile.specs.declared.fault.RowFault.TheVariants.{MissingKey, UnknownKey, TooMuch}
use Rattle.om_ring.specs.ResultSteps.{◌>>=◌}
use Rattle.om_modelfile.specs.Each.{in_row, rows_of, unless}
use Rattle.om_modelfile.specs.Keys.{has_all, knows_all, text_at, values_at, values_or}
use Rattle.om_modelfile.specs.Parameters.{parameter_of}
use Rattle.om_modelfile.specs.Particles.{particle_of}
use Rattle.om_modelfile.specs.Texts.{name_in}
use Rattle.om_modelfile.specs.Vertices.{vertex_of}

abbrev pub top_required : List (List ℕ)
top_required = codes "model" ∷ codes "particle" ∷ codes "vertex" ∷ []

abbrev pub top_keys : List (List ℕ)
top_keys = codes "model" ∷ codes "particle" ∷ codes "vertex" ∷ codes "parameter" ∷ []

-- the name of the model, and the rows of its tables as they stand in the file
pub record TopValues : Type 0 where
  pub name : List ℕ
  pub parameters : List Data
  pub particles : List Data
  pub vertices : List Data

-- at most 256 parameters, 64 particles and 512 vertices
unfoldable pub top_of : Members → Result TopValues RowFault
top_of ms = do
  _ ← unless (knows_all top_keys ms) UnknownKey
  _ ← unless (has_all top_required ms) MissingKey
  text ← text_at (codes "model") ms
  particles ← values_at (codes "particle") ms
  vertices ← values_at (codes "vertex") ms
  parameters ← values_or [] (codes "parameter") ms
  name ← name_in text
  _ ← unless (nat_le (length parameters) MOST_PARAMETERS && nat_le (length particles) MOST_PARTICLES && nat_le (length vertices) MOST_VERTICES) TooMuch
  Ok (record { name = name; parameters = parameters; particles = particles; vertices = vertices })

-- the model that a document has the form of
unfoldable pub form_of_document : Members → Result Model ModelFault
form_of_document ms = do
  top ← in_row Top 0 (top_of ms)
  parameters ← rows_of Parameter parameter_of top.parameters
  particles ← rows_of Particle (particle_of parameters) top.particles
  vertices ← rows_of Vertex (vertex_of parameters particles) top.vertices
  Ok (record { name = top.name; particles = particles; vertices = vertices })

-- the document of a text, which has to be UTF-8
abbrev pub document_of : List ℕ → Option Members
document_of bytes = if is_utf8 bytes then parse_document bytes else None

-- the model that a file has the form of, or the first fault of its form
unfoldable pub form_of : List ℕ → Result Model ModelFault
form_of bytes = ok_or (document_of bytes) NotToml >>= form_of_document

-- how many particles and vertices are held to the rules
abbrev pub rows_read : Result Model ModelFault → ℕ
rows_read (Ok m) = length m.particles + length m.vertices
rows_read (Err fault) = 0

-- the file says this model, which meets the rules, or this fault: the first of its form, else the first rule that is
-- broken; any answer may be want of memory
abbrev pub SaysModel : {E : Type 0} → Ops E → List ℕ → Result Model ModelFault → Type 0
SaysModel o bytes (Ok m) = (form_of bytes ≡ Ok m) × IsAccepted o m
SaysModel o bytes (Err Memory) = Unit {0}
SaysModel o bytes (Err (Rule fault)) = (m : Model) × (form_of bytes ≡ Ok m) × Checks o m (Err fault)
SaysModel o bytes (Err fault) = form_of bytes ≡ Err fault
