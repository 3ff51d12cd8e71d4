-- A row of the vertices.
use Rattle.std.specs.Prelude.{ℕ, ℤ, pos, nat_abs, int_le, nat_le, Bool, ◌&&◌, List, [], ◌∷◌, length, codes, ok_or, Result, Ok}
use Rattle.toml.specs.Data.{Data, as_table, Members}
use Rattle.om_ring.specs.declared.numeral.Numeral.{Numeral}
use Rattle.om_model.specs.declared.limits.TheConstants.{HIGHEST_ORDER}
use Rattle.om_modelfile.specs.declared.limits.TheConstants.{MOST_FIELDS, MOST_FACTORS}
use Rattle.om_model.specs.FieldNames.{field_named}
use Rattle.om_model.specs.declared.model.Particle.{Particle}
use Rattle.om_model.specs.declared.model.Vertex.{Vertex}
use Rattle.om_modelfile.specs.declared.fault.RowFault.{RowFault}
use Rattle.om_modelfile.specs.declared.fault.RowFault.TheVariants.{MissingKey, WrongKind, UnknownKey, UnknownName, TooMuch}
use Rattle.om_modelfile.specs.declared.parameter.Parameter.{Parameter}
use Rattle.om_ring.specs.ResultSteps.{◌>>=◌}
use Rattle.om_modelfile.specs.Each.{each_from, unless}
use Rattle.om_modelfile.specs.Keys.{has_all, knows_all, number_or, text_at, texts_at}
use Rattle.om_modelfile.specs.Products.{product_of}
use Rattle.om_modelfile.specs.Texts.{structure_in}

abbrev pub vertex_required : List (List ℕ)
vertex_required = codes "fields" ∷ codes "factors" ∷ codes "structure" ∷ []

abbrev pub vertex_keys : List (List ℕ)
vertex_keys = codes "fields" ∷ codes "factors" ∷ codes "structure" ∷ codes "order" ∷ []

-- the texts of a row, and its order
pub record VertexTexts : Type 0 where
  pub fields : List (List ℕ)
  pub factors : List (List ℕ)
  pub structure : List ℕ
  pub order : ℤ

unfoldable pub vertex_texts : Members → Result VertexTexts RowFault
vertex_texts ms = do
  _ ← unless (knows_all vertex_keys ms) UnknownKey
  _ ← unless (has_all vertex_required ms) MissingKey
  fields ← texts_at (codes "fields") ms
  factors ← texts_at (codes "factors") ms
  structure ← text_at (codes "structure") ms
  order ← number_or (pos 1) (codes "order") ms
  Ok (record { fields = fields; factors = factors; structure = structure; order = order })

-- at most 4 fields, at most 3 factors, and an order of 0 to 12
abbrev pub is_within_limits : VertexTexts → Bool
is_within_limits texts = nat_le (length texts.fields) MOST_FIELDS && nat_le (length texts.factors) MOST_FACTORS && int_le (pos 0) texts.order && int_le texts.order (pos HIGHEST_ORDER)

-- the field that a name means
abbrev pub field_in : List Particle → List ℕ → Result ℕ RowFault
field_in particles name = ok_or (field_named particles name) UnknownName

abbrev pub fields_named : List Particle → List (List ℕ) → Result (List ℕ) RowFault
fields_named particles names = each_from (λ _ name. field_in particles name) 0 names

abbrev pub products_of : List Parameter → List (List ℕ) → Result (List (List Numeral)) RowFault
products_of parameters texts = each_from (λ _ text. product_of parameters text) 0 texts

-- what the texts say
unfoldable pub vertex_from : List Parameter → List Particle → VertexTexts → Result Vertex RowFault
vertex_from parameters particles texts = do
  structure ← structure_in texts.structure
  fields ← fields_named particles texts.fields
  _ ← unless (is_within_limits texts) TooMuch
  factors ← products_of parameters texts.factors
  Ok (record { structure = structure; fields = fields; factors = factors; order = nat_abs texts.order })

unfoldable pub vertex_of : List Parameter → List Particle → Data → Result Vertex RowFault
vertex_of parameters particles d = do
  ms ← ok_or (as_table d) WrongKind
  texts ← vertex_texts ms
  vertex_from parameters particles texts
