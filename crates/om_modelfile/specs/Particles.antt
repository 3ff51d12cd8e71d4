-- A row of the particles.
use Rattle.std.specs.Prelude.{ℕ, pos, List, [], ◌∷◌, codes, ok_or, Result, Ok}
use Rattle.toml.specs.Data.{Data, as_table, Members}
use Rattle.om_colour.specs.declared.Colour.{Colour}
use Rattle.om_model.specs.declared.model.Particle.{Particle}
use Rattle.om_modelfile.specs.declared.fault.RowFault.{RowFault}
use Rattle.om_modelfile.specs.declared.fault.RowFault.TheVariants.{MissingKey, WrongKind, UnknownKey}
use Rattle.om_modelfile.specs.declared.parameter.Parameter.{Parameter}
use Rattle.om_ring.specs.ResultSteps.{◌>>=◌}
use Rattle.om_modelfile.specs.Each.{unless}
use Rattle.om_modelfile.specs.Keys.{has_all, knows_all, number_or, text_at, text_or}
use Rattle.om_modelfile.specs.Products.{product_of}
use Rattle.om_modelfile.specs.Texts.{colour_in, name_in, spin_in}

abbrev pub particle_required : List (List ℕ)
particle_required = codes "name" ∷ codes "anti" ∷ codes "spin" ∷ []

abbrev pub particle_keys : List (List ℕ)
particle_keys = codes "name" ∷ codes "anti" ∷ codes "spin" ∷ codes "mass" ∷ codes "width" ∷ codes "norm" ∷ codes "colour" ∷ []

-- the texts of a row, and its colour
pub record ParticleTexts : Type 0 where
  pub name : List ℕ
  pub anti : List ℕ
  pub spin : List ℕ
  pub mass : List ℕ
  pub width : List ℕ
  pub norm : List ℕ
  pub colour : Colour

unfoldable pub particle_texts : Members → Result ParticleTexts RowFault
particle_texts ms = do
  _ ← unless (knows_all particle_keys ms) UnknownKey
  _ ← unless (has_all particle_required ms) MissingKey
  name ← text_at (codes "name") ms
  anti ← text_at (codes "anti") ms
  spin ← text_at (codes "spin") ms
  mass ← text_or (codes "0") (codes "mass") ms
  width ← text_or (codes "0") (codes "width") ms
  norm ← text_or (codes "1") (codes "norm") ms
  number ← number_or (pos 1) (codes "colour") ms
  colour ← colour_in number
  Ok (record { name = name; anti = anti; spin = spin; mass = mass; width = width; norm = norm; colour = colour })

-- what the texts say
unfoldable pub particle_from : List Parameter → ParticleTexts → Result Particle RowFault
particle_from parameters texts = do
  name ← name_in texts.name
  anti ← name_in texts.anti
  spin ← spin_in texts.spin
  mass ← product_of parameters texts.mass
  width ← product_of parameters texts.width
  norm ← product_of parameters texts.norm
  Ok (record { name = name; anti = anti; spin = spin; mass = mass; width = width; norm = norm; colour = texts.colour })

unfoldable pub particle_of : List Parameter → Data → Result Particle RowFault
particle_of parameters d = do
  ms ← ok_or (as_table d) WrongKind
  texts ← particle_texts ms
  particle_from parameters texts
