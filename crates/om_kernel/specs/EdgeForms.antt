-- What an edge makes of a wave, by components. Each form is one that the code computes as it stands.
use Rattle.std.specs.Prelude.{Bool, true, false}
use Rattle.om_ring.specs.Ops.{Ops}
use Rattle.om_lorentz.specs.declared.vectors.Four.{Four}
use Rattle.om_kernel.specs.declared.waves.Wave.{Wave}
use Rattle.om_kernel.specs.declared.waves.Wave.TheVariants.{Scalar, Row, Column, Vector}
use Rattle.om_kernel.specs.Components.{along, plain_dot, scaled, slash_column, turned_back}

module _ {E : Type 0} (o : Ops E) where
  open o use {imag as 𝕚, minus as ⊖◌, times as ◌⊗◌}

  infix 65 ⊖◌
  infixl 70 ◌⊗◌
  -- i f (pslash + m) times a column
  abbrev pub spinor_form : E → E → Four E → Four E → Four E
  spinor_form m f p d = scaled o (𝕚 ⊗ f) (along o m (slash_column o p d) d)

  -- the momentum q for which a row goes with p as a column does with q: qslash is -pslash transposed, and transposing turns
  -- gamma_1 and gamma_3 round
  abbrev pub row_momentum : Four E → Four E
  row_momentum p = record { t = ⊖ p.t; x = p.x; y = ⊖ p.y; z = p.z }

  -- -i f g w
  abbrev pub massless_form : E → Four E → Four E
  massless_form f w = scaled o (𝕚 ⊗ f) (turned_back o w)

  -- -i f (g w - p (p w) / m^2), where k is 1/m
  abbrev pub massive_form : E → E → Four E → Four E → Four E
  massive_form k f p w = scaled o (𝕚 ⊗ f) (along o (k ⊗ k ⊗ plain_dot o p w) (turned_back o w) p)

  -- what a wave becomes, where k is 1/m
  abbrev pub edge_form : E → E → Bool → E → Four E → Wave E → Wave E
  edge_form m k massive f p (Scalar x) = Scalar (𝕚 ⊗ f ⊗ x)
  edge_form m k massive f p (Row r) = Row (spinor_form m f (row_momentum p) r)
  edge_form m k massive f p (Column d) = Column (spinor_form m f p d)
  edge_form m k true f p (Vector w) = Vector (massive_form k f p w)
  edge_form m k false f p (Vector w) = Vector (massless_form f w)
