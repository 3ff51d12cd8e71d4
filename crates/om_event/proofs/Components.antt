-- A wave and its components.
use Rattle.std.proofs.Common.{◌≡◌, refl, ap, sym, ◌∙◌}
use Rattle.om_lorentz.specs.declared.vectors.Four.{Four}
use Rattle.om_kernel.specs.Waves.{a_scalar, a_row, a_column, a_vector, kind_of}
use Rattle.om_kernel.specs.declared.waves.Wave.{Wave}
use Rattle.om_kernel.specs.declared.waves.Wave.TheVariants as wave
use Rattle.om_event.specs.declared.kind.WaveKind.{WaveKind}
use Rattle.om_event.specs.declared.kind.WaveKind.TheVariants.{Scalar, Row, Column, Vector}
use Rattle.om_event.specs.Kinds.{kind_named}
use Rattle.om_event.specs.Written.{wave_of}

-- a wave made of four components has its kind
pub wave_of-kind : {E : Type 0} (kind : WaveKind) (p : Four E) → kind_of (wave_of kind p) ≡ kind_named kind
wave_of-kind Scalar p = refl
wave_of-kind Row p = refl
wave_of-kind Column p = refl
wave_of-kind Vector p = refl

-- a wave is made of its components
module _ {E : Type 0} (w : Wave E) (p : Four E) where
  pub scalar_again : (kind : WaveKind) (x : E) → w ≡ wave.Scalar x → kind_of w ≡ kind_named kind → p.t ≡ x → wave_of kind p ≡ w
  scalar_again Scalar x e k t = ap wave.Scalar t ∙ sym e
  scalar_again Row x e k t = (let d : a_scalar ≡ a_row = ap kind_of (sym e) ∙ k in cc)
  scalar_again Column x e k t = (let d : a_scalar ≡ a_column = ap kind_of (sym e) ∙ k in cc)
  scalar_again Vector x e k t = (let d : a_scalar ≡ a_vector = ap kind_of (sym e) ∙ k in cc)

  pub row_again : (kind : WaveKind) (q : Four E) → w ≡ wave.Row q → kind_of w ≡ kind_named kind → p ≡ q → wave_of kind p ≡ w
  row_again Scalar q e k t = (let d : a_row ≡ a_scalar = ap kind_of (sym e) ∙ k in cc)
  row_again Row q e k t = ap wave.Row t ∙ sym e
  row_again Column q e k t = (let d : a_row ≡ a_column = ap kind_of (sym e) ∙ k in cc)
  row_again Vector q e k t = (let d : a_row ≡ a_vector = ap kind_of (sym e) ∙ k in cc)

  pub column_again : (kind : WaveKind) (q : Four E) → w ≡ wave.Column q → kind_of w ≡ kind_named kind → p ≡ q → wave_of kind p ≡ w
  column_again Scalar q e k t = (let d : a_column ≡ a_scalar = ap kind_of (sym e) ∙ k in cc)
  column_again Row q e k t = (let d : a_column ≡ a_row = ap kind_of (sym e) ∙ k in cc)
  column_again Column q e k t = ap wave.Column t ∙ sym e
  column_again Vector q e k t = (let d : a_column ≡ a_vector = ap kind_of (sym e) ∙ k in cc)

  pub vector_again : (kind : WaveKind) (q : Four E) → w ≡ wave.Vector q → kind_of w ≡ kind_named kind → p ≡ q → wave_of kind p ≡ w
  vector_again Scalar q e k t = (let d : a_vector ≡ a_scalar = ap kind_of (sym e) ∙ k in cc)
  vector_again Row q e k t = (let d : a_vector ≡ a_row = ap kind_of (sym e) ∙ k in cc)
  vector_again Column q e k t = (let d : a_vector ≡ a_column = ap kind_of (sym e) ∙ k in cc)
  vector_again Vector q e k t = ap wave.Vector t ∙ sym e
