-- The components of a wave, the indices that it has, and its kind.
use Rattle.std.specs.Prelude.{ℕ, List, [], ◌∷◌, Option, Some, None}
use Rattle.om_lorentz.specs.Matrices.{upper}
use Rattle.om_kernel.specs.declared.waves.Wave.{Wave}
use Rattle.om_kernel.specs.declared.waves.Wave.TheVariants.{Scalar, Row, Column, Vector}

-- the component at an index
abbrev pub component : {E : Type 0} → Wave E → ℕ → E
component (Scalar x) n = x
component (Row p) n = upper p n
component (Column p) n = upper p n
component (Vector p) n = upper p n

-- the indices of a wave
abbrev pub wave_indices : {E : Type 0} → Wave E → List ℕ
wave_indices (Scalar x) = 0 ∷ []
wave_indices (Row p) = 0 ∷ 1 ∷ 2 ∷ 3 ∷ []
wave_indices (Column p) = 0 ∷ 1 ∷ 2 ∷ 3 ∷ []
wave_indices (Vector p) = 0 ∷ 1 ∷ 2 ∷ 3 ∷ []

-- what a wave is
pub data Kind : Type 0 where
  a_scalar : Kind
  a_row : Kind
  a_column : Kind
  a_vector : Kind

-- the kind of a wave
abbrev pub kind_of : {E : Type 0} → Wave E → Kind
kind_of (Scalar x) = a_scalar
kind_of (Row p) = a_row
kind_of (Column p) = a_column
kind_of (Vector p) = a_vector

-- the kind of the wave that a slot holds, if it holds one
abbrev pub held_kind : {E : Type 0} → Option (Wave E) → Option Kind
held_kind None = None
held_kind (Some w) = Some (kind_of w)
