-- The index sum of an edge: the numerator of its propagator times the components of the wave that enters it, summed over
-- the indices of the wave.
use Rattle.std.specs.Prelude.{ℕ, Bool, true, false}
use Rattle.om_ring.specs.Ops.{Ops}
use Rattle.om_ring.specs.Sums.{sum_over}
use Rattle.om_lorentz.specs.declared.structures.Spin.{Spin}
use Rattle.om_lorentz.specs.declared.structures.Spin.TheVariants as spin
use Rattle.om_lorentz.specs.declared.vectors.Four.{Four}
use Rattle.om_lorentz.specs.Matrices.{reversed}
use Rattle.om_lorentz.specs.Propagators.{propagator}
use Rattle.om_kernel.specs.declared.waves.Wave.{Wave}
use Rattle.om_kernel.specs.declared.waves.Wave.TheVariants.{Scalar, Row, Column, Vector}
use Rattle.om_kernel.specs.Waves.{component, wave_indices}

-- the spin of a wave's field
abbrev pub spin_of : {E : Type 0} → Wave E → Spin
spin_of (Scalar x) = spin.Scalar
spin_of (Row r) = spin.Dirac
spin_of (Column d) = spin.Dirac
spin_of (Vector v) = spin.Vector

-- The numerator at the index n of the far end and j of the near end, where the wave enters. p is the momentum of the legs
-- behind the wave. A column goes along the arrow of its field, to the end with the row index. A row goes against the
-- arrow, so it enters at the end with the row index, and the momentum along the arrow is -p.
abbrev pub edge_entry : {E : Type 0} → Ops E → E → Four E → Wave E → ℕ → ℕ → E
edge_entry o m p (Row r) n j = propagator o spin.Dirac m (reversed o p) j n
edge_entry o m p w n j = propagator o (spin_of w) m p n j

-- the index sum of an edge with the mass m
abbrev pub edge_sum : {E : Type 0} → Ops E → E → Four E → Wave E → ℕ → E
edge_sum o m p w n = sum_over o (wave_indices w) (λ j. o.times (edge_entry o m p w n j) (component w j))

-- at most how many ring calls an edge takes
abbrev pub calls_to_propagate : {E : Type 0} → Wave E → Bool → ℕ
calls_to_propagate (Scalar x) massive = 2
calls_to_propagate (Row r) massive = 36
calls_to_propagate (Column d) massive = 34
calls_to_propagate (Vector v) true = 23
calls_to_propagate (Vector v) false = 6
