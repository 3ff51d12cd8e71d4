-- The table of phases in the code holds the gamma matrices.
use Rattle.std.proofs.Common.{◌≡◌, ℕ, ◌<◌, Bool, true, [], refl, sym, ◌∙◌, slice_index_or}
use Rattle.om_ring.specs.Ops.{Ops, Laws}
use Rattle.om_ring.proofs.GaussSolver.{expr_ops, value, poly, solve}
use Rattle.om_lorentz.specs.Matrices.{gamma}
use Rattle.om_lorentz.specs.Phases.{phase_value}
use Rattle.om_lorentz.specs.declared.phases.Phase.{Phase}
use Rattle.om_lorentz.specs.declared.phases.Phase.TheVariants.{Zero, One, MinusOne, Imag, MinusImag}
use Rattle.om_lorentz.specs.declared.matrices.TheConstants.{GAMMA}
use Rattle.om_lorentz.proofs.SamePoly.{same_poly, same_poly-true}
use Rattle.om_lorentz.proofs.Values.{all4, all4-true, gamma-value}

-- the phase that the table has
abbrev pub phase_at : ℕ → ℕ → ℕ → Phase
phase_at mu row column = slice_index_or (slice_index_or (slice_index_or GAMMA mu []) row []) column Zero

-- whether table and matrix agree at an entry
abbrev test : ℕ → ℕ → ℕ → Bool
test mu row column = same_poly (poly (phase_value expr_ops (phase_at mu row column))) (poly (gamma expr_ops mu row column))

-- they agree at every entry
holds : all4 (λ mu. all4 (λ row. all4 (λ column. test mu row column))) ≡ true
holds = refl

-- what a phase means when it is written down as an expression
phase-value : {E : Type 0} (o : Ops E) (l : Laws o) (env : ℕ → E) (p : Phase) → value o l env (phase_value expr_ops p) ≡ phase_value o p
phase-value o l env Zero = refl
phase-value o l env One = refl
phase-value o l env MinusOne = refl
phase-value o l env Imag = refl
phase-value o l env MinusImag = refl

-- the phase in the table is the entry of gamma_mu
pub gamma-phase : {E : Type 0} (o : Ops E) → Laws o → (mu row column : ℕ) → mu < 4 → row < 4 → column < 4 → phase_value o (phase_at mu row column) ≡ gamma o mu row column
gamma-phase {E} o l mu row column pm pr pc =
    let env : ℕ → E = λ _. o.zero in
    sym (phase-value o l env (phase_at mu row column)) ∙
    solve o l env (phase_value expr_ops (phase_at mu row column)) (gamma expr_ops mu row column)
    (same_poly-true _ _ (all4-true (λ column. test mu row column) (all4-true (λ row. all4 (λ column. test mu row column))
    (all4-true (λ mu. all4 (λ row. all4 (λ column. test mu row column))) holds mu pm) row pr) column pc)) ∙
    gamma-value o l env mu row column
