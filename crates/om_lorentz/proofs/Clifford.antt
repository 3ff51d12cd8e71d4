-- gamma_mu gamma_nu + gamma_nu gamma_mu = 2 g_mu_nu, by computing both sides at all indices.
use Rattle.std.proofs.Common.{◌≡◌, ℕ, ◌<◌, Bool, true, refl, sym, ◌∙◌}
use Rattle.om_ring.specs.Ops.{Ops, Laws}
use Rattle.om_ring.proofs.GaussSolver.{mul, expr_ops, value, poly, solve}
use Rattle.om_lorentz.specs.Entries.{double}
use Rattle.om_lorentz.specs.Laws.{Clifford}
use Rattle.om_lorentz.specs.Matrices.{metric, unit, gamma, product}
use Rattle.om_lorentz.proofs.SamePoly.{same_poly, same_poly-true}
use Rattle.om_lorentz.proofs.Values.{all4, all4-true, gamma-value, metric-value, unit-value}

-- gamma_mu gamma_nu + gamma_nu gamma_mu
abbrev left_side : {E : Type 0} → Ops E → ℕ → ℕ → ℕ → ℕ → E
left_side o mu nu row column = o.plus (product o (gamma o mu) (gamma o nu) row column) (product o (gamma o nu) (gamma o mu) row column)

-- 2 g_mu_nu
abbrev right_side : {E : Type 0} → Ops E → ℕ → ℕ → ℕ → ℕ → E
right_side o mu nu row column = o.times (double o (metric o mu nu)) (unit o row column)

-- whether both sides have one normal form at an entry
abbrev test : ℕ → ℕ → ℕ → ℕ → Bool
test mu nu row column = same_poly (poly (left_side expr_ops mu nu row column)) (poly (right_side expr_ops mu nu row column))

-- they have at every entry
holds : all4 (λ mu. all4 (λ nu. all4 (λ row. all4 (λ column. test mu nu row column)))) ≡ true
holds = refl

-- so both sides are equal there
at : (mu nu row column : ℕ) → mu < 4 → nu < 4 → row < 4 → column < 4 → poly (left_side expr_ops mu nu row column) ≡ poly (right_side expr_ops mu nu row column)
at mu nu row column pm pn pr pc =
    same_poly-true _ _ (
    all4-true (λ column. test mu nu row column)
    (all4-true (λ row. all4 (λ column. test mu nu row column))
    (all4-true (λ nu. all4 (λ row. all4 (λ column. test mu nu row column)))
    (all4-true (λ mu. all4 (λ nu. all4 (λ row. all4 (λ column. test mu nu row column)))) holds mu pm) nu pn) row pr) column pc)

-- the law, in every ring
pub clifford_holds : {E : Type 0} (o : Ops E) → Laws o → Clifford o
clifford_holds {E} o l mu nu row column pm pn pr pc =
    let env : ℕ → E = λ _. o.zero in
    let pair : (a b k : ℕ) → value o l env (mul (gamma expr_ops a row k) (gamma expr_ops b k column)) ≡ o.times (gamma o a row k) (gamma o b k column) =
    λ a b k. cc (gamma-value o l env a row k, gamma-value o l env b k column) in
    let left : value o l env (left_side expr_ops mu nu row column) ≡ left_side o mu nu row column =
    cc (pair mu nu 0, pair mu nu 1, pair mu nu 2, pair mu nu 3, pair nu mu 0, pair nu mu 1, pair nu mu 2, pair nu mu 3) in
    let right : value o l env (right_side expr_ops mu nu row column) ≡ right_side o mu nu row column =
    cc (metric-value o l env mu nu, unit-value o l env row column) in
    sym left ∙ solve o l env (left_side expr_ops mu nu row column) (right_side expr_ops mu nu row column) (at mu nu row column pm pn pr pc) ∙ right
