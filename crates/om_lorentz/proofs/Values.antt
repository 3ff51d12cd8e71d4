-- The matrices written down as expressions, and what these mean.
use Rattle.std.proofs.Common.{◌≡◌, ℕ, zero, suc, ◌<◌, Bool, true, List, [], ◌∷◌, refl, ◌∙◌, ap, slice_index_or, arith}
use Rattle.std.specs.Prelude.{map}
use Rattle.om_ring.specs.Ops.{Ops, Laws}
use Rattle.om_ring.proofs.GaussSolver.{Expr, nil, expr_ops, value, both}
use Rattle.om_lorentz.specs.Matrices.{cell, lower_at, metric, unit, gamma, metric_rows, unit_rows, gamma_rows}
use Rattle.om_lorentz.proofs.SamePoly.{both-first, both-second}

-- a test at 0 to 3
abbrev pub all4 : (ℕ → Bool) → Bool
all4 f = both (f 0) (both (f 1) (both (f 2) (f 3)))

-- what the test finds holds at each index
pub all4-true : (f : ℕ → Bool) → all4 f ≡ true → (n : ℕ) → n < 4 → f n ≡ true
all4-true f h zero p = both-first (f 0) _ h
all4-true f h (suc zero) p = both-first (f 1) _ (both-second (f 0) _ h)
all4-true f h (suc (suc zero)) p = both-first (f 2) (f 3) (both-second (f 1) _ (both-second (f 0) _ h))
all4-true f h (suc (suc (suc zero))) p = both-second (f 2) (f 3) (both-second (f 1) _ (both-second (f 0) _ h))
all4-true f h (suc (suc (suc (suc n)))) p = absurd (omega arith)

-- a member of a list under a function
get_map : {A B : Type 0} (f : A → B) (xs : List A) (k : ℕ) (d : A) → f (slice_index_or xs k d) ≡ slice_index_or (map f xs) k (f d)
get_map f [] k d = refl
get_map f (x ∷ xs) zero d = refl
get_map f (x ∷ xs) (suc k) d = get_map f xs k d

module _ {E : Type 0} (o : Ops E) (l : Laws o) (env : ℕ → E) where
  -- an entry of a matrix of expressions
  cell-value : (rows : List (List Expr)) (r c : ℕ) → value o l env (cell expr_ops rows r c) ≡ cell o (map (map (value o l env)) rows) r c
  cell-value rows r c = get_map (value o l env) (slice_index_or rows r []) c nil ∙ ap (λ xs. slice_index_or xs c o.zero) (get_map (map (value o l env)) rows r [])

  -- a lowered index
  lower_at-value : (mu : ℕ) (e : Expr) → value o l env (lower_at expr_ops mu e) ≡ lower_at o mu (value o l env e)
  lower_at-value zero e = refl
  lower_at-value (suc mu) e = refl

  -- an entry of a gamma matrix
  pub gamma-value : (mu r c : ℕ) → value o l env (gamma expr_ops mu r c) ≡ gamma o mu r c
  gamma-value mu r c =
      lower_at-value mu (cell expr_ops (slice_index_or (gamma_rows expr_ops) mu []) r c) ∙
      ap (lower_at o mu) (cell-value (slice_index_or (gamma_rows expr_ops) mu []) r c ∙ ap (λ (m : List (List E)). cell o m r c) (get_map (map (map (value o l env))) (gamma_rows expr_ops) mu []))

  -- an entry of the metric
  pub metric-value : (r c : ℕ) → value o l env (metric expr_ops r c) ≡ metric o r c
  metric-value r c = cell-value (metric_rows expr_ops) r c

  -- an entry of the unit matrix
  pub unit-value : (r c : ℕ) → value o l env (unit expr_ops r c) ≡ unit o r c
  unit-value r c = cell-value (unit_rows expr_ops) r c
