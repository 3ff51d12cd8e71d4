-- The entries of a + b gamma5, and of gamma_mu times it.
use Rattle.std.proofs.Common.{◌≡◌, ◌≢◌, ℕ, zero, suc, ◌<◌, ◌≤◌, [], ◌∷◌, refl, slice_index_or, arith}
use Rattle.om_ring.specs.Ops.{Ops, Laws}
use Rattle.om_ring.proofs.GaussSolver.{Expr, var, nil, add, mul, neg, expr_ops, solve}
use Rattle.om_lorentz.specs.declared.structures.Factors.{Factors}
use Rattle.om_lorentz.specs.Entries.{chiral}
use Rattle.om_lorentz.specs.Matrices.{product}
use Rattle.om_lorentz.proofs.Metric.{below_four}

-- the factors as variables
abbrev factors : Factors Expr
factors = record { a = var 4; b = var 5; c = nil }

module _ {E : Type 0} (o : Ops E) (l : Laws o) (f : Factors E) where
  -- four numbers and the factors as values of the variables
  abbrev env : (ℕ → E) → ℕ → E
  env x k = slice_index_or (x 0 ∷ x 1 ∷ x 2 ∷ x 3 ∷ f.a ∷ f.b ∷ []) k o.zero

  -- four numbers that are not used
  abbrev none : ℕ → E
  none k = o.zero

  -- a - b in the two upper columns
  pub chiral-left : (k : ℕ) → k < 2 → chiral o f k k ≡ o.plus f.a (o.minus f.b)
  chiral-left zero h = solve o l (env none) (chiral expr_ops factors 0 0) (add (var 4) (neg (var 5))) refl
  chiral-left (suc zero) h = solve o l (env none) (chiral expr_ops factors 1 1) (add (var 4) (neg (var 5))) refl
  chiral-left (suc (suc k)) h = absurd (omega arith)

  -- a + b in the two lower ones
  pub chiral-right : (k : ℕ) → 2 ≤ k → k < 4 → chiral o f k k ≡ o.plus f.a f.b
  chiral-right zero h p = absurd (omega arith)
  chiral-right (suc zero) h p = absurd (omega arith)
  chiral-right (suc (suc zero)) h p = solve o l (env none) (chiral expr_ops factors 2 2) (add (var 4) (var 5)) refl
  chiral-right (suc (suc (suc zero))) h p = solve o l (env none) (chiral expr_ops factors 3 3) (add (var 4) (var 5)) refl
  chiral-right (suc (suc (suc (suc k)))) h p = absurd (omega arith)

  -- two zeros
  off : o.plus (o.times f.a o.zero) (o.times f.b o.zero) ≡ o.zero
  off = solve o l (env none) (add (mul (var 4) nil) (mul (var 5) nil)) nil refl

  -- 0 off the diagonal
  pub chiral-off : (j k : ℕ) → j < 4 → k < 4 → j ≢ k → chiral o f j k ≡ o.zero
  chiral-off j k p q =
      let At : ℕ → ℕ → Type 0 = λ m n. m ≢ n → chiral o f m n ≡ o.zero in
      below_four (λ m. At m k)
      (below_four (At 0) (λ h. absurd (h refl)) (λ _. off) (λ _. off) (λ _. off) k q)
      (below_four (At 1) (λ _. off) (λ h. absurd (h refl)) (λ _. off) (λ _. off) k q)
      (below_four (At 2) (λ _. off) (λ _. off) (λ h. absurd (h refl)) (λ _. off) k q)
      (below_four (At 3) (λ _. off) (λ _. off) (λ _. off) (λ h. absurd (h refl)) k q) j p

  -- a + b gamma5 is diagonal, so a product with it has one summand
  pub product-chiral : (m : ℕ → ℕ → E) (j k : ℕ) → k < 4 → product o m (chiral o f) j k ≡ o.times (m j k) (chiral o f k k)
  product-chiral m j k p =
      let row : ℕ → ℕ → Expr = λ _ n. var n in
      below_four (λ n. product o m (chiral o f) j n ≡ o.times (m j n) (chiral o f n n))
      (solve o l (env (m j)) (product expr_ops row (chiral expr_ops factors) 0 0) (mul (var 0) (chiral expr_ops factors 0 0)) refl)
      (solve o l (env (m j)) (product expr_ops row (chiral expr_ops factors) 0 1) (mul (var 1) (chiral expr_ops factors 1 1)) refl)
      (solve o l (env (m j)) (product expr_ops row (chiral expr_ops factors) 0 2) (mul (var 2) (chiral expr_ops factors 2 2)) refl)
      (solve o l (env (m j)) (product expr_ops row (chiral expr_ops factors) 0 3) (mul (var 3) (chiral expr_ops factors 3 3)) refl) k p
