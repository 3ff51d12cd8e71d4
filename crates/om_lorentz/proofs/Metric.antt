-- The entries of the metric.
use Rattle.std.proofs.Common.{◌≡◌, ◌≢◌, ℕ, zero, suc, ◌<◌, refl, sym, ◌∙◌, ap, arith}
use Rattle.om_ring.specs.Ops.{Ops, Laws}
use Rattle.om_ring.proofs.RingLemmas.{times_zero}
use Rattle.om_lorentz.proofs.Products.{times_minus_one}
use Rattle.om_lorentz.specs.Matrices.{metric}

-- what holds at 0, 1, 2 and 3 holds below 4
pub below_four : (P : ℕ → Type 0) → P 0 → P 1 → P 2 → P 3 → (n : ℕ) → n < 4 → P n
below_four P a b c d zero h = a
below_four P a b c d (suc zero) h = b
below_four P a b c d (suc (suc zero)) h = c
below_four P a b c d (suc (suc (suc zero))) h = d
below_four P a b c d (suc (suc (suc (suc n)))) h = absurd (omega arith)

-- what holds at 0, 1, 2, 3 and past them holds everywhere
by_four : (P : ℕ → Type 0) → P 0 → P 1 → P 2 → P 3 → ((n : ℕ) → P (suc (suc (suc (suc n))))) → (n : ℕ) → P n
by_four P a b c d e zero = a
by_four P a b c d e (suc zero) = b
by_four P a b c d e (suc (suc zero)) = c
by_four P a b c d e (suc (suc (suc zero))) = d
by_four P a b c d e (suc (suc (suc (suc n)))) = e n

module _ {E : Type 0} (o : Ops E) where
  -- off the diagonal the metric is 0
  pub metric-off : (mu nu : ℕ) → mu < 4 → nu < 4 → mu ≢ nu → metric o mu nu ≡ o.zero
  metric-off mu nu p q =
      let At : ℕ → ℕ → Type 0 = λ m n. m ≢ n → metric o m n ≡ o.zero in
      below_four (λ m. At m nu)
      (below_four (At 0) (λ h. absurd (h refl)) (λ _. refl) (λ _. refl) (λ _. refl) nu q)
      (below_four (At 1) (λ _. refl) (λ h. absurd (h refl)) (λ _. refl) (λ _. refl) nu q)
      (below_four (At 2) (λ _. refl) (λ _. refl) (λ h. absurd (h refl)) (λ _. refl) nu q)
      (below_four (At 3) (λ _. refl) (λ _. refl) (λ _. refl) (λ h. absurd (h refl)) nu q) mu p

  -- at a space index it is -1
  pub metric-space : (mu : ℕ) → mu < 4 → mu ≢ 0 → metric o mu mu ≡ o.minus o.one
  metric-space mu p =
      below_four (λ m. m ≢ 0 → metric o m m ≡ o.minus o.one) (λ h. absurd (h refl)) (λ _. refl) (λ _. refl) (λ _. refl) mu p

  -- the metric is symmetric, past its end too
  pub metric-sym : (mu nu : ℕ) → metric o mu nu ≡ metric o nu mu
  metric-sym mu nu =
      let At : ℕ → ℕ → Type 0 = λ m n. metric o m n ≡ metric o n m in
      by_four (λ m. At m nu)
      (by_four (At 0) refl refl refl refl (λ _. refl) nu)
      (by_four (At 1) refl refl refl refl (λ _. refl) nu)
      (by_four (At 2) refl refl refl refl (λ _. refl) nu)
      (by_four (At 3) refl refl refl refl (λ _. refl) nu)
      (λ m. by_four (At (suc (suc (suc (suc m))))) refl refl refl refl (λ _. refl) nu) mu

module _ {E : Type 0} (o : Ops E) (l : Laws o) where
  -- a product with it is 0 off the diagonal
  pub times_metric-off : (x : E) (mu nu : ℕ) → mu < 4 → nu < 4 → mu ≢ nu → o.times x (metric o mu nu) ≡ o.zero
  times_metric-off x mu nu p q h = ap (o.times x) (metric-off o mu nu p q h) ∙ times_zero o l x

  -- keeps x at the time index
  pub times_metric-time : (x : E) (mu nu : ℕ) → mu ≡ nu → mu ≡ 0 → o.times x (metric o mu nu) ≡ x
  times_metric-time x mu nu e z = ap (λ k. o.times x (metric o mu k)) (sym e) ∙ ap (λ k. o.times x (metric o k k)) z ∙ l.times_one x

  -- and is -x at a space index
  pub times_metric-space : (x : E) (mu nu : ℕ) → mu < 4 → mu ≡ nu → mu ≢ 0 → o.times x (metric o mu nu) ≡ o.minus x
  times_metric-space x mu nu p e h = ap (λ k. o.times x (metric o mu k)) (sym e) ∙ ap (o.times x) (metric-space o mu p h) ∙ times_minus_one o l x
