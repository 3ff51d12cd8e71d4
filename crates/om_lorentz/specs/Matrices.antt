-- The metric, lowered indices and the gamma matrices in the chiral basis. A matrix is the list of its rows.
use Rattle.std.specs.Prelude.{ℕ, zero, suc, List, [], ◌∷◌, ◌++◌, map, slice_index_or}
use Rattle.om_ring.specs.Ops.{Ops}
use Rattle.om_ring.specs.Sums.{sum_over}
use Rattle.om_lorentz.specs.declared.vectors.Four.{Four}

-- the component with upper index
abbrev pub upper : {E : Type 0} → Four E → ℕ → E
upper p zero = p.t
upper p (suc zero) = p.x
upper p (suc (suc zero)) = p.y
upper p (suc (suc (suc n))) = p.z

-- two matrices side by side
abbrev pub beside : {E : Type 0} → List (List E) → List (List E) → List (List E)
beside [] q = q
beside (x ∷ p) [] = x ∷ p
beside (x ∷ p) (y ∷ q) = (x ++ y) ∷ beside p q

-- the matrix with the blocks p, q above and r, s below
abbrev pub blocks : {E : Type 0} → List (List E) → List (List E) → List (List E) → List (List E) → List (List E)
blocks p q r s = beside p q ++ beside r s

module _ {E : Type 0} (o : Ops E) where
  open o use {zero as 𝟘, one as 𝟙, imag as 𝕚, plus as ◌⊕◌, minus as ⊖◌, times as ◌⊗◌}

  infixl 60 ◌⊕◌
  infix 65 ⊖◌
  infixl 70 ◌⊗◌
  -- what has the index mu, with that index lowered
  abbrev pub lower_at : ℕ → E → E
  lower_at zero v = v
  lower_at (suc k) v = ⊖ v

  -- the component with lower index
  abbrev pub lower : Four E → ℕ → E
  lower p mu = lower_at mu (upper p mu)

  -- the vector -p
  abbrev pub reversed : Four E → Four E
  reversed p = record { t = ⊖ p.t; x = ⊖ p.x; y = ⊖ p.y; z = ⊖ p.z }

  -- the entry of a matrix
  abbrev pub cell : List (List E) → ℕ → ℕ → E
  cell rows row column = slice_index_or (slice_index_or rows row []) column 𝟘

  -- the matrix with each entry negated
  abbrev pub negated : List (List E) → List (List E)
  negated p = map (map ⊖◌) p

  -- the 2x2 matrix diag(a, b)
  abbrev pub diagonal2 : E → E → List (List E)
  diagonal2 a b =
      (a ∷ 𝟘 ∷ []) ∷
      (𝟘 ∷ b ∷ []) ∷ []

  -- the 4x4 matrix diag(a, b, c, d)
  abbrev pub diagonal : E → E → E → E → List (List E)
  diagonal a b c d = blocks (diagonal2 a b) (diagonal2 𝟘 𝟘) (diagonal2 𝟘 𝟘) (diagonal2 c d)

  -- the first Pauli matrix
  abbrev pub sigma1 : List (List E)
  sigma1 =
      (𝟘 ∷ 𝟙 ∷ []) ∷
      (𝟙 ∷ 𝟘 ∷ []) ∷ []

  -- the second Pauli matrix
  abbrev pub sigma2 : List (List E)
  sigma2 =
      (𝟘 ∷ (⊖ 𝕚) ∷ []) ∷
      (𝕚 ∷ 𝟘 ∷ []) ∷ []

  -- the third Pauli matrix
  abbrev pub sigma3 : List (List E)
  sigma3 =
      (𝟙 ∷ 𝟘 ∷ []) ∷
      (𝟘 ∷ (⊖ 𝟙) ∷ []) ∷ []

  -- the 4x4 matrix with the block p above and q below, off the diagonal
  abbrev pub off_diagonal : List (List E) → List (List E) → List (List E)
  off_diagonal p q = blocks (diagonal2 𝟘 𝟘) p q (diagonal2 𝟘 𝟘)

  -- gamma^0, gamma^1, gamma^2, gamma^3
  abbrev pub gamma_rows : List (List (List E))
  gamma_rows =
      off_diagonal (diagonal2 𝟙 𝟙) (diagonal2 𝟙 𝟙) ∷
      off_diagonal sigma1 (negated sigma1) ∷
      off_diagonal sigma2 (negated sigma2) ∷
      off_diagonal sigma3 (negated sigma3) ∷ []

  -- the metric g = diag(1, -1, -1, -1)
  abbrev pub metric_rows : List (List E)
  metric_rows = diagonal 𝟙 (⊖ 𝟙) (⊖ 𝟙) (⊖ 𝟙)

  -- the unit matrix
  abbrev pub unit_rows : List (List E)
  unit_rows = diagonal 𝟙 𝟙 𝟙 𝟙

  -- gamma5 = diag(-1, -1, 1, 1)
  abbrev pub gamma5_rows : List (List E)
  gamma5_rows = diagonal (⊖ 𝟙) (⊖ 𝟙) 𝟙 𝟙

  -- g_mu_nu
  abbrev pub metric : ℕ → ℕ → E
  metric mu nu = cell metric_rows mu nu

  -- the entry of the unit matrix
  abbrev pub unit : ℕ → ℕ → E
  unit row column = cell unit_rows row column

  -- the entry of gamma5
  abbrev pub gamma5 : ℕ → ℕ → E
  gamma5 row column = cell gamma5_rows row column

  -- gamma_mu, with lower index: gamma_0 = gamma^0 and gamma_k = -gamma^k
  abbrev pub gamma : ℕ → ℕ → ℕ → E
  gamma mu row column = lower_at mu (cell (slice_index_or gamma_rows mu []) row column)

  -- the sum of f at 0, 1, 2, 3
  abbrev pub sum4 : (ℕ → E) → E
  sum4 f = sum_over o (0 ∷ 1 ∷ 2 ∷ 3 ∷ []) f

  -- an entry of the product of two matrices
  abbrev pub product : (ℕ → ℕ → E) → (ℕ → ℕ → E) → ℕ → ℕ → E
  product p q row column = sum4 (λ k. p row k ⊗ q k column)

  -- pslash = p^mu gamma_mu
  abbrev pub slash : Four E → ℕ → ℕ → E
  slash p row column = sum4 (λ mu. upper p mu ⊗ gamma mu row column)
