-- What an edge makes of a wave is, component by component, the factor times the index sum.
use Rattle.std.proofs.Common.{◌≡◌, ℕ, ◌<◌, Bool, true, false, [], ◌∷◌, ◌++◌, refl, sym, ◌∙◌, ap, slice_index_or}
use Rattle.om_ring.specs.Ops.{Ops, Laws, RingLaws, laws_from}
use Rattle.om_ring.specs.Sums.{sum_over}
use Rattle.om_ring.proofs.GaussSolver.{Expr, var, nil, img, add, mul, expr_ops, poly, solve}
use Rattle.om_ring.proofs.SumLemmas.{sum_over-ext}
use Rattle.om_lorentz.specs.declared.structures.Spin.TheVariants as spin
use Rattle.om_lorentz.specs.declared.vectors.Four.{Four}
use Rattle.om_lorentz.specs.Matrices.{upper}
use Rattle.om_lorentz.specs.Propagators.{massless_numerator, massive_numerator, propagator, MassAgrees}
use Rattle.om_lorentz.specs.Structures.{IsIndex}
use Rattle.om_lorentz.proofs.Metric.{below_four}
use Rattle.om_lorentz.proofs.Numerators.{propagator-massless, propagator-massive}
use Rattle.om_kernel.specs.declared.waves.Wave.{Wave}
use Rattle.om_kernel.specs.declared.waves.Wave.TheVariants.{Scalar, Row, Column, Vector}
use Rattle.om_kernel.specs.EdgeForms.{edge_form}
use Rattle.om_kernel.specs.EdgeSums.{edge_sum, spin_of}
use Rattle.om_kernel.specs.Waves.{component}
use Rattle.om_kernel.proofs.WrittenForms.{four_vars, parts}

-- the index sum of a vector with a numerator that is given
abbrev vector_sum : {E : Type 0} → Ops E → (ℕ → ℕ → E) → Four E → ℕ → E
vector_sum o numerator w n = sum_over o (0 ∷ 1 ∷ 2 ∷ 3 ∷ []) (λ j. o.times (numerator n j) (upper w j))

-- both sides at the variables: the wave from 0, the momentum from 4, then the mass, its inverse and the factor
abbrev formed : Wave Expr → Bool → ℕ → Expr
formed w massive n = component (edge_form expr_ops (var 8) (var 9) massive (var 10) (four_vars 4) w) n

abbrev spinor_summed : Wave Expr → ℕ → Expr
spinor_summed w n = mul (var 10) (edge_sum expr_ops (var 8) (four_vars 4) w n)

abbrev vector_summed : (ℕ → ℕ → Expr) → ℕ → Expr
vector_summed numerator n = mul (var 10) (vector_sum expr_ops numerator (four_vars 0) n)

module _ {E : Type 0} (o : Ops E) (l : Laws o) (m k f : E) (p : Four E) where
  abbrev env : Four E → ℕ → E
  env w v = slice_index_or (parts w ++ (parts p ++ (m ∷ k ∷ f ∷ []))) v o.zero

  -- the component at n is that of the index sum
  abbrev Solved : Wave E → Bool → ℕ → Type 0
  Solved w massive n = component (edge_form o m k massive f p w) n ≡ o.times f (edge_sum o m p w n)

  row-solved : (r : Four E) (massive : Bool) (n : ℕ) → n < 4 → Solved (Row r) massive n
  row-solved r massive =
      let w : Wave Expr = Row (four_vars 0) in
      let by = λ (n : ℕ) (e : poly (formed w massive n) ≡ poly (spinor_summed w n)). solve o l (env r) (formed w massive n) (spinor_summed w n) e in
      below_four (Solved (Row r) massive) (by 0 refl) (by 1 refl) (by 2 refl) (by 3 refl)

  column-solved : (d : Four E) (massive : Bool) (n : ℕ) → n < 4 → Solved (Column d) massive n
  column-solved d massive =
      let w : Wave Expr = Column (four_vars 0) in
      let by = λ (n : ℕ) (e : poly (formed w massive n) ≡ poly (spinor_summed w n)). solve o l (env d) (formed w massive n) (spinor_summed w n) e in
      below_four (Solved (Column d) massive) (by 0 refl) (by 1 refl) (by 2 refl) (by 3 refl)

  -- the same for a vector, with the numerator of a table's line
  abbrev VectorSolved : Four E → Bool → (ℕ → ℕ → E) → ℕ → Type 0
  VectorSolved w massive numerator n = component (edge_form o m k massive f p (Vector w)) n ≡ o.times f (vector_sum o numerator w n)

  massless-solved : (w : Four E) (n : ℕ) → n < 4 → VectorSolved w false (massless_numerator o) n
  massless-solved w =
      let v : Wave Expr = Vector (four_vars 0) in
      let summed : ℕ → Expr = vector_summed (massless_numerator expr_ops) in
      let by = λ (n : ℕ) (e : poly (formed v false n) ≡ poly (summed n)). solve o l (env w) (formed v false n) (summed n) e in
      below_four (VectorSolved w false (massless_numerator o)) (by 0 refl) (by 1 refl) (by 2 refl) (by 3 refl)

  massive-solved : (w : Four E) (n : ℕ) → n < 4 → VectorSolved w true (massive_numerator o k p) n
  massive-solved w =
      let v : Wave Expr = Vector (four_vars 0) in
      let summed : ℕ → Expr = vector_summed (massive_numerator expr_ops (var 9) (four_vars 4)) in
      let by = λ (n : ℕ) (e : poly (formed v true n) ≡ poly (summed n)). solve o l (env w) (formed v true n) (summed n) e in
      below_four (VectorSolved w true (massive_numerator o k p)) (by 0 refl) (by 1 refl) (by 2 refl) (by 3 refl)

  -- equal numerators give equal sums
  same-sum : (w : Four E) (n : ℕ) (d e : ℕ → ℕ → E) → ((j : ℕ) → d n j ≡ e n j) → o.times f (vector_sum o d w n) ≡ o.times f (vector_sum o e w n)
  same-sum w n d e h = ap (o.times f) (sum_over-ext o (0 ∷ 1 ∷ 2 ∷ 3 ∷ []) _ _ (λ j. ap (λ u. o.times u (upper w j)) (h j)))

  -- a wave of any kind
  pub edge-solved : (w : Wave E) (massive : Bool) → MassAgrees o (spin_of w) m k massive → (n : ℕ) → IsIndex (spin_of w) n → Solved w massive n
  edge-solved (Scalar x) massive h n b =
      solve o l (λ v. slice_index_or (x ∷ f ∷ []) v o.zero) (mul (mul img (var 1)) (var 0)) (mul (var 1) (add (mul img (var 0)) nil)) refl
  edge-solved (Row r) massive h n b = row-solved r massive n b
  edge-solved (Column d) massive h n b = column-solved d massive n b
  edge-solved (Vector w) true h n b = massive-solved w n b ∙ same-sum w n (massive_numerator o k p) (propagator o spin.Vector m p) (λ j. sym (propagator-massive o l m k p n j h.1))
  edge-solved (Vector w) false h n b = massless-solved w n b ∙ same-sum w n (massless_numerator o) (propagator o spin.Vector m p) (λ j. sym (propagator-massless o l m p n j h))

-- the same in the words of a ring, where the wave, the mass and what the wave becomes are told by equations
pub edge-told : {E : Type 0} (element : E → Type 0) (o : Ops E) → ((x : E) → element x) → RingLaws element o → (m k f : E) (p : Four E) (w v told : Wave E) (massive as_massive : Bool) →
    MassAgrees o (spin_of w) m k massive → w ≡ v → massive ≡ as_massive → told ≡ edge_form o m k as_massive f p v →
    (n : ℕ) → IsIndex (spin_of w) n → component told n ≡ o.times f (edge_sum o m p w n)
edge-told element o known laws m k f p w v told massive as_massive h e a t n b =
    ap (λ u. component u n) (t ∙ ap (edge_form o m k as_massive f p) (sym e) ∙ ap (λ u. edge_form o m k u f p w) (sym a)) ∙
    edge-solved o (laws_from element o known laws) m k f p w massive h n b
