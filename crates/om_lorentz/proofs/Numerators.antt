-- The numerators of the propagators.
use Rattle.std.proofs.Common.{◌≡◌, ◌≢◌, ℕ, ◌<◌, Bool, true, false, [], ◌∷◌, refl, sym, ◌∙◌, ap, subst, slice_index_or}
use Rattle.std.specs.Prelude.{Option, Some, None, MatchOption}
use Rattle.om_ring.specs.Ops.{Ops, Laws}
use Rattle.om_ring.proofs.GaussSolver.{var, nil, unit as one, img, add, mul, neg, solve}
use Rattle.om_ring.proofs.InverseLemmas.{inverse-some}
use Rattle.om_ring.proofs.RingLemmas.{times_zero}
use Rattle.om_lorentz.specs.declared.structures.Spin.{Spin}
use Rattle.om_lorentz.specs.declared.structures.Spin.TheVariants.{Scalar, Dirac, Vector}
use Rattle.om_lorentz.specs.declared.vectors.Four.{Four}
use Rattle.om_lorentz.specs.Matrices.{unit, gamma, slash}
use Rattle.om_lorentz.specs.Propagators.{massless_numerator, massive_numerator, numerator, propagator, MassAgrees}
use Rattle.om_lorentz.proofs.Products.{zero_times}
use Rattle.om_lorentz.proofs.Metric.{below_four}

module _ {E : Type 0} (o : Ops E) (l : Laws o) where
  -- the summands of pslash with the matrix first
  pub slash-sum : (p : Four E) (row column : ℕ) →
      o.plus (o.times (gamma o 0 row column) p.t) (o.plus (o.times (gamma o 1 row column) p.x) (o.plus (o.times (gamma o 2 row column) p.y) (o.times (gamma o 3 row column) p.z)))
      ≡ slash o p row column
  slash-sum p row column =
      let m : ℕ → E = λ mu. gamma o mu row column in
      let env : ℕ → E = λ k. slice_index_or (m 0 ∷ m 1 ∷ m 2 ∷ m 3 ∷ p.t ∷ p.x ∷ p.y ∷ p.z ∷ []) k o.zero in
      solve o l env
      (add (mul (var 0) (var 4)) (add (mul (var 1) (var 5)) (add (mul (var 2) (var 6)) (mul (var 3) (var 7)))))
      (add (mul (var 4) (var 0)) (add (mul (var 5) (var 1)) (add (mul (var 6) (var 2)) (add (mul (var 7) (var 3)) nil)))) refl

  -- m times the unit matrix
  pub times_unit-on : (m : E) (j k : ℕ) → j < 4 → j ≡ k → o.times m (unit o j k) ≡ m
  times_unit-on m j k p e =
      ap (λ n. o.times m (unit o j n)) (sym e) ∙ below_four (λ n. o.times m (unit o n n) ≡ m) (l.times_one m) (l.times_one m) (l.times_one m) (l.times_one m) j p

  -- which is 0 off the diagonal
  pub times_unit-off : (m : E) (j k : ℕ) → j < 4 → k < 4 → j ≢ k → o.times m (unit o j k) ≡ o.zero
  times_unit-off m j k p q =
      let At : ℕ → ℕ → Type 0 = λ j k. j ≢ k → o.times m (unit o j k) ≡ o.zero in
      let z = times_zero o l m in
      below_four (λ j. At j k)
      (below_four (At 0) (λ h. absurd (h refl)) (λ _. z) (λ _. z) (λ _. z) k q)
      (below_four (At 1) (λ _. z) (λ h. absurd (h refl)) (λ _. z) (λ _. z) k q)
      (below_four (At 2) (λ _. z) (λ _. z) (λ h. absurd (h refl)) (λ _. z) k q)
      (below_four (At 3) (λ _. z) (λ _. z) (λ _. z) (λ h. absurd (h refl)) k q) j p

  -- i (p q w w - g) = -i (g - p q w w)
  pub massive-turned : (p q w g : E) →
      o.times o.imag (o.plus (o.times (o.times p q) (o.times w w)) (o.minus (o.times o.one g))) ≡
      o.minus (o.times o.imag (o.plus g (o.minus (o.times (o.times p q) (o.times w w)))))
  massive-turned p q w g =
      let env : ℕ → E = λ k. slice_index_or (p ∷ q ∷ w ∷ g ∷ []) k o.zero in
      let part = mul (mul (var 0) (var 1)) (mul (var 2) (var 2)) in
      solve o l env (mul img (add part (neg (mul one (var 3))))) (neg (mul img (add (var 3) (neg part)))) refl

  -- where 0 is 1, all elements are equal
  all_equal : o.zero ≡ o.one → (x y : E) → x ≡ y
  all_equal e x y =
      let f : (z : E) → z ≡ o.zero = λ z. sym (l.times_one z) ∙ ap (o.times z) (sym e) ∙ times_zero o l z in
      f x ∙ sym (f y)

  -- a vector with mass 0, whatever its inverse
  at_zero : (m : E) (p : Four E) (left right : ℕ) → m ≡ o.zero → (w : Option E) → MatchOption w ((y : E) → o.times m y ≡ o.one → ⊥) (λ y. o.times m y ≡ o.one) →
      numerator o Vector m w p left right ≡ massless_numerator o left right
  at_zero m p left right e None h = refl
  at_zero m p left right e (Some w) h = all_equal (sym (zero_times o l w) ∙ ap (λ x. o.times x w) (sym e) ∙ h) _ _

  -- a vector with mass 0 has the numerator -i g
  pub propagator-massless : (m : E) (p : Four E) (left right : ℕ) → m ≡ o.zero → propagator o Vector m p left right ≡ massless_numerator o left right
  propagator-massless m p left right e = at_zero m p left right e (o.inverse m) (l.inverts m)

  -- a vector with a mass that has an inverse has the numerator -i (g - p p / m^2)
  pub propagator-massive : (m w : E) (p : Four E) (left right : ℕ) → o.times m w ≡ o.one → propagator o Vector m p left right ≡ massive_numerator o w p left right
  propagator-massive m w p left right e = ap (λ v. numerator o Vector m v p left right) (inverse-some o l m w e)

  -- the same in the words of a mass that is told
  pub numerator-massless : (s : Spin) (m w : E) (massive : Bool) (p : Four E) (left right : ℕ) → s ≡ Vector → massive ≡ false → MassAgrees o s m w massive →
      propagator o s m p left right ≡ massless_numerator o left right
  numerator-massless Vector m w false p left right e d h = propagator-massless m p left right h
  numerator-massless Vector m w true p left right e d h = cc
  numerator-massless Scalar m w massive p left right e d h = cc
  numerator-massless Dirac m w massive p left right e d h = cc

  -- and with a mass that is told as massive
  pub numerator-massive : (s : Spin) (m w : E) (massive : Bool) (p : Four E) (left right : ℕ) → s ≡ Vector → massive ≡ true → MassAgrees o s m w massive →
      propagator o s m p left right ≡ massive_numerator o w p left right
  numerator-massive Vector m w true p left right e d h = propagator-massive m w p left right h.1
  numerator-massive Vector m w false p left right e d h = cc
  numerator-massive Scalar m w massive p left right e d h = cc
  numerator-massive Dirac m w massive p left right e d h = cc

  -- an inverse that is given gives 1 in a product
  inverse_gives : (m w : E) (r : Option E) → r ≡ Some w → MatchOption r ((y : E) → o.times m y ≡ o.one → ⊥) (λ y. o.times m y ≡ o.one) → o.times m w ≡ o.one
  inverse_gives m w r e h = (let P : Option E → Type 0 = λ v. MatchOption v ((y : E) → o.times m y ≡ o.one → ⊥) (λ y. o.times m y ≡ o.one) in subst P e h)

  -- what a caller has tested of a mass
  pub mass-massive : (s : Spin) (m w : E) → m ≢ o.zero → o.inverse m ≡ Some w → MassAgrees o s m w true
  mass-massive Scalar m w h e = tt
  mass-massive Dirac m w h e = tt
  mass-massive Vector m w h e = (h, inverse_gives m w (o.inverse m) e (l.inverts m))
