-- The momenta of the events of a sample add up to zero.
use Rattle.std.proofs.Common.{◌≡◌, ℕ, zero, suc, ◌+◌, ◌-◌, ◌<◌, ◌≤◌, List, [], ◌∷◌, ◌++◌, length, take, get_or, refl, ap, ap₂, sym, ◌∙◌, arith}
use Rattle.std.specs.Prelude.{slice_index_or}
use Rattle.std.proofs.lemmas.List.{length-append, length-map, take_all, take_more}
use Rattle.om_ring.specs.Ops.{Ops, Laws}
use Rattle.om_ring.specs.Sums.{sum_over}
use Rattle.om_ring.proofs.SumLemmas.{sum_over-push}
use Rattle.om_lorentz.specs.declared.vectors.Four.{Four}
use Rattle.om_lorentz.specs.Matrices.{upper}
use Rattle.om_model.specs.Diagram.{upto}
use Rattle.om_model.specs.Event.{Balances}
use Rattle.om_model.proofs.Counting.{length-upto}
use Rattle.om_code.specs.Waves.{event_of, minus_four, zero_four}
use Rattle.om_sample.specs.Events.{drawn_event, drawn_momenta, drawn_momentum, sum_of_momenta}

module _ {E : Type 0} (o : Ops E) (l : Laws o) where
  -- a sum over the legs 1 to n is one over the list
  by_place : {A : Type 0} (f : A → E) (xs : List A) (d : A) (n : ℕ) → n ≤ length xs → sum_over o (upto n) (λ k. f (slice_index_or xs (k - 1) d)) ≡ sum_over o (take n xs) f
  unfolding upto
  by_place f xs d zero h = refl
  by_place {A} f xs d (suc n) h =
      let one : n + 1 ≡ suc n = omega arith in
      sum_over-push o l (upto n) (suc n) (λ k. f (slice_index_or xs (k - 1) d)) ∙ ap₂ o.plus (by_place f xs d n (omega (arith, h))) (let e : suc n - 1 ≡ n = omega arith in ap (λ k. f (slice_index_or xs k d)) e)
      ∙ sym (ap (λ k. sum_over o (take k xs) f) (sym one) ∙ ap (λ ys. sum_over o ys f) (take_more xs n d (omega (arith, h))) ∙ sum_over-push o l (take n xs) (get_or xs n d) f)

  cancels : (ps : List (Four E)) (mu : ℕ) → mu < 4 → sum_over o (ps ++ minus_four o (sum_of_momenta o ps) ∷ []) (λ p. upper p mu) ≡ o.zero
  cancels ps zero h = sum_over-push o l ps _ (λ p. upper p 0) ∙ l.plus_minus _
  cancels ps (suc zero) h = sum_over-push o l ps _ (λ p. upper p 1) ∙ l.plus_minus _
  cancels ps (suc (suc zero)) h = sum_over-push o l ps _ (λ p. upper p 2) ∙ l.plus_minus _
  cancels ps (suc (suc (suc zero))) h = sum_over-push o l ps _ (λ p. upper p 3) ∙ l.plus_minus _
  cancels ps (suc (suc (suc (suc mu)))) h = absurd (omega (arith, h))

  pub drawn_balances : (x legs : ℕ) → 1 ≤ legs → Balances o (event_of o (drawn_event o x legs)) legs
  drawn_balances x legs some mu lt =
      let ps = (drawn_event o x legs).momenta in
      let many : length ps ≡ legs = length-append (drawn_momenta o x (legs - 1)) _ ∙ ap (λ n. n + 1) (length-map (upto (legs - 1)) (drawn_momentum o x) ∙ length-upto (legs - 1)) ∙ omega (arith, some) in
      by_place (λ (p : Four E). upper p mu) ps (zero_four o) legs (omega (arith, many)) ∙ ap (λ qs. sum_over o qs (λ (p : Four E). upper p mu)) (take_all legs ps (omega (arith, many))) ∙ cancels (drawn_momenta o x (legs - 1)) mu lt
