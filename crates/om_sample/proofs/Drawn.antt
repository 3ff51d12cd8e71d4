-- Events that are drawn leg by leg.
use Rattle.std.proofs.Common.{◌≡◌, ℕ, suc, ◌+◌, ◌-◌, ◌*◌, ◌<◌, ◌≤◌, List, [], ◌∷◌, ◌++◌, length, take, map, get_or, refl, ap, ap₂, sym, ◌∙◌, arith}
use Rattle.std.specs.Prelude.{slice_set}
use Rattle.std.proofs.Math.Seq.{map-set_same}
use Rattle.std.proofs.lemmas.Option.{slice_get-get_or}
use Rattle.std.proofs.lemmas.List.{get_or-map, get_or-replicate, length-map, length-replicate, length-set, map-append, take_all, take_more_set}
use Rattle.om_ring.specs.Ops.{Ops, Laws}
use Rattle.om_ring.proofs.SumLemmas.{sum_over-push}
use Rattle.om_lorentz.specs.declared.vectors.Four.{Four}
use Rattle.om_lorentz.specs.Matrices.{upper}
use Rattle.om_kernel.specs.declared.waves.Wave.{Wave}
use Rattle.om_kernel.specs.declared.waves.Wave.TheVariants.{Scalar}
use Rattle.om_kernel.specs.Waves.{a_scalar, kind_of}
use Rattle.om_model.specs.Diagram.{upto}
use Rattle.om_kernel.specs.Components.{plus_four}
use Rattle.om_code.specs.Waves.{Incoming, minus_four, zero_four}
use Rattle.om_machine.specs.Events.{HasKindAt}
use Rattle.om_machine.proofs.WaveForms.{four-eq}
use Rattle.om_sample.specs.Generator.{state_after}
use Rattle.om_sample.specs.Events.{IsOfScalars, drawn, drawn_event, drawn_momenta, drawn_momentum, drawn_wave, drawn_waves, sum_of_momenta}
use Rattle.om_sample.proofs.Draws.{later_drawn}

module _ {E : Type 0} (o : Ops E) where
  -- the first n legs of an event are drawn, and this is the sum of their momenta
  pub record IsDrawn (x legs n : ℕ) (e : Incoming E) (sum : Four E) : Type 0 where
    pub momenta : take n e.momenta ≡ drawn_momenta o x n
    pub waves : take n e.waves ≡ drawn_waves o x n
    pub sum_is : sum ≡ sum_of_momenta o (drawn_momenta o x n)
    pub scalars : IsOfScalars legs e

  pub waves_many : (legs : ℕ) (e : Incoming E) → IsOfScalars legs e → length e.waves ≡ legs
  waves_many legs e s = sym (length-map e.waves kind_of) ∙ ap length s.waves ∙ length-replicate legs a_scalar

  kind_there : (legs n : ℕ) (e : Incoming E) (d : Wave E) → IsOfScalars legs e → n < legs → kind_of (get_or e.waves n d) ≡ a_scalar
  kind_there legs n e d s lt =
      let many = waves_many legs e s in
      sym (get_or-map kind_of e.waves n d (kind_of d) (omega (arith, many, lt))) ∙ ap (λ ks. get_or ks n (kind_of d)) s.waves ∙ get_or-replicate legs n a_scalar (kind_of d) lt

  -- a scalar's wave can be put in any place
  pub has_place : (legs n : ℕ) (e : Incoming E) (w : Wave E) (v : E) → w ≡ Scalar v → IsOfScalars legs e → n < legs → HasKindAt e.waves n w
  has_place legs n e w v is s lt =
      let many = waves_many legs e s in
      (get_or e.waves n (Scalar v), slice_get-get_or e.waves n (Scalar v) (omega (arith, many, lt)), ap kind_of is ∙ sym (kind_there legs n e (Scalar v) s lt))

  pub keeps_scalars : (legs n : ℕ) (e now : Incoming E) (p : Four E) (v : E) → IsOfScalars legs e → n < legs
      → now.momenta ≡ slice_set e.momenta n p → now.waves ≡ slice_set e.waves n (Scalar v) → IsOfScalars legs now
  keeps_scalars legs n e now p v s lt m w = record {
    momenta = ap length m ∙ length-set e.momenta n p ∙ s.momenta;
    waves = ap (map kind_of) w ∙ map-set_same kind_of e.waves n (Scalar v) (Scalar v) (sym (kind_there legs n e (Scalar v) s lt)) ∙ s.waves;
  }

  -- none is drawn
  pub none_drawn_yet : (x legs : ℕ) (e : Incoming E) → IsOfScalars legs e → IsDrawn x legs 0 e (zero_four o)
  unfolding upto
  none_drawn_yet x legs e s = record { momenta = refl; waves = refl; sum_is = refl; scalars = s }

  more_of : {A : Type 0} (f : ℕ → A) (n : ℕ) → map f (upto (n + 1)) ≡ map f (upto n) ++ f (n + 1) ∷ []
  unfolding upto
  more_of f n = (let e : n + 1 ≡ suc n = omega arith in ap (λ k. map f (upto k)) e ∙ map-append f (upto n) (suc n ∷ []) ∙ ap (λ k. map f (upto n) ++ f k ∷ []) (sym e))

  sum_more : Laws o → (ps : List (Four E)) (p : Four E) → plus_four o (sum_of_momenta o ps) p ≡ sum_of_momenta o (ps ++ p ∷ [])
  sum_more l ps p =
      let step = λ (mu : ℕ). sum_over-push o l ps p (λ (q : Four E). upper q mu) in
      four-eq _ _ _ _ _ _ _ _ (sym (step 0)) (sym (step 1)) (sym (step 2)) (sym (step 3))

  -- one leg more
  pub leg_drawn : Laws o → (x legs n : ℕ) (e now : Incoming E) (sum next p : Four E) (v : E) → IsDrawn x legs n e sum → n < legs
      → p ≡ drawn_momentum o x (n + 1) → Scalar v ≡ drawn_wave o x (n + 1) → next ≡ plus_four o sum p
      → now.momenta ≡ slice_set e.momenta n p → now.waves ≡ slice_set e.waves n (Scalar v) → IsDrawn x legs (n + 1) now next
  leg_drawn l x legs n e now sum next p v d lt ep ev es m w =
      let many = waves_many legs e d.scalars in
      record {
        momenta = ap (take (n + 1)) m ∙ take_more_set e.momenta n p (omega (arith, d.scalars.momenta, lt)) ∙ ap₂ (λ ps q. ps ++ q ∷ []) d.momenta ep ∙ sym (more_of (drawn_momentum o x) n);
        waves = ap (take (n + 1)) w ∙ take_more_set e.waves n (Scalar v) (omega (arith, many, lt)) ∙ ap₂ (λ ws u. ws ++ u ∷ []) d.waves ev ∙ sym (more_of (drawn_wave o x) n);
        sum_is = es ∙ ap₂ (plus_four o) d.sum_is ep ∙ sum_more l (drawn_momenta o x n) (drawn_momentum o x (n + 1)) ∙ ap (sum_of_momenta o) (sym (more_of (drawn_momentum o x) n));
        scalars = keeps_scalars legs n e now p v d.scalars lt m w;
      }

  -- the last leg
  pub all_drawn : (x legs n : ℕ) (e now : Incoming E) (sum last : Four E) (v : E) → IsDrawn x legs n e sum → legs ≡ n + 1
      → last ≡ minus_four o sum → v ≡ drawn o x (5 * n)
      → now.momenta ≡ slice_set e.momenta n last → now.waves ≡ slice_set e.waves n (Scalar v) → now ≡ drawn_event o x legs
  all_drawn x legs n e now sum last v d whole el ev m w =
      let many = waves_many legs e d.scalars in
      let long : length now.momenta ≤ n + 1 = (let l = ap length m ∙ length-set e.momenta n last ∙ d.scalars.momenta in omega (arith, l, whole)) in
      let wide : length now.waves ≤ n + 1 = (let l = ap length w ∙ length-set e.waves n (Scalar v) ∙ many in omega (arith, l, whole)) in
      let one : legs - 1 ≡ n = omega (arith, whole) in
      let momenta = sym (take_all (n + 1) now.momenta long) ∙ ap (take (n + 1)) m ∙ take_more_set e.momenta n last (omega (arith, d.scalars.momenta, whole)) ∙ ap₂ (λ ps q. ps ++ q ∷ []) d.momenta (el ∙ ap (minus_four o) d.sum_is) in
      let waves = sym (take_all (n + 1) now.waves wide) ∙ ap (take (n + 1)) w ∙ take_more_set e.waves n (Scalar v) (omega (arith, many, whole)) ∙ ap₂ (λ ws u. ws ++ Scalar u ∷ []) d.waves ev in
      (let e : now ≡ record { momenta = drawn_momenta o x n ++ minus_four o (sum_of_momenta o (drawn_momenta o x n)) ∷ []; waves = drawn_waves o x n ++ Scalar (drawn o x (5 * n)) ∷ [] } = ap₂ (λ ps ws. record { momenta = ps; waves = ws }) momenta waves in
      e ∙ ap (λ k. record { momenta = drawn_momenta o x k ++ minus_four o (sum_of_momenta o (drawn_momenta o x k)) ∷ []; waves = drawn_waves o x k ++ Scalar (drawn o x (5 * k)) ∷ [] }) (sym one))

  -- what is drawn from the state at which a leg begins
  pub momentum_from : (x n s : ℕ) → s ≡ state_after x (5 * n) → drawn_momentum o s 1 ≡ drawn_momentum o x (n + 1)
  momentum_from x n s e =
      let at = λ (mu : ℕ). ap (λ t. drawn o t mu) e ∙ later_drawn o x (5 * n) mu (5 * (n + 1 - 1) + mu) (omega arith) in
      four-eq _ _ _ _ _ _ _ _ (at 0) (at 1) (at 2) (at 3)

  pub wave_from : (x n s : ℕ) → s ≡ state_after x (5 * n + 4) → Scalar (drawn o s 0) ≡ drawn_wave o x (n + 1)
  wave_from x n s e = ap Scalar (ap (λ t. drawn o t 0) e ∙ later_drawn o x (5 * n + 4) 0 (5 * (n + 1 - 1) + 4) (omega arith))
