-- The events of a sample are made for the codes of its process.
use Rattle.std.proofs.Common.{◌≡◌, ℕ, zero, suc, ◌+◌, ◌-◌, ◌≤◌, [], ◌∷◌, ◌++◌, length, map, replicate, refl, ap, sym, ◌∙◌, arith}
use Rattle.std.proofs.lemmas.List.{length-append, length-map, map-append, replicate-append-replicate}
use Rattle.om_ring.specs.Ops.{Ops}
use Rattle.om_kernel.specs.Waves.{a_scalar, kind_of}
use Rattle.om_model.specs.Diagram.{upto}
use Rattle.om_model.proofs.Counting.{length-upto}
use Rattle.om_code.specs.Waves.{Incoming}
use Rattle.om_code.specs.declared.code.Code.{Code}
use Rattle.om_machine.specs.Events.{IsMadeFor}
use Rattle.om_sample.specs.Events.{HasScalarLegs, IsOfScalars, drawn_event, drawn_momenta, drawn_momentum, drawn_wave, drawn_waves}

pub of_scalars : {E : Type 0} (c : Code) (e : Incoming E) → HasScalarLegs c → IsMadeFor c e → IsOfScalars (length c.legs) e
of_scalars c e s m = record { momenta = m.momenta; waves = m.waves ∙ s }

module _ {E : Type 0} (o : Ops E) (x : ℕ) where
  momenta_drawn : (legs : ℕ) → 1 ≤ legs → length (drawn_event o x legs).momenta ≡ legs
  momenta_drawn legs some = length-append (drawn_momenta o x (legs - 1)) _ ∙ ap (λ n. n + 1) (length-map (upto (legs - 1)) (drawn_momentum o x) ∙ length-upto (legs - 1)) ∙ omega (arith, some)

  waves_scalar : (n : ℕ) → map kind_of (drawn_waves o x n) ≡ replicate n a_scalar
  unfolding upto
  waves_scalar zero = refl
  waves_scalar (suc n) =
      let one : n + 1 ≡ suc n = omega arith in
      ap (map kind_of) (map-append (drawn_wave o x) (upto n) (suc n ∷ [])) ∙ map-append kind_of (drawn_waves o x n) (drawn_wave o x (suc n) ∷ []) ∙ ap (λ ks. ks ++ a_scalar ∷ []) (waves_scalar n)
      ∙ replicate-append-replicate n 1 a_scalar ∙ ap (λ k. replicate k a_scalar) one

  kinds_drawn : (legs : ℕ) → 1 ≤ legs → map kind_of (drawn_event o x legs).waves ≡ replicate legs a_scalar
  kinds_drawn legs some =
      let one : legs - 1 + 1 ≡ legs = omega (arith, some) in
      map-append kind_of (drawn_waves o x (legs - 1)) _ ∙ ap (λ ks. ks ++ a_scalar ∷ []) (waves_scalar (legs - 1)) ∙ replicate-append-replicate (legs - 1) 1 a_scalar ∙ ap (λ k. replicate k a_scalar) one

  pub drawn_for : (c : Code) → 1 ≤ length c.legs → HasScalarLegs c → IsMadeFor c (drawn_event o x (length c.legs))
  drawn_for c some scalars = record { momenta = momenta_drawn (length c.legs) some; waves = kinds_drawn (length c.legs) some ∙ sym scalars }
