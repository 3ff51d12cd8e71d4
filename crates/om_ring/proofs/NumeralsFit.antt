-- The numbers of a numeral that is read fit 64 bits.
use Rattle.std.proofs.Common.{◌≡◌, ℕ, zero, suc, ◌+◌, ◌^◌, ◌<◌, ltb, Bool, true, false, cond, ◌&&◌, List, [], ◌∷◌, Option, Some, None, Result, Ok, Err, refl, ap, arith}
use Rattle.std.proofs.lemmas.Bool.{ltb-true}
use Rattle.om_ring.specs.declared.numeral.Numeral.{Numeral}
use Rattle.om_ring.specs.declared.numeral.NumeralFault.{NumeralFault}
use Rattle.om_ring.specs.declared.numeral.NumeralFault.TheVariants.{BadByte, TooBig}
use Rattle.om_ring.specs.Numerals.{NumeralFits, Spelling, numerator_of, denominator_of}
use Rattle.om_ring.specs.NumeralOf.{Stage, start, number, nought, digits, whole, spelling, fraction, fitting, said, ended, next_stage, answer_from, numeral_of}

abbrev num_of : Result Numeral NumeralFault → ℕ
num_of (Ok x) = x.num
num_of (Err e) = 0

abbrev den_of : Result Numeral NumeralFault → ℕ
den_of (Ok x) = x.den
den_of (Err e) = 0

fraction_fits : (neg : Bool) (n d : ℕ) (imag : Bool) (x : Numeral) → n < 2 ^ 64 → d < 2 ^ 64 → fraction neg n d imag ≡ Ok x → NumeralFits x
fraction_fits neg n zero imag x hn hd e = absurd cc
fraction_fits neg n (suc d) imag x hn hd e =
    let num : n ≡ x.num = ap num_of e in
    let den : suc d ≡ x.den = ap den_of e in
    (omega arith, omega arith)

fitting_fits : (neg : Bool) (n d : ℕ) (imag : Bool) (x : Numeral) → fitting neg n d imag ≡ Ok x → NumeralFits x
fitting_fits neg n d imag x e = by (ltb n (2 ^ 64)) (ltb d (2 ^ 64)) refl refl e
  where
    by : (a b : Bool) → ltb n (2 ^ 64) ≡ a → ltb d (2 ^ 64) ≡ b → cond (a && b) (fraction neg n d imag) (Err TooBig) ≡ Ok x → NumeralFits x
    by true true p q f = fraction_fits neg n d imag x (ltb-true n (2 ^ 64) p) (ltb-true d (2 ^ 64) q) f
    by true false p q f = absurd cc
    by false b p q f = absurd cc

said_fits : (s : Spelling) (x : Numeral) → said s ≡ Ok x → NumeralFits x
said_fits s x e = fitting_fits s.minus (numerator_of s) (denominator_of s) s.imag x e

ended_fits : (s : Stage) (k : ℕ) (x : Numeral) → ended s k ≡ Ok x → NumeralFits x
ended_fits start k x e = absurd cc
ended_fits (number p) k x e = absurd cc
ended_fits (nought p) k x e = said_fits (spelling p (48 ∷ []) false) x e
ended_fits (digits p ds) k x e = said_fits (spelling p ds false) x e
ended_fits (whole s) k x e = said_fits s x e

answer_fits : (s : Stage) (k : ℕ) (bs : List ℕ) (x : Numeral) → answer_from s k bs ≡ Ok x → NumeralFits x
answer_fits s k [] x e = ended_fits s k x e
answer_fits s k (b ∷ bs) x e = by (next_stage s b) (λ t f. answer_fits t (k + 1) bs x f) e
  where
    by : (o : Option Stage) → ((t : Stage) → answer_from t (k + 1) bs ≡ Ok x → NumeralFits x) → elim o as (λ _. Result Numeral NumeralFault) [ Some t ↦ answer_from t (k + 1) bs | None ↦ Err (BadByte k) ] ≡ Ok x → NumeralFits x
    by (Some t) h f = h t f
    by None h f = absurd cc

pub numeral_fits : (bs : List ℕ) (x : Numeral) → numeral_of bs ≡ Ok x → NumeralFits x
unfolding numeral_of
numeral_fits bs x e = answer_fits start 0 bs x e
