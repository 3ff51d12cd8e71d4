-- The process of a sample is one over its model.
use Rattle.std.proofs.Common.{◌≡◌, ℕ, zero, suc, ◌-◌, ◌≤◌, inl, inr, true, [], ◌∷◌, length, map, replicate, Some, refl, ap, sym, ◌∙◌, arith, subst}
use Rattle.std.specs.Prelude.{get_or, slice_get}
use Rattle.std.specs.Option.{option_map}
use Rattle.std.proofs.lemmas.Bool.{cases_order}
use Rattle.std.proofs.lemmas.Option.{get_or_from_slice_get, slice_get-map, slice_get_past}
use Rattle.std.proofs.lemmas.List.{get_or-replicate, get_or_past, length-replicate}
use Rattle.om_kernel.specs.Waves.{a_scalar}
use Rattle.om_model.specs.Model.{is_field}
use Rattle.om_model.specs.declared.process.Leg.{Leg}
use Rattle.om_code.specs.declared.code.Code.{Code}
use Rattle.om_machine.specs.Events.{kind_of_field}
use Rattle.om_sample.specs.Events.{HasScalarLegs}
use Rattle.om_sample.specs.Laws.{SampleProcessFits}
use Rattle.om_sample.specs.Model.{outgoing_leg, sample_model, sample_particle, sample_process}

pub legs_are_many : (legs : ℕ) → 1 ≤ legs → length (sample_process legs).legs ≡ legs
legs_are_many legs some = ap suc (length-replicate (legs - 1) outgoing_leg) ∙ omega (arith, some)

-- each of the legs has field 0
all_same : (n : ℕ) → map (λ (leg : Leg). leg.field) (replicate n outgoing_leg) ≡ replicate n zero
all_same zero = refl
all_same (suc n) = ap (λ xs. zero ∷ xs) (all_same n)

all_fields : (legs : ℕ) → map (λ (leg : Leg). leg.field) (sample_process legs).legs ≡ zero ∷ replicate (legs - 1) zero
all_fields legs = ap (λ xs. zero ∷ xs) (all_same (legs - 1))

all_scalar : (n : ℕ) → map (kind_of_field (sample_particle ∷ [])) (replicate n zero) ≡ replicate n a_scalar
all_scalar zero = refl
all_scalar (suc n) = ap (λ xs. a_scalar ∷ xs) (all_scalar n)

-- a code of the process has scalar legs alone, and so many
pub code_legs : (c : Code) (legs : ℕ) → 1 ≤ legs → c.legs ≡ map (λ (leg : Leg). leg.field) (sample_process legs).legs → length c.legs ≡ legs
code_legs c legs some e = ap length (e ∙ all_fields legs) ∙ ap suc (length-replicate (legs - 1) zero) ∙ omega (arith, some)

pub code_scalars : (c : Code) (legs : ℕ) → 1 ≤ legs → c.model ≡ sample_model → c.legs ≡ map (λ (leg : Leg). leg.field) (sample_process legs).legs → HasScalarLegs c
code_scalars c legs some m e =
    let fields = e ∙ all_fields legs in
    let many : suc (legs - 1) ≡ length c.legs = sym (code_legs c legs some e ∙ omega (arith, some)) in
    ap (λ x. map (kind_of_field x.particles) c.legs) m ∙ ap (map (kind_of_field (sample_particle ∷ []))) fields ∙ all_scalar (suc (legs - 1)) ∙ ap (λ n. replicate n a_scalar) many

none_but_zero : (n k : ℕ) → get_or (replicate n zero) k 0 ≡ 0
none_but_zero n k = elim (cases_order k n) [
  | inl e ↦ past n k (omega (arith, e))
  | inr (inl lt) ↦ get_or-replicate n k 0 0 lt
  | inr (inr gt) ↦ past n k (omega (arith, gt))
]
  where
    past : (m j : ℕ) → m ≤ j → get_or (replicate m zero) j 0 ≡ 0
    past m j h = get_or_past (replicate m zero) j 0 (let l = length-replicate m zero in omega (arith, l, h))

field_at : (legs k : ℕ) (leg : Leg) → slice_get (sample_process legs).legs k ≡ Some leg → leg.field ≡ 0
field_at legs k leg h =
    let there : slice_get (replicate (suc (legs - 1)) zero) k ≡ Some leg.field = ap (λ xs. slice_get xs k) (sym (all_fields legs)) ∙ slice_get-map (λ (l : Leg). l.field) (sample_process legs).legs k ∙ ap (option_map (λ (l : Leg). l.field)) h in
    sym (get_or_from_slice_get (replicate (suc (legs - 1)) zero) k leg.field 0 there) ∙ none_but_zero (suc (legs - 1)) k

pub process_fits : SampleProcessFits
process_fits legs least most = record {
  least = (let l = legs_are_many legs (omega (arith, least)) in omega (arith, l, least));
  most = (let l = legs_are_many legs (omega (arith, least)) in omega (arith, l, most));
  fields = λ k leg there. subst (λ f. is_field sample_model.particles f ≡ true) (sym (field_at legs k leg there)) refl;
  edges = λ k e there. absurd (let none = slice_get_past (sample_process legs).edges k (omega arith) in cc);
}
