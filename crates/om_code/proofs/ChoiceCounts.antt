-- The number of choices of a vertex row, from the list of all.
use Rattle.std.proofs.Common.{◌≡◌, ℕ, ◌<◌, inl, inr, List, length, ◌&&◌, true, sym, ◌∙◌, ap, arith, slice_index_or}
use Rattle.std.specs.Prelude.{nat_lt, slice_get, option_map}
use Rattle.std.proofs.lemmas.Bool.Decides.{nat_tests}
use Rattle.std.proofs.lemmas.Option.{get_or_from_slice_get, slice_get_cases, slice_get-map}
use Rattle.om_model.specs.Model.{choices_in, colours_of_vertex, theory_of}
use Rattle.om_code.specs.declared.code.Code.{Code}
use Rattle.om_code.specs.Choices.{choice_counts, choices_of_row}
use Rattle.om_code.specs.Rules.{is_choice}

count-at : (c : Code) (counts : List ℕ) (k : ℕ) → counts ≡ choice_counts c → k < length c.model.vertices → slice_index_or counts k 0 ≡ (theory_of c.model).choices k
count-at c counts k e h =
    let count = choices_of_row c.model.particles in
    elim (slice_get_cases c.model.vertices k).1 [
      | inl w ↦ (let here = ap (λ ns. slice_get ns k) e ∙ slice_get-map count c.model.vertices k ∙ ap (option_map count) w.2 in
          get_or_from_slice_get counts k (count w.0) 0 here ∙ sym (ap (λ v. choices_in (colours_of_vertex c.model.particles v)) w.2))
      | inr p ↦ absurd (omega (arith, p.0, h))
    ]

below-true : (m n : ℕ) → m < n → nat_lt m n ≡ true
below-true m n h = grind (arith, nat_tests)

-- a choice of a row that exists is one below the number in the list
pub choice_below : (c : Code) (counts : List ℕ) (k choice : ℕ) → counts ≡ choice_counts c → k < length c.model.vertices → nat_lt choice (slice_index_or counts k 0) ≡ is_choice c k choice
choice_below c counts k choice e h = ap (nat_lt choice) (count-at c counts k e h) ∙ ap (λ b. b && nat_lt choice ((theory_of c.model).choices k)) (sym (below-true k (length c.model.vertices) h))
