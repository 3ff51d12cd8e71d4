-- Where a key of a list without equal keys is found.
use Rattle.std.proofs.Common.{◌≡◌, ℕ, ◌<◌, ◌↔◌, Bool, List, length, get_or, slice_get, Option, Some, None, is_some, IsSome, Contains, Decides, refl, sym, ap, ◌∙◌, true≢false}
use Rattle.std.proofs.lemmas.List.Folds.{list_any_at}
use Rattle.std.proofs.lemmas.List.Quantifiers.{position-Some}
use Rattle.std.proofs.lemmas.Map.Keys.{apart_from_distinct}
use Rattle.std.proofs.lemmas.Option.{slice_get-get_or, slice_get_within, get_or_from_slice_get}
use Rattle.std.specs.Cmp.{IsEquivalence}
use Rattle.std.specs.List.{IsDistinct}
use Rattle.om_cons.proofs.Places.{position-at, position-there}
use Rattle.om_cons.specs.Place.{IsIdentity, place_of}

module _ {K : Type 0} {eq : K → K → Bool} where
  -- in a list without equal keys a key is found where it stands
  pub place_of-slice_get : IsEquivalence eq → (keys : List K) → IsDistinct eq keys → (place : ℕ) (k : K) → slice_get keys place ≡ Some k → place_of eq keys k ≡ Some place
  place_of-slice_get laws keys distinct place k stands =
      let here : get_or keys place k ≡ k = get_or_from_slice_get keys place k k stands in
      let within : place < length keys = slice_get_within keys place k stands in
      position-at (eq k) keys place k within (ap (eq k) here ∙ laws.refl k)
      (λ earlier lower. laws.symm k (get_or keys earlier k) ∙ sym (ap (eq (get_or keys earlier k)) here) ∙ apart_from_distinct eq keys earlier place k distinct lower within)

  -- where two equal keys are one value, it is that key that stands where it is found
  pub slice_get-place_of : (keys : List K) (k : K) (place : ℕ) → IsIdentity eq → place_of eq keys k ≡ Some place → slice_get keys place ≡ Some k
  slice_get-place_of keys k place same found =
      let first = position-Some (eq k) keys place k found in
      slice_get-get_or keys place k first.0 ∙ ap Some (sym (same k (get_or keys place k) first.1))

  -- and then a key is found exactly where the list has it
  pub IsSome-place_of : IsEquivalence eq → IsIdentity eq → (keys : List K) (k : K) → IsSome (place_of eq keys k) ↔ Contains keys k
  IsSome-place_of laws same keys k = (
    by (place_of eq keys k) refl,
    λ has. ap is_some (position-there (eq k) keys (list_any_at (eq k) keys has.0 k has.1 (ap (eq k) has.2 ∙ laws.refl k))),
  )
    where
      by : (o : Option ℕ) → place_of eq keys k ≡ o → IsSome o → Contains keys k
      by None none some = absurd (true≢false (sym some))
      by (Some place) found some =
          let first = position-Some (eq k) keys place k found in
          (place, first.0, sym (same k (get_or keys place k) first.1))

  -- such an equality decides whether two keys are one value
  pub eq-Decides : IsEquivalence eq → IsIdentity eq → (x y : K) → Decides (eq x y) (x ≡ y)
  eq-Decides laws same x y = (same x y, λ one. ap (eq x) (sym one) ∙ laws.refl x)
