-- The place of the first element that passes a test.
use Rattle.std.proofs.Common.{◌≡◌, ℕ, suc, ◌+◌, ◌<◌, ◌↔◌, Bool, true, false, cond, nat_lt, List, [], ◌∷◌, length, get_or, Option, Some, None, is_some, Result, Ok, IsNone, IfSome, All, position, refl, ap, ◌∙◌, arith, inl, inr}
use Rattle.std.proofs.lemmas.Bool.{cases_Bool, lt-ltb}
use Rattle.std.proofs.lemmas.Bool.Decides.{nat_tests}
use Rattle.std.proofs.lemmas.List.Folds.{list_any_none, list_any_at}
use Rattle.std.proofs.lemmas.List.Sums.{position_or_len_is}
use Rattle.std.proofs.lemmas.List.Quantifiers.{position-Some}
use Rattle.std.proofs.lemmas.Option.{slice_get-get_or}
use Rattle.std.specs.List.{list_any, position_or_len}
use Rattle.indexmap.specs.IndexSet.{insert_key}
use Rattle.om_cons.specs.Place.{place_of, StandsAt}

module _ {X : Type 0} (p : X → Bool) where
  -- an element passes exactly where the first place is within the list
  pub nat_lt-position_or_len : (xs : List X) → nat_lt (position_or_len p xs) (length xs) ≡ list_any p xs
  nat_lt-position_or_len [] = refl
  nat_lt-position_or_len (x ∷ xs) = elim (cases_Bool (p x)) [
    | inl passes ↦ rw passes (here (length xs))
    | inr fails ↦ rw fails (next (position_or_len p xs) (length xs) ∙ nat_lt-position_or_len xs)
  ]
    where
      here : (n : ℕ) → nat_lt 0 (suc n) ≡ true
      here n = grind (arith, nat_tests)

      next : (m n : ℕ) → nat_lt (1 + m) (suc n) ≡ nat_lt m n
      next m n = grind (arith, nat_tests)

  -- where an element passes
  pub position-there : (xs : List X) → list_any p xs ≡ true → position p xs ≡ Some (position_or_len p xs)
  position-there xs there = rw (nat_lt-position_or_len xs, there) refl

  -- where none does
  pub position-absent : (xs : List X) → list_any p xs ≡ false → position p xs ≡ None
  position-absent xs absent = rw (nat_lt-position_or_len xs, absent) refl

  -- where the first element that passes stands
  pub position-at : (xs : List X) (place : ℕ) (d : X) → place < length xs → p (get_or xs place d) ≡ true → ((k : ℕ) → k < place → p (get_or xs k d) ≡ false) → position p xs ≡ Some place
  position-at xs place d within passes earlier =
      let at : position_or_len p xs ≡ place = position_or_len_is p xs place d (omega arith) earlier (λ _. passes) in
      rw at (ap (λ b. cond b (Some place) None) (lt-ltb place (length xs) within))

  -- no place is told exactly where each element fails
  pub IsNone-position : (xs : List X) → IsNone (position p xs) ↔ All (λ x. p x ≡ false) xs
  IsNone-position xs = (
    λ none k d within. elim (cases_Bool (p (get_or xs k d))) [
      | inl passes ↦ absurd (some_isnt_none (position-there xs (list_any_at p xs k d within passes)) none)
      | inr fails ↦ fails
    ],
    λ fails. ap is_some (position-absent xs (list_any_none p xs fails)),
  )
    where
      some_isnt_none : {o : Option ℕ} {i : ℕ} → o ≡ Some i → IsNone o → ⊥
      some_isnt_none some none = cc

module _ {K : Type 0} (eq : K → K → Bool) (keys : List K) (k : K) where
  -- the place that is told holds a key that is equal to k
  pub StandsAt-position : IfSome (place_of eq keys k) (StandsAt eq keys k)
  StandsAt-position = by (place_of eq keys k) refl
    where
      by : (o : Option ℕ) → place_of eq keys k ≡ o → IfSome o (StandsAt eq keys k)
      by None none = tt
      by (Some place) some =
          let first = position-Some (eq k) keys place k some in
          (get_or keys place k, slice_get-get_or keys place k first.0, first.1)

-- a key that is there keeps its place, and the list is the same
pub present : {K E : Type 0} (eq : K → K → Bool) (old new : List K) (k : K) (place : ℕ) (result : Result ℕ E)
    → new ≡ insert_key eq old k → place ≡ position_or_len (eq k) old → result ≡ Ok place → IfSome (place_of eq old k) (λ there. (result ≡ Ok there) × (new ≡ old))
present eq old new k place result keys at told = elim (cases_Bool (list_any (eq k) old)) [
  | inl there ↦ rw (position-there (eq k) old there) (told ∙ ap Ok at, keys ∙ rw there refl)
  | inr absent ↦ rw (position-absent (eq k) old absent) tt
]

-- what `intern` stands on
pub ruleset interned = (present, position-absent)

-- what `find` stands on
pub ruleset found = (StandsAt-position, IsNone-position)
