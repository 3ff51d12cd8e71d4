-- A slot at which nothing stands crosses nothing.
use Rattle.std.proofs.Common.{◌≡◌, ℕ, ◌+◌, ◌≤◌, List, [], ◌∷◌, ◌++◌, length, Bool, true, false, ◌&&◌, Option, None, refl, ap, ap₂, sym, ◌∙◌, arith, nat_lt}
use Rattle.std.specs.List.{count_by}
use Rattle.std.proofs.lemmas.List.Sums.{sum_by-cons}
use Rattle.om_legs.specs.Legs.{holds, legs_of, meeting, set_of}
use Rattle.om_legs.specs.Crossings.{crossings, is_odd}
use Rattle.om_legs.proofs.Bits.{IsLegSet-set_of, holds-set_of, leg_range, same_sets}
use Rattle.om_legs.proofs.LegLists.{holds_none, legs_of-empty}
use Rattle.om_legs.proofs.Operations.{holds-meeting}
use Rattle.om_graph.specs.declared.Key.{Key}
use Rattle.om_graph.specs.Vertices.{crossings_with, four_slots, slot_crossings}

none_behind : (xs : List ℕ) → crossings xs [] ≡ 0
none_behind [] = refl
none_behind (x ∷ xs) =
    let a = sum_by-cons (λ x. count_by (λ y. nat_lt y x) []) x xs in
    let b = none_behind xs in
    let z : count_by (λ y. nat_lt y x) [] ≡ 0 = refl in
    omega (arith, a, b, z)

module _ (fermions : ℕ) where
  none_meets : meeting 0 fermions ≡ 0
  none_meets = same_sets (meeting 0 fermions) 0 (λ k. holds-meeting 0 fermions k (omega arith) ∙ ap (λ b. Rattle.std.proofs.Common.◌&&◌ b (Rattle.om_legs.specs.Legs.holds fermions k)) (holds_none k) ∙ sym (holds_none k))

  crosses_none : (a : ℕ) → crossings (legs_of (meeting a fermions)) (legs_of (meeting 0 fermions)) ≡ 0
  crosses_none a = ap (crossings (legs_of (meeting a fermions))) (ap legs_of none_meets ∙ legs_of-empty) ∙ none_behind (legs_of (meeting a fermions))

  with_none : (a : ℕ) (slots : List (Option Key)) → crossings_with fermions a (slots ++ None ∷ []) ≡ crossings_with fermions a slots
  unfolding crossings_with
  with_none a [] = ap (λ n. n + 0) (crosses_none a)
  with_none a (b ∷ slots) = ap (λ n. crossings (legs_of (meeting a fermions)) (legs_of (meeting (Rattle.om_graph.specs.Vertices.legs_in b) fermions)) + n) (with_none a slots)

  end_none : (slots : List (Option Key)) → slot_crossings fermions (slots ++ None ∷ []) ≡ slot_crossings fermions slots
  unfolding slot_crossings crossings_with
  end_none [] = refl
  end_none (a ∷ slots) = ap₂ ◌+◌ (with_none (Rattle.om_graph.specs.Vertices.legs_in a) slots) (end_none slots)

  -- the slots past those of the vertex add nothing
  pub four_crossings : (slots : List (Option Key)) → length slots ≤ 4 → slot_crossings fermions (four_slots slots) ≡ slot_crossings fermions slots
  four_crossings [] l = end_none (None ∷ None ∷ None ∷ []) ∙ end_none (None ∷ None ∷ []) ∙ end_none (None ∷ []) ∙ end_none []
  four_crossings (a ∷ []) l = end_none (a ∷ None ∷ None ∷ []) ∙ end_none (a ∷ None ∷ []) ∙ end_none (a ∷ [])
  four_crossings (a ∷ b ∷ []) l = end_none (a ∷ b ∷ None ∷ []) ∙ end_none (a ∷ b ∷ [])
  four_crossings (a ∷ b ∷ c ∷ []) l = end_none (a ∷ b ∷ c ∷ [])
  four_crossings (a ∷ b ∷ c ∷ d ∷ []) l = refl
  four_crossings (a ∷ b ∷ c ∷ d ∷ e ∷ slots) l = absurd (omega (arith, l))

-- without fermions none cross
module _ (a b : ℕ) where
  nothing : (p q : Bool) → q ≡ false → (p && q) ≡ false
  nothing true q e = e
  nothing false q e = refl

  none_held : (k : ℕ) → holds (meeting b 0) k ≡ false
  unfolding meeting
  none_held k = by (holds (meeting b 0) k) refl
    where
      by : (h : Bool) → holds (set_of (λ l. holds b l && holds 0 l)) k ≡ h → holds (set_of (λ l. holds b l && holds 0 l)) k ≡ false
      by true e =
          let r = leg_range (set_of (λ l. holds b l && holds 0 l)) k (IsLegSet-set_of (λ l. holds b l && holds 0 l)) e in
          holds-set_of (λ l. holds b l && holds 0 l) k r.0 r.1 ∙ nothing (holds b k) (holds 0 k) (holds_none k)
      by false e = e

  apart : crossings (legs_of (meeting a 0)) (legs_of (meeting b 0)) ≡ 0
  apart =
      ap (crossings (legs_of (meeting a 0))) (ap legs_of (same_sets (meeting b 0) 0 (λ k. none_held k ∙ sym (holds_none k))) ∙ legs_of-empty)
      ∙ none_behind (legs_of (meeting a 0))

without_with : (a : ℕ) (slots : List (Option Key)) → crossings_with 0 a slots ≡ 0
unfolding crossings_with
without_with a [] = refl
without_with a (b ∷ slots) = ap₂ ◌+◌ (apart a (Rattle.om_graph.specs.Vertices.legs_in b)) (without_with a slots)

without : (slots : List (Option Key)) → slot_crossings 0 slots ≡ 0
unfolding slot_crossings
without [] = refl
without (a ∷ slots) = ap₂ ◌+◌ (without_with (Rattle.om_graph.specs.Vertices.legs_in a) slots) (without slots)

pub even_without : (fermions : ℕ) (slots : List (Option Key)) → fermions ≡ 0 → is_odd (slot_crossings fermions slots) ≡ false
even_without fermions slots e = ap (λ (f : ℕ). is_odd (slot_crossings f slots)) e ∙ ap is_odd (without slots)
