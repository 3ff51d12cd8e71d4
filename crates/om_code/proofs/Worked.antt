-- The plan of a worked list: five legs, six inner nodes and six keystones, where the last inner node takes the place of the first of its branches' companions.
use Rattle.std.proofs.Common.{◌≡◌, ℕ, List, [], ◌∷◌, map, refl}
use Rattle.om_code.specs.Spans.{is_named, span_holds, spans_at, greatest_below, width}
use Rattle.om_code.specs.SlotPlans.{free_from, least_free, taken_at, give, give_each, given_before, slot_in, first_fit}

worked : List (List ℕ)
worked =
    (0 ∷ []) ∷ (1 ∷ []) ∷ (2 ∷ []) ∷ (3 ∷ []) ∷ (4 ∷ [])
    ∷ (5 ∷ 0 ∷ 2 ∷ []) ∷ (5 ∷ []) ∷ (6 ∷ 1 ∷ 2 ∷ []) ∷ (6 ∷ []) ∷ (7 ∷ 0 ∷ 3 ∷ []) ∷ (7 ∷ []) ∷ (8 ∷ 1 ∷ 3 ∷ []) ∷ (8 ∷ [])
    ∷ (9 ∷ 0 ∷ 4 ∷ []) ∷ (9 ∷ []) ∷ (10 ∷ 1 ∷ 4 ∷ []) ∷ (10 ∷ [])
    ∷ (5 ∷ 8 ∷ 4 ∷ []) ∷ (5 ∷ 10 ∷ 3 ∷ []) ∷ (7 ∷ 6 ∷ 4 ∷ []) ∷ (7 ∷ 10 ∷ 2 ∷ []) ∷ (9 ∷ 6 ∷ 3 ∷ []) ∷ (9 ∷ 8 ∷ 2 ∷ []) ∷ []

worked_width : width worked ≡ 10
unfolding worked width greatest_below spans_at span_holds is_named
worked_width = refl

worked_slots : map (first_fit worked) (0 ∷ 1 ∷ 2 ∷ 3 ∷ 4 ∷ 5 ∷ 6 ∷ 7 ∷ 8 ∷ 9 ∷ 10 ∷ []) ≡ 0 ∷ 1 ∷ 2 ∷ 3 ∷ 4 ∷ 5 ∷ 6 ∷ 7 ∷ 8 ∷ 9 ∷ 0 ∷ []
unfolding worked first_fit slot_in given_before give_each give taken_at least_free free_from span_holds is_named
worked_slots = refl
