-- Slots for the registers of an instruction list, so that a slot is used again once its register is no longer needed.
use Rattle.std.specs.Prelude.{◌≡◌, ℕ, zero, suc, true, List, [], ◌∷◌, ◌++◌, length, map, slice_index_or, if◌then◌else◌, ◌==◌, Option, Some, None}
use Rattle.std.specs.List.{concat, filter}
use Rattle.std.specs.Map.{lookup, keys_of}
use Rattle.std.specs.Set.{is_member, distinct_count}
use Rattle.om_code.specs.Spans.{span_holds}

-- a plan gives a number to each register, and different numbers to any two whose spans share an instruction
abbrev pub IsSlotPlan : List (List ℕ) → (ℕ → ℕ) → Type 0
IsSlotPlan lines plan = (r s i : ℕ) → span_holds lines i r ≡ true → span_holds lines i s ≡ true → plan r ≡ plan s → r ≡ s

-- how many numbers a plan uses
unfoldable pub slots_used : List (List ℕ) → (ℕ → ℕ) → ℕ
slots_used lines plan = distinct_count ◌==◌ (map plan (concat lines))

-- the first of so many numbers from k on that the list lacks, or the one after them
unfoldable pub free_from : ℕ → ℕ → List ℕ → ℕ
free_from zero k taken = k
free_from (suc n) k taken = if is_member ◌==◌ taken k then free_from n (suc k) taken else k

-- the least number that a list lacks
unfoldable pub least_free : List ℕ → ℕ
least_free taken = free_from (length taken) 0 taken

-- registers with their slots, in the order in which they got them
abbrev pub Given : Type 0
Given = List (ℕ × ℕ)

-- the slots of the registers whose spans hold an instruction
unfoldable pub taken_at : List (List ℕ) → ℕ → Given → List ℕ
taken_at lines i given = map (λ g. g.1) (filter (λ g. span_holds lines i g.0) given)

-- a register that has no slot yet gets the least that is free at an instruction
unfoldable pub give : List (List ℕ) → ℕ → Given → ℕ → Given
give lines i given r = if is_member ◌==◌ (keys_of given) r then given else given ++ (r, least_free (taken_at lines i given)) ∷ []

-- the registers of a line, in turn
unfoldable pub give_each : List (List ℕ) → ℕ → Given → List ℕ → Given
give_each lines i given [] = given
give_each lines i given (r ∷ rs) = give_each lines i (give lines i given r) rs

-- what the first n instructions give
unfoldable pub given_before : List (List ℕ) → ℕ → Given
given_before lines zero = []
given_before lines (suc n) = give_each lines n (given_before lines n) (slice_index_or lines n [])

-- the slot of a register, where it has one
unfoldable pub slot_in : Given → ℕ → Option ℕ
slot_in given r = lookup (λ s. r == s) given

-- a slot, or 0 where there is none
abbrev pub slot_or_0 : Option ℕ → ℕ
slot_or_0 (Some k) = k
slot_or_0 None = 0

-- the first-fit plan: at the instruction that first names a register it gives it the least number, from 0, of no earlier register
-- whose span holds that instruction
unfoldable pub first_fit : List (List ℕ) → ℕ → ℕ
first_fit lines r = slot_or_0 (slot_in (given_before lines (length lines)) r)
