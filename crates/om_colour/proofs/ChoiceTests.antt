-- Tests on the choices of all rows, by computing.
use Rattle.std.proofs.Common.{◌≡◌, ℕ, ◌<◌, Bool, true, false, eqb, leb, not, ◌&&◌, ◌||◌, ◌⊎◌, inl, inr, List, [], ◌∷◌, length, get_or, Option, Some, None, refl, ap, sym, ◌∙◌, true≢false, arith, count_by, ◌≤◌, zero, suc}
use Rattle.std.proofs.lemmas.Bool.Decides.{nat_tests}
use Rattle.om_colour.specs.declared.Colour.{Colour}
use Rattle.om_colour.specs.declared.Colour.TheVariants.{One, Three, AntiThree, Eight}
use Rattle.om_colour.specs.Lines.{starts_line, ends_line}
use Rattle.om_colour.specs.Choices.{goes_to, colour_at}
use Rattle.om_colour.specs.Table.{Row, row_of, choice_along, choice_of, choice_count, coloured_slots, fits_pattern, table}
use Rattle.om_colour.specs.Laws.{OneRow}

-- tests on all slots
abbrev pub each_slot : (ℕ → Bool) → Bool
each_slot p = p 1 && p 2 && p 3 && p 4

abbrev pub some_slot : (ℕ → Bool) → Bool
some_slot p = p 1 || p 2 || p 3 || p 4

abbrev pub same_bool : Bool → Bool → Bool
same_bool true b = b
same_bool false b = not b

-- a line is sent on from the slot where one arrives, to another slot, where one leaves, and no other line is sent there
abbrev pub sends_slot_on : List Colour → (ℕ → ℕ) → ℕ → Bool
sends_slot_on cs to s =
    leb (to s) 4 && not (eqb (to s) s) && same_bool (not (eqb (to s) 0)) (starts_line (colour_at cs s))
    && same_bool (some_slot (λ r. eqb (to r) s)) (ends_line (colour_at cs s))
    && each_slot (λ r. eqb s r || eqb (to s) 0 || not (eqb (to s) (to r)))

abbrev pub sends_on : List Colour → (ℕ → ℕ) → Bool
sends_on cs to = each_slot (sends_slot_on cs to)

abbrev all_send_on : List Colour → List (List ℕ) → Bool
all_send_on cs [] = true
all_send_on cs (w ∷ ws) = sends_on cs (goes_to (choice_along w)) && all_send_on cs ws

abbrev row_sends_on : List Colour → Option Row → Bool
row_sends_on cs None = true
row_sends_on cs (Some r) = all_send_on cs r.ways

abbrev one_row : List Colour → Bool
one_row cs = leb (count_by (fits_pattern (coloured_slots cs)) table) 1

abbrev is_good : List Colour → Bool
is_good cs = row_sends_on cs (row_of cs) && one_row cs

abbrev each_colour : (Colour → Bool) → Bool
each_colour p = (p One && p Three) && (p AntiThree && p Eight)

pub both : (a b : Bool) → a && b ≡ true → (a ≡ true) × (b ≡ true)
both true true e = (refl, refl)
both true false e = absurd (true≢false (sym e))
both false b e = absurd (true≢false (sym e))

at : (p : Colour → Bool) → each_colour p ≡ true → (c : Colour) → p c ≡ true
at p e One = (both _ _ (both (p One && p Three) _ e).0).0
at p e Three = (both (p One) _ (both (p One && p Three) _ e).0).1
at p e AntiThree = (both _ (p Eight) (both (p One && p Three) (p AntiThree && p Eight) e).1).0
at p e Eight = (both (p AntiThree) _ (both (p One && p Three) (p AntiThree && p Eight) e).1).1

three_slots : each_colour (λ a. each_colour (λ b. each_colour (λ c. is_good (a ∷ b ∷ c ∷ [])))) ≡ true
three_slots = refl

four_slots : each_colour (λ a. each_colour (λ b. each_colour (λ c. each_colour (λ d. is_good (a ∷ b ∷ c ∷ d ∷ []))))) ≡ true
four_slots = refl

good_three : (a b c : Colour) → is_good (a ∷ b ∷ c ∷ []) ≡ true
good_three a b c = at (λ c. is_good (a ∷ b ∷ c ∷ [])) (at (λ b. each_colour (λ c. is_good (a ∷ b ∷ c ∷ []))) (at (λ a. each_colour (λ b. each_colour (λ c. is_good (a ∷ b ∷ c ∷ [])))) three_slots a) b) c

good_four : (a b c d : Colour) → is_good (a ∷ b ∷ c ∷ d ∷ []) ≡ true
good_four a b c d =
    at (λ d. is_good (a ∷ b ∷ c ∷ d ∷ []))
    (at (λ c. each_colour (λ d. is_good (a ∷ b ∷ c ∷ d ∷ [])))
    (at (λ b. each_colour (λ c. each_colour (λ d. is_good (a ∷ b ∷ c ∷ d ∷ []))))
    (at (λ a. each_colour (λ b. each_colour (λ c. each_colour (λ d. is_good (a ∷ b ∷ c ∷ d ∷ []))))) four_slots a) b) c) d

good : (cs : List Colour) → (length cs ≡ 3) ⊎ (length cs ≡ 4) → is_good cs ≡ true
good [] (inl e) = absurd (omega arith)
good [] (inr e) = absurd (omega arith)
good (a ∷ []) (inl e) = absurd (omega arith)
good (a ∷ []) (inr e) = absurd (omega arith)
good (a ∷ b ∷ []) (inl e) = absurd (omega arith)
good (a ∷ b ∷ []) (inr e) = absurd (omega arith)
good (a ∷ b ∷ c ∷ []) l = good_three a b c
good (a ∷ b ∷ c ∷ d ∷ []) l = good_four a b c d
good (a ∷ b ∷ c ∷ d ∷ f ∷ cs) (inl e) = absurd (omega arith)
good (a ∷ b ∷ c ∷ d ∷ f ∷ cs) (inr e) = absurd (omega arith)

one_sends_on : (cs : List Colour) (ws : List (List ℕ)) (k : ℕ) → all_send_on cs ws ≡ true → k < length ws → sends_on cs (goes_to (choice_along (get_or ws k []))) ≡ true
one_sends_on cs [] k e l = absurd (omega arith)
one_sends_on cs (w ∷ ws) zero e l = (both (sends_on cs (goes_to (choice_along w))) (all_send_on cs ws) e).0
one_sends_on cs (w ∷ ws) (suc k) e l = one_sends_on cs ws k (both (sends_on cs (goes_to (choice_along w))) (all_send_on cs ws) e).1 (omega arith)

-- each choice of each row passes the test
pub choice_sends_on : (cs : List Colour) → (length cs ≡ 3) ⊎ (length cs ≡ 4) → (r : Row) → row_of cs ≡ Some r → (k : ℕ) → k < choice_count r → sends_on cs (goes_to (choice_of r k)) ≡ true
choice_sends_on cs l r e k m = one_sends_on cs r.ways k (sym (ap (row_sends_on cs) e) ∙ (both (row_sends_on cs (row_of cs)) (one_row cs) (good cs l)).0) m

at_most : (m n : ℕ) → leb m n ≡ true → m ≤ n
at_most m n e = grind (arith, nat_tests)

pub one_row_fits : OneRow
one_row_fits cs l = at_most (count_by (fits_pattern (coloured_slots cs)) table) 1 (both (row_sends_on cs (row_of cs)) (one_row cs) (good cs l)).1
