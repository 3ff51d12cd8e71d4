-- What names a register, which instructions its span holds, and the width.
use Rattle.std.proofs.Common.{◌≡◌, ℕ, zero, suc, ◌+◌, ◌<◌, ◌≤◌, List, [], ◌∷◌, ◌++◌, ◌⊎◌, inl, inr, ⊎_elim, length, map, take, drop, get_or, max, true, eqb, sym, subst, arith, add-one, append-nil}
use Rattle.std.specs.List.{concat, filter}
use Rattle.std.specs.Set.{is_member, distinct_count, unique_keys}
use Rattle.std.proofs.Math.Nat.{le-max_left, le-max_right, max-le, le_trans}
use Rattle.std.proofs.Math.Seq.{drop-cons}
use Rattle.std.proofs.lemmas.Bool.{and_parts, and_from, cases_lt}
use Rattle.std.proofs.lemmas.List.{take_more, length-map}
use Rattle.std.proofs.lemmas.List.Folds.{concat-append}
use Rattle.om_ring.specs.Members.{In, Different}
use Rattle.om_code.specs.Spans.{is_named, span_holds, spans_at, greatest_below, width}
use Rattle.om_code.specs.SlotPlans.{IsSlotPlan, slots_used}
use Rattle.om_ring.proofs.Members.{in_from_member, member_from_in, in_left, in_right, in_either, in_filter, in_map, in_mapped, different_map, different_unique, of_unique, few_members}

-- the registers that the first n lines name, and those that the lines from n on name
abbrev pub Before : List (List ℕ) → ℕ → ℕ → Type 0
Before lines n r = In r (concat (take n lines))

abbrev pub After : List (List ℕ) → ℕ → ℕ → Type 0
After lines n r = In r (concat (drop n lines))

-- one line more
pub before_line : (lines : List (List ℕ)) (i r : ℕ) → i < length lines → Before lines (i + 1) r → Before lines i r ⊎ In r (get_or lines i [])
before_line lines i r l h =
    let P : List (List ℕ) → Type 0 = λ xs. In r (concat xs) in
    let e : In r (concat (take i lines ++ get_or lines i [] ∷ [])) = subst P (take_more lines i [] l) h in
    let Q : List ℕ → Type 0 = λ xs. In r xs in
    let f : In r (concat (take i lines) ++ concat (get_or lines i [] ∷ [])) = subst Q (concat-append (take i lines) (get_or lines i [] ∷ [])) e in
    ⊎_elim inl (λ j. inr (subst Q (append-nil (get_or lines i [])) j)) (in_either r (concat (take i lines)) (get_or lines i [] ++ []) f)

pub line_before : (lines : List (List ℕ)) (i r : ℕ) → i < length lines → Before lines i r ⊎ In r (get_or lines i []) → Before lines (i + 1) r
line_before lines i r l h =
    let P : List (List ℕ) → Type 0 = λ xs. In r (concat xs) in
    let Q : List ℕ → Type 0 = λ xs. In r xs in
    let f : In r (concat (take i lines) ++ (get_or lines i [] ++ [])) =
    ⊎_elim (λ j. in_left r (concat (take i lines)) (get_or lines i [] ++ []) j) (λ j. in_right r (concat (take i lines)) (get_or lines i [] ++ []) (in_left r (get_or lines i []) [] j)) h in
    subst P (sym (take_more lines i [] l)) (subst Q (sym (concat-append (take i lines) (get_or lines i [] ∷ []))) f)

pub after_line : (lines : List (List ℕ)) (i r : ℕ) → i < length lines → After lines i r → In r (get_or lines i []) ⊎ After lines (i + 1) r
after_line lines i r l h =
    let P : List (List ℕ) → Type 0 = λ xs. In r (concat xs) in
    let e : In r (get_or lines i [] ++ concat (drop (suc i) lines)) = subst P (drop-cons lines i [] l) h in
    let R : ℕ → Type 0 = λ n. In r (concat (drop n lines)) in
    ⊎_elim inl (λ j. inr (subst R (sym (add-one i)) j)) (in_either r (get_or lines i []) (concat (drop (suc i) lines)) e)

pub line_after : (lines : List (List ℕ)) (i r : ℕ) → i < length lines → In r (get_or lines i []) ⊎ After lines (i + 1) r → After lines i r
line_after lines i r l h =
    let P : List (List ℕ) → Type 0 = λ xs. In r (concat xs) in
    let R : ℕ → Type 0 = λ n. In r (concat (drop n lines)) in
    subst P (sym (drop-cons lines i [] l))
    (⊎_elim (λ j. in_left r (get_or lines i []) (concat (drop (suc i) lines)) j) (λ j. in_right r (get_or lines i []) (concat (drop (suc i) lines)) (subst R (add-one i) j)) h)

-- what is named before stays so, and what is named later was so before
pub before_grows : (lines : List (List ℕ)) (i j r : ℕ) → i ≤ j → Before lines i r → Before lines j r
before_grows lines zero j r l h = absurd h
before_grows [] (suc i) j r l h = absurd h
before_grows (x ∷ xs) (suc i) zero r l h = absurd (omega arith)
before_grows (x ∷ xs) (suc i) (suc j) r l h = ⊎_elim (λ k. in_left r x (concat (take j xs)) k) (λ k. in_right r x (concat (take j xs)) (before_grows xs i j r (omega arith) k)) (in_either r x (concat (take i xs)) h)

pub after_named : (lines : List (List ℕ)) (j r : ℕ) → After lines j r → In r (concat lines)
after_named lines zero r h = h
after_named [] (suc j) r h = h
after_named (x ∷ xs) (suc j) r h = in_right r x (concat xs) (after_named xs j r h)

pub after_shrinks : (lines : List (List ℕ)) (i j r : ℕ) → i ≤ j → After lines j r → After lines i r
after_shrinks lines zero j r l h = after_named lines j r h
after_shrinks [] (suc i) zero r l h = absurd h
after_shrinks [] (suc i) (suc j) r l h = absurd h
after_shrinks (x ∷ xs) (suc i) zero r l h = absurd (omega arith)
after_shrinks (x ∷ xs) (suc i) (suc j) r l h = after_shrinks xs i j r (omega arith) h

-- the test of spans
pub parts_of_span : (lines : List (List ℕ)) (i r : ℕ) → span_holds lines i r ≡ true → Before lines (i + 1) r × After lines i r
unfolding span_holds is_named
parts_of_span lines i r h =
    let p = and_parts (is_member eqb (concat (take (i + 1) lines)) r) (is_member eqb (concat (drop i lines)) r) h in
    (in_from_member (concat (take (i + 1) lines)) r p.0, in_from_member (concat (drop i lines)) r p.1)

pub span_from : (lines : List (List ℕ)) (i r : ℕ) → Before lines (i + 1) r → After lines i r → span_holds lines i r ≡ true
unfolding span_holds is_named
span_from lines i r b a =
    and_from (is_member eqb (concat (take (i + 1) lines)) r) (is_member eqb (concat (drop i lines)) r) (member_from_in (concat (take (i + 1) lines)) r b) (member_from_in (concat (drop i lines)) r a)

-- a span that holds a later instruction of two holds the earlier one where its register is named there
pub span_earlier : (lines : List (List ℕ)) (i j r : ℕ) → i ≤ j → Before lines (i + 1) r → span_holds lines j r ≡ true → span_holds lines i r ≡ true
span_earlier lines i j r l b h = span_from lines i r b (after_shrinks lines i j r l (parts_of_span lines j r h).1)

-- a register that no line before i names has no span before
pub no_earlier_span : (lines : List (List ℕ)) (i j r : ℕ) → (Before lines i r → ⊥) → span_holds lines j r ≡ true → i ≤ j
no_earlier_span lines i j r n h =
    ⊎_elim (λ (lt : j < i). absurd (n (before_grows lines (j + 1) i r (omega arith) (parts_of_span lines j r h).0))) (λ le. le) (cases_lt j i)

-- the greatest value
pub le_greatest : (f : ℕ → ℕ) (n k : ℕ) → k < n → f k ≤ greatest_below f n
unfolding greatest_below
le_greatest f zero k h = absurd (omega arith)
le_greatest f (suc n) k h =
    ⊎_elim (λ (l : k < n). le_trans (le_greatest f n k l) (le-max_right (f n) (greatest_below f n)))
    (λ (l : n ≤ k). let e : k ≡ n = omega arith in let P : ℕ → Type 0 = λ m. f m ≤ max (f n) (greatest_below f n) in subst P (sym e) (le-max_left (f n) (greatest_below f n)))
    (cases_lt k n)

pub greatest_le : (f : ℕ → ℕ) (n m : ℕ) → ((k : ℕ) → k < n → f k ≤ m) → greatest_below f n ≤ m
unfolding greatest_below
greatest_le f zero m h = omega arith
greatest_le f (suc n) m h = max-le (h n (omega arith)) (greatest_le f n m (λ k l. h k (omega arith)))

-- registers whose spans hold one instruction are at most as many as the width
pub few_at : (lines : List (List ℕ)) (i : ℕ) (rs : List ℕ) → i < length lines → Different rs → ((r : ℕ) → In r rs → span_holds lines i r ≡ true) → length rs ≤ width lines
unfolding width spans_at
few_at lines i rs l d h =
    le_trans (few_members rs (filter (span_holds lines i) (concat lines)) d (λ r j. (in_filter (span_holds lines i) r (concat lines)).1 (after_named lines i r (parts_of_span lines i r (h r j)).1, h r j)))
    (le_greatest (spans_at lines) (length lines) i l)

-- each plan needs as many numbers as spans hold one instruction
many_at : (lines : List (List ℕ)) (plan : ℕ → ℕ) (i : ℕ) → IsSlotPlan lines plan → spans_at lines i ≤ slots_used lines plan
unfolding spans_at slots_used
many_at lines plan i p =
    let held = filter (span_holds lines i) (concat lines) in
    let us = unique_keys eqb held in
    let holds : (r : ℕ) → In r us → span_holds lines i r ≡ true = λ r j. ((in_filter (span_holds lines i) r (concat lines)).0 (of_unique held r j)).1 in
    let d : Different (map plan us) = different_map plan us (λ r s j k e. p r s i (holds r j) (holds s k) e) (different_unique held) in
    let inside : (q : ℕ) → In q (map plan us) → In q (map plan (concat lines)) = λ q j.
    let w = in_mapped plan q us j in
    let P : ℕ → Type 0 = λ u. In u (map plan (concat lines)) in
    subst P (sym w.2) (in_map plan w.0 (concat lines) ((in_filter (span_holds lines i) w.0 (concat lines)).0 (of_unique held w.0 w.1)).0) in
    subst (λ n. n ≤ distinct_count eqb (map plan (concat lines))) (length-map us plan) (few_members (map plan us) (map plan (concat lines)) d inside)

pub width_needed : (lines : List (List ℕ)) (plan : ℕ → ℕ) → IsSlotPlan lines plan → width lines ≤ slots_used lines plan
unfolding width
width_needed lines plan p = greatest_le (spans_at lines) (length lines) (slots_used lines plan) (λ i l. many_at lines plan i p)
