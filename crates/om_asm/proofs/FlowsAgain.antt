-- The word of a flow is read as the flow.
use Rattle.std.proofs.Common.{◌≡◌, ℕ, zero, suc, ◌+◌, ◌-◌, ◌^◌, ◌<◌, ◌≤◌, eqb, Bool, true, false, cond, List, [], ◌∷◌, ◌++◌, length, get_or, flat_map, codes, decimal, Option, Some, None, refl, sym, ap, ap₂, ◌∙◌, arith, append_assoc, append-nil}
use Rattle.std.specs.Prelude.{slice_set}
use Rattle.std.specs.List.{AllByRecursion, slice_split, join_with_byte}
use Rattle.std.specs.Str.{bytes_eq}
use Rattle.std.proofs.lemmas.Bool.{eqb-true}
use Rattle.std.proofs.lemmas.Bool.Decides.{nat_tests}
use Rattle.std.proofs.lemmas.List.{length-append}
use Rattle.std.proofs.lemmas.Fmt.{decimal_nonempty}
use Rattle.om_colour.specs.declared.Flow.{Flow}
use Rattle.om_colour.specs.Texts.{flow_bytes, line_item, line_items, with_commas, items_text}
use Rattle.om_colour.specs.declared.texts.Extent.TheVariants.{Diagram}
use Rattle.om_io.specs.Lines.{Words}
use Rattle.om_asm.specs.Lines.{word_by, no_more}
use Rattle.om_ring.specs.OptionSteps.{◌>>=◌}
use Rattle.om_ring.specs.Spelt.{decimal_below}
use Rattle.om_asm.specs.Flows.{ends_of_line, ends_from, no_ends, flow_with, flow_of}
use Rattle.om_asm.proofs.SpeltLemmas.{bytes_same, same_bytes}
use Rattle.om_asm.proofs.WordLaws.{put, number_law}
use Rattle.om_asm.proofs.Visible.{Without, AreDigits, split_join, decimal_without, decimal_digits, without_from}

abbrev Line : Type 0
Line = ℕ × ℕ

abbrev a_line : ℕ → ℕ → Line
a_line s e = (s, e)

abbrev item : ℕ → ℕ → List ℕ
item s e = line_item Diagram s e

item_join : (s e : ℕ) → item s e ≡ join_with_byte 62 (decimal s ∷ decimal e ∷ [])
item_join s e = append_assoc (decimal s) (62 ∷ []) (decimal e)

digits_without : (c n : ℕ) → n < 2 ^ 64 → 57 < c → Without c (decimal n)
digits_without c n h big = without_from c (λ b. (48 ≤ b) × (b ≤ 57)) (decimal n) (λ b d e. omega (arith, d.1, e)) (decimal_digits n h)

item_parts : (s e : ℕ) → s ≤ 12 → e ≤ 12 → slice_split (λ b. eqb b 62) (item s e) ≡ decimal s ∷ decimal e ∷ []
item_parts s e hs he = ap (slice_split (λ b. eqb b 62)) (item_join s e) ∙ split_join 62 (decimal s) (decimal e ∷ []) (digits_without 62 s (omega arith) (omega arith)) (digits_without 62 e (omega arith) (omega arith), tt)

ends_of_item : (s e : ℕ) → 1 ≤ s → s ≤ 12 → e ≤ 12 → ends_of_line (decimal s ∷ decimal e ∷ []) ≡ Some (a_line s e)
unfolding ends_of_line
ends_of_item s e least hs he =
    let some : eqb s 0 ≡ false = grind (arith, nat_tests) in
    put (decimal_below 13) decimal (λ n. n < 13) (number_law 13 (omega arith)) s (decimal e ∷ []) (λ a. word_by (decimal_below 13) a.1 >>= λ b. no_more b.1 >>= λ _. cond (eqb a.0 0) None (Some (a_line a.0 b.0))) (omega arith)
    ∙ put (decimal_below 13) decimal (λ n. n < 13) (number_law 13 (omega arith)) e [] (λ b. no_more b.1 >>= λ _. cond (eqb s 0) None (Some (a_line s b.0))) (omega arith)
    ∙ ap (λ b. cond b None (Some (a_line s e))) some

one_item : (ends : List ℕ) (s e : ℕ) (more : Words) → 1 ≤ s → s ≤ 12 → e ≤ 12 → ends_from ends (item s e ∷ more) ≡ ends_from (slice_set ends (s - 1) e) more
unfolding ends_from
one_item ends s e more least hs he = ap (λ (o : Option Line). o >>= λ l. ends_from (slice_set ends (l.0 - 1) l.1) more) (ap ends_of_line (item_parts s e hs he) ∙ ends_of_item s e least hs he)

zeros : ℕ → List ℕ
zeros zero = []
zeros (suc n) = 0 ∷ zeros n

set_at : (front : List ℕ) (x e : ℕ) (back : List ℕ) → slice_set (front ++ x ∷ back) (length front) e ≡ front ++ e ∷ back
set_at [] x e back = refl
set_at (y ∷ ys) x e back = ap (λ t. y ∷ t) (set_at ys x e back)

abbrev lines_at : ℕ → List ℕ → Words
lines_at s ends = line_items Diagram s ends

abbrev AreEnds : List ℕ → Type 0
AreEnds ends = AllByRecursion (λ e. e ≤ 12) ends

one_more : (front es : List ℕ) (x : ℕ) → (ends_from ((front ++ x ∷ []) ++ zeros (length es)) (lines_at (length (front ++ x ∷ []) + 1) es) ≡ Some ((front ++ x ∷ []) ++ es)) → ends_from (front ++ x ∷ zeros (length es)) (lines_at (length front + 1 + 1) es) ≡ Some (front ++ x ∷ es)
one_more front es x ih =
    let longer : length (front ++ x ∷ []) + 1 ≡ length front + 1 + 1 = omega (arith, length-append front (x ∷ [])) in
    ap₂ (λ t k. ends_from t (lines_at k es)) (sym (append_assoc front (x ∷ []) (zeros (length es)))) (sym longer) ∙ ih ∙ ap Some (append_assoc front (x ∷ []) es)

one_end : (front : List ℕ) (e : ℕ) (es : List ℕ) (b : Bool) → eqb e 0 ≡ b → e ≤ 12 → length front + 1 ≤ 12
    → ((x : ℕ) → ends_from (front ++ x ∷ zeros (length es)) (lines_at (length front + 1 + 1) es) ≡ Some (front ++ x ∷ es))
    → ends_from (front ++ 0 ∷ zeros (length es)) (cond b (lines_at (length front + 1 + 1) es) (item (length front + 1) e ∷ lines_at (length front + 1 + 1) es)) ≡ Some (front ++ e ∷ es)
one_end front e es true t h n next = next 0 ∙ ap (λ x. Some (front ++ x ∷ es)) (sym (eqb-true e 0 t))
one_end front e es false t h n next =
    let same : length front + 1 - 1 ≡ length front = omega arith in
    one_item (front ++ 0 ∷ zeros (length es)) (length front + 1) e (lines_at (length front + 1 + 1) es) (omega arith) (omega (arith, n)) h
    ∙ ap (λ k. ends_from (slice_set (front ++ 0 ∷ zeros (length es)) k e) (lines_at (length front + 1 + 1) es)) same
    ∙ ap (λ t. ends_from t (lines_at (length front + 1 + 1) es)) (set_at front 0 e (zeros (length es)))
    ∙ next e

-- the ends of the lines that follow those in front
ends_again : (front back : List ℕ) → AreEnds back → length front + length back ≡ 12 → ends_from (front ++ zeros (length back)) (lines_at (length front + 1) back) ≡ Some (front ++ back)
unfolding ends_from zeros
ends_again front [] h n = refl
ends_again front (e ∷ es) h n = one_end front e es (eqb e 0) refl h.0 (omega (arith, n)) (λ x. one_more front es x (ends_again (front ++ x ∷ []) es h.1 (omega (arith, n, length-append front (x ∷ [])))))

all_ends : (ends : List ℕ) → AreEnds ends → length ends ≡ 12 → ends_from no_ends (lines_at 1 ends) ≡ Some ends
unfolding zeros
all_ends ends h n = ap (λ k. ends_from (zeros k) (lines_at 1 ends)) (sym n) ∙ ends_again [] ends h (omega (arith, n))

-- ---- the word

comma_join : (x : List ℕ) (xs : Words) → with_commas (x ∷ xs) ≡ join_with_byte 44 (x ∷ xs)
comma_join x [] = append-nil x
comma_join x (y ∷ ys) = ap (λ t. x ++ 44 ∷ t) (comma_join y ys)

without_both : (c : ℕ) (a b : List ℕ) → Without c a → Without c b → Without c (a ++ b)
without_both c [] b p q = q
without_both c (x ∷ xs) b p q = (p.0, without_both c xs b p.1 q)

item_without : (s e : ℕ) → s ≤ 12 → e ≤ 12 → Without 44 (item s e)
item_without s e hs he = without_both 44 (decimal s ++ 62 ∷ []) (decimal e) (without_both 44 (decimal s) (62 ∷ []) (decimal_without 44 s (omega arith) (omega arith)) (refl, tt)) (decimal_without 44 e (omega arith) (omega arith))

items_without : (s : ℕ) (ends : List ℕ) → s + length ends ≤ 13 → AllByRecursion (λ e. e ≤ 12) ends → AllByRecursion (Without 44) (lines_at s ends)
items_without s [] n h = tt
items_without s (e ∷ es) n h = by (eqb e 0) (items_without (s + 1) es (omega (arith, n)) h.1)
  where
    by : (b : Bool) → AllByRecursion (Without 44) (lines_at (s + 1) es) → AllByRecursion (Without 44) (cond b (lines_at (s + 1) es) (item s e ∷ lines_at (s + 1) es))
    by true r = r
    by false r = (item_without s e (omega (arith, n)) h.0, r)

-- the first byte is a digit
begins_digit : (word : List ℕ) → AreDigits word → 0 < length word → (rest : List ℕ) → word ++ rest ≡ codes "-" → ⊥
begins_digit [] d some rest e = omega arith
begins_digit (c ∷ cs) d some rest e = let same : c ≡ 45 = ap (λ w. get_or w 0 0) e in omega (arith, d.0.0, same)

not_dash : (s e : ℕ) (xs : Words) → s ≤ 12 → with_commas (item s e ∷ xs) ≡ codes "-" → ⊥
not_dash s e xs h same =
    let rest = 62 ∷ decimal e ++ flat_map (λ y. codes "," ++ y) xs in
    let whole : decimal s ++ rest ≡ with_commas (item s e ∷ xs) = simp append_assoc in
    begins_digit (decimal s) (decimal_digits s (omega arith)) (decimal_nonempty s (omega arith)) rest (whole ∙ same)

other : (w key : List ℕ) → (w ≡ key → ⊥) → bytes_eq w key ≡ false
other w key n = by (bytes_eq w key) refl
  where
    by : (b : Bool) → bytes_eq w key ≡ b → b ≡ false
    by true e = absurd (n (same_bytes w key e))
    by false e = refl

-- the items of a flow: none, or a first one of a leg
data Items : Words → Type 0 where
  nothing : Items []
  some : (s e : ℕ) (xs : Words) → s ≤ 12 → Items (item s e ∷ xs)

items_are : (s : ℕ) (ends : List ℕ) → s + length ends ≤ 13 → Items (lines_at s ends)
items_are s [] n = nothing
items_are s (e ∷ es) n = by (eqb e 0) (items_are (s + 1) es (omega (arith, n)))
  where
    by : (b : Bool) → Items (lines_at (s + 1) es) → Items (cond b (lines_at (s + 1) es) (item s e ∷ lines_at (s + 1) es))
    by true r = r
    by false r = some s e (lines_at (s + 1) es) (omega (arith, n))

-- what is read of the items
by_items : (w : Flow) (items : Words) → Items items → AllByRecursion (Without 44) items → ends_from no_ends items ≡ Some w.ends → items_text items ≡ flow_bytes w → flow_of (items_text items) ≡ Some w
unfolding flow_of ends_from
by_items w [] nothing h e same = ap (λ (o : Option (List ℕ)). o >>= λ ends. Some (flow_with ends)) e
by_items w (x ∷ xs) (some s f ys least) h e same =
    let word = with_commas (x ∷ xs) in
    let no_dash = other word (codes "-") (not_dash s f ys least) in
    let parts : slice_split (λ b. eqb b 44) word ≡ x ∷ xs = ap (slice_split (λ b. eqb b 44)) (comma_join x xs) ∙ split_join 44 x xs h.0 h.1 in
    let read : ends_from no_ends (slice_split (λ b. eqb b 44) word) ≡ Some w.ends = ap (ends_from no_ends) parts ∙ e in
    ap (λ b. cond b (Some (flow_with no_ends)) (ends_from no_ends (slice_split (λ b. eqb b 44) word) >>= λ ends. cond (bytes_eq (flow_bytes (flow_with ends)) word) (Some (flow_with ends)) None)) no_dash
    ∙ ap (λ (o : Option (List ℕ)). o >>= λ ends. cond (bytes_eq (flow_bytes (flow_with ends)) word) (Some (flow_with ends)) None) read
    ∙ ap (λ b. cond b (Some w) None) (bytes_same (flow_bytes w) word (sym same))

pub flow_again : (w : Flow) → length w.ends ≡ 12 → AllByRecursion (λ e. e ≤ 12) w.ends → flow_of (flow_bytes w) ≡ Some w
flow_again w n h = by_items w (lines_at 1 w.ends) (items_are 1 w.ends (omega (arith, n))) (items_without 1 w.ends (omega (arith, n)) h) (all_ends w.ends h n) refl
