-- How long words and lines are.
use Rattle.std.proofs.Common.{◌≡◌, ℕ, ◌+◌, ◌-◌, ◌*◌, ◌<◌, ◌≤◌, ◌^◌, List, [], ◌∷◌, ◌++◌, length, map, Bool, true, false, cond, eqb, ⊎_elim, refl, arith}
use Rattle.std.specs.Prelude.{flat_map, decimal, codes}
use Rattle.std.specs.List.{AllByRecursion, join_with_byte}
use Rattle.std.proofs.lemmas.Bool.{cases_lt}
use Rattle.std.proofs.lemmas.Fmt.{length-decimal-le}
use Rattle.std.proofs.lemmas.List.{length-append}
use Rattle.om_io.specs.Lines.{Words, line_text, lines_text}
use Rattle.om_ring.specs.declared.numeral.Numeral.{Numeral}
use Rattle.om_ring.specs.Numerals.{NumeralFits, mark_text, numeral_text, shown_den, sign_text}
use Rattle.om_colour.specs.declared.Flow.{Flow}
use Rattle.om_colour.specs.declared.texts.Extent.TheVariants.{Diagram}
use Rattle.om_colour.specs.Texts.{flow_bytes, items_text, line_item, line_items}
use Rattle.om_program_text.specs.Words.{product_word}

-- the bytes of some words, and one more for each
abbrev pub words_len : Words → ℕ
words_len [] = 0
words_len (w ∷ ws) = length w + 1 + words_len ws

join_len : (c : ℕ) (w : List ℕ) (ws : Words) → length (join_with_byte c (w ∷ ws)) + 1 ≡ words_len (w ∷ ws)
join_len c w [] = omega arith
join_len c w (v ∷ ws) = let e = length-append w (c ∷ join_with_byte c (v ∷ ws)) in let r = join_len c v ws in omega (arith, e, r)

pub line_len : (w : List ℕ) (ws : Words) → length (line_text (w ∷ ws)) ≡ words_len (w ∷ ws)
line_len w ws = let e = length-append (join_with_byte 32 (w ∷ ws)) (10 ∷ []) in let r = join_len 32 w ws in omega (arith, e, r)

pub lines_append : (xs ys : List Words) → length (lines_text (xs ++ ys)) ≡ length (lines_text xs) + length (lines_text ys)
lines_append [] ys = omega arith
lines_append (x ∷ xs) ys =
    let a = length-append (line_text x) (lines_text (xs ++ ys)) in let b = length-append (line_text x) (lines_text xs) in let r = lines_append xs ys in omega (arith, a, b, r)

pub lines_more : (x : Words) (xs : List Words) → length (lines_text (x ∷ xs)) ≡ length (line_text x) + length (lines_text xs)
lines_more x xs = length-append (line_text x) (lines_text xs)

-- lines of at most so many bytes each
pub lines_within : {A : Type 0} (k : ℕ) (f : A → Words) (P : A → Type 0) → ((x : A) → P x → length (line_text (f x)) ≤ k) → (xs : List A) → AllByRecursion P xs → length (lines_text (map f xs)) ≤ k * length xs
lines_within k f P short [] h = omega arith
lines_within k f P short (x ∷ xs) h =
    let a = lines_more (f x) (map f xs) in let s = short x h.0 in let r = lines_within k f P short xs h.1 in omega (arith, a, s, r)

-- words of at most so many bytes each
pub words_within : {A : Type 0} (k : ℕ) (f : A → List ℕ) (P : A → Type 0) → ((x : A) → P x → length (f x) ≤ k) → (xs : List A) → AllByRecursion P xs → words_len (map f xs) ≤ (k + 1) * length xs
words_within k f P short [] h = omega arith
words_within k f P short (x ∷ xs) h = let s = short x h.0 in let r = words_within k f P short xs h.1 in omega (arith, s, r)

pub words_append : (xs ys : Words) → words_len (xs ++ ys) ≡ words_len xs + words_len ys
words_append [] ys = omega arith
words_append (x ∷ xs) ys = let r = words_append xs ys in omega (arith, r)

-- a numeral has at most 43 bytes
sign_short : (b : Bool) → length (sign_text b) ≤ 1
sign_short true = omega arith
sign_short false = omega arith

mark_short : (b : Bool) → length (mark_text b) ≤ 1
mark_short true = omega arith
mark_short false = omega arith

wide : (n : ℕ) → n < 2 ^ 64 → length (decimal n) ≤ 20
wide n l = length-decimal-le 20 n (omega arith) (omega (arith, l)) l

den_short : (d : ℕ) → d < 2 ^ 64 → length (shown_den d) ≤ 21
den_short d l = by (eqb d 1) (wide d l)
  where
    by : (b : Bool) → length (decimal d) ≤ 20 → length (cond b [] (47 ∷ decimal d)) ≤ 21
    by true h = omega arith
    by false h = omega (arith, h)

numeral_short : (x : Numeral) → NumeralFits x → length (numeral_text x) ≤ 43
numeral_short x h =
    let a = length-append (sign_text x.neg) (decimal x.num ++ (shown_den x.den ++ mark_text x.imag)) in
    let b = length-append (decimal x.num) (shown_den x.den ++ mark_text x.imag) in
    let c = length-append (shown_den x.den) (mark_text x.imag) in
    omega (arith, a, b, c, sign_short x.neg, wide x.num h.0, den_short x.den h.1, mark_short x.imag)

-- a product of 8 numerals has at most 352 bytes
pub join_short : (c : ℕ) (ws : Words) → length (join_with_byte c ws) ≤ words_len ws
join_short c [] = omega arith
join_short c (w ∷ ws) = let e = join_len c w ws in omega (arith, e)

pub product_short : (p : List Numeral) → length p ≤ 8 → AllByRecursion NumeralFits p → length (product_word p) ≤ 352
product_short p few h =
    let a = join_short 42 (map numeral_text p) in
    let b = words_within 43 numeral_text NumeralFits numeral_short p h in
    omega (arith, a, b, few)

-- the items of a flow
abbrev items_len : List (List ℕ) → ℕ
items_len [] = 0
items_len (x ∷ xs) = length x + 1 + items_len xs

commas_len : (ys : List (List ℕ)) → length (flat_map (λ y. codes "," ++ y) ys) ≡ items_len ys
commas_len [] = refl
commas_len (y ∷ ys) = let e = length-append (codes "," ++ y) (flat_map (λ y. codes "," ++ y) ys) in let r = commas_len ys in omega (arith, e, r)

items_short : (items : List (List ℕ)) → length (items_text items) ≤ items_len items + 1
items_short [] = omega arith
items_short (x ∷ xs) = let e = length-append x (flat_map (λ y. codes "," ++ y) xs) in let r = commas_len xs in omega (arith, e, r)

item_len : (k s e : ℕ) → 0 < k → s < 10 ^ k → s < 100 → e ≤ 12 → length (line_item Diagram s e) ≤ k + 3
item_len k s e some l small few =
    let a = length-append (decimal s ++ codes ">") (decimal e) in
    let c = length-append (decimal s) (codes ">") in
    let b = length-decimal-le k s some l (omega (arith, small)) in
    let d = length-decimal-le 2 e (omega arith) (omega (arith, few)) (omega (arith, few)) in
    omega (arith, a, b, c, d)

item_more : (s e k : ℕ) (later : List (List ℕ)) → length (line_item Diagram s e) ≤ k → items_len (cond (eqb e 0) later (line_item Diagram s e ∷ later)) ≤ items_len later + k + 1
item_more s e k later h = by (eqb e 0)
  where
    by : (b : Bool) → items_len (cond b later (line_item Diagram s e ∷ later)) ≤ items_len later + k + 1
    by true = omega arith
    by false = omega (arith, h)

all_items : (s : ℕ) (es : List ℕ) → AllByRecursion (λ e. e ≤ 12) es → s + length es ≤ 100 → items_len (line_items Diagram s es) ≤ 6 * length es
all_items s [] h l = omega arith
all_items s (e ∷ es) h l =
    let r = all_items (s + 1) es h.1 (omega (arith, l)) in
    let i = item_more s e 5 (line_items Diagram (s + 1) es) (item_len 2 s e (omega arith) (omega (arith, l)) (omega (arith, l)) h.0) in
    omega (arith, r, i)

first_items : (s : ℕ) (es : List ℕ) → AllByRecursion (λ e. e ≤ 12) es → s + length es ≤ 100 → s ≤ 10 → 10 ≤ s + length es → items_len (line_items Diagram s es) + (10 - s) ≤ 6 * length es
first_items s [] h l low high = omega (arith, low, high)
first_items s (e ∷ es) h l low high =
    ⊎_elim
    (λ (small : s < 10).
    let r = first_items (s + 1) es h.1 (omega (arith, l)) (omega (arith, small)) (omega (arith, high)) in
    let i = item_more s e 4 (line_items Diagram (s + 1) es) (item_len 1 s e (omega arith) (omega (arith, small)) (omega (arith, small)) h.0) in
    omega (arith, r, i, small))
    (λ (large : 10 ≤ s). let r = all_items s (e ∷ es) h l in omega (arith, r, large))
    (cases_lt s 10)

pub flow_short : (w : Flow) → length w.ends ≡ 12 → AllByRecursion (λ e. e ≤ 12) w.ends → length (flow_bytes w) ≤ 64
flow_short w twelve h =
    let a = items_short (line_items Diagram 1 w.ends) in
    let b = first_items 1 w.ends h (omega (arith, twelve)) (omega arith) (omega (arith, twelve)) in
    omega (arith, a, b, twelve)
