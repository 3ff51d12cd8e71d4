-- All words of a program text are visible.
use Rattle.std.proofs.Common.{◌≡◌, ℕ, zero, suc, ◌+◌, ◌-◌, ◌^◌, ◌<◌, ◌≤◌, eqb, leb, Bool, true, false, cond, ◌&&◌, List, [], ◌∷◌, ◌++◌, length, map, flat_map, filter, take, codes, decimal, refl, arith}
use Rattle.std.specs.List.{AllByRecursion, join_with_byte, list_all, range_with_len}
use Rattle.std.proofs.lemmas.Bool.Decides.{nat_tests}
use Rattle.om_ring.specs.declared.numeral.Numeral.{Numeral}
use Rattle.om_ring.specs.Numerals.{numeral_text, sign_text, shown_den, mark_text}
use Rattle.om_lorentz.specs.declared.structures.Spin.{Spin}
use Rattle.om_lorentz.specs.declared.structures.Spin.TheVariants.{Scalar, Dirac, Vector}
use Rattle.om_lorentz.specs.declared.structures.Structure.{Structure}
use Rattle.om_lorentz.specs.declared.structures.Structure.TheVariants.{Sss, Ssss, Vss, Vvs, Vvss, Ffs, Ffv, Vvv, Vvvv, Gluon4}
use Rattle.om_colour.specs.declared.Colour.{Colour}
use Rattle.om_colour.specs.declared.Colour.TheVariants.{One, Three, AntiThree, Eight}
use Rattle.om_colour.specs.declared.Flow.{Flow}
use Rattle.om_colour.specs.Texts.{flow_bytes, items_text, line_items}
use Rattle.om_colour.specs.declared.texts.Extent.TheVariants.{Diagram}
use Rattle.om_model.specs.Name.{is_name, is_name_byte}
use Rattle.om_io.specs.Lines.{Words}
use Rattle.om_model.specs.TermText.{place_word, sign_word}
use Rattle.om_program_text.specs.Words.{product_word}
use Rattle.om_model.specs.LegSetText.{leg_set_word}
use Rattle.om_model.specs.Words.{spin_word, structure_word, colour_word}
use Rattle.om_ring.specs.Numerals.{NumeralFits}
use Rattle.om_legs.specs.Legs.{legs_of, every_leg, holds}
use Rattle.om_asm.proofs.Visible.{IsVisible, visible_append, decimal_visible}

at_least : (b : ℕ) → leb 33 b ≡ true → 33 ≤ b
at_least b h = grind (arith, nat_tests)

both_true : (a b : Bool) → (a && b) ≡ true → (a ≡ true) × (b ≡ true)
both_true true b e = (refl, e)
both_true false b e = cc

-- a text of which a test says that it is visible
pub seen : (w : List ℕ) → list_all (leb 33) w ≡ true → IsVisible w
seen [] e = tt
seen (b ∷ bs) e = let h = both_true (leb 33 b) (list_all (leb 33) bs) e in (at_least b h.0, seen bs h.1)

name_byte : (b : ℕ) → is_name_byte b ≡ true → 33 ≤ b
name_byte b e = by (leb 33 b) refl
  where
    by : (t : Bool) → leb 33 b ≡ t → 33 ≤ b
    by true h = at_least b h
    by false h = let low : b < 33 = grind (arith, nat_tests) in absurd (grind (arith, nat_tests))

name_bytes : (w : List ℕ) → list_all is_name_byte w ≡ true → IsVisible w
name_bytes [] e = tt
name_bytes (b ∷ bs) e = let h = both_true (is_name_byte b) (list_all is_name_byte bs) e in (name_byte b h.0, name_bytes bs h.1)

pub name_visible : (w : List ℕ) → is_name w ≡ true → IsVisible w
name_visible w e = name_bytes w (both_true _ (list_all is_name_byte w) e).1

pub spin_visible : (s : Spin) → IsVisible (spin_word s)
spin_visible Scalar = seen (codes "scalar") refl
spin_visible Dirac = seen (codes "dirac") refl
spin_visible Vector = seen (codes "vector") refl

pub structure_visible : (s : Structure) → IsVisible (structure_word s)
structure_visible Sss = seen (codes "sss") refl
structure_visible Ssss = seen (codes "ssss") refl
structure_visible Vss = seen (codes "vss") refl
structure_visible Vvs = seen (codes "vvs") refl
structure_visible Vvss = seen (codes "vvss") refl
structure_visible Ffs = seen (codes "ffs") refl
structure_visible Ffv = seen (codes "ffv") refl
structure_visible Vvv = seen (codes "vvv") refl
structure_visible Vvvv = seen (codes "vvvv") refl
structure_visible Gluon4 = seen (codes "gluon4") refl

pub colour_visible : (c : Colour) → IsVisible (colour_word c)
colour_visible One = seen (codes "1") refl
colour_visible Three = seen (codes "3") refl
colour_visible AntiThree = seen (codes "-3") refl
colour_visible Eight = seen (codes "8") refl

pub sign_visible : (b : Bool) → IsVisible (sign_word b)
sign_visible true = seen (codes "-") refl
sign_visible false = seen (codes "+") refl

pub join_visible : (c : ℕ) (words : Words) → 33 ≤ c → AllByRecursion IsVisible words → IsVisible (join_with_byte c words)
join_visible c [] h v = tt
join_visible c (w ∷ []) h v = v.0
join_visible c (w ∷ x ∷ xs) h v = visible_append w (c ∷ join_with_byte c (x ∷ xs)) v.0 (h, join_visible c (x ∷ xs) h v.1)

minus_visible : (b : Bool) → IsVisible (sign_text b)
minus_visible true = seen (45 ∷ []) refl
minus_visible false = tt

mark_visible : (b : Bool) → IsVisible (mark_text b)
mark_visible true = seen (105 ∷ []) refl
mark_visible false = tt

den_visible : (d : ℕ) → d < 2 ^ 64 → IsVisible (shown_den d)
den_visible d h = by (eqb d 1)
  where
    by : (b : Bool) → IsVisible (cond b [] (47 ∷ decimal d))
    by true = tt
    by false = (omega arith, decimal_visible d h)

numeral_visible : (x : Numeral) → NumeralFits x → IsVisible (numeral_text x)
numeral_visible x h =
    visible_append (sign_text x.neg) (decimal x.num ++ (shown_den x.den ++ mark_text x.imag)) (minus_visible x.neg)
    (visible_append (decimal x.num) (shown_den x.den ++ mark_text x.imag) (decimal_visible x.num h.0)
    (visible_append (shown_den x.den) (mark_text x.imag) (den_visible x.den h.1) (mark_visible x.imag)))

numerals_visible : (xs : List Numeral) → AllByRecursion NumeralFits xs → AllByRecursion IsVisible (map numeral_text xs)
numerals_visible [] h = tt
numerals_visible (x ∷ xs) h = (numeral_visible x h.0, numerals_visible xs h.1)

pub product_visible : (p : List Numeral) → AllByRecursion NumeralFits p → IsVisible (product_word p)
product_visible p h = join_visible 42 (map numeral_text p) (omega arith) (numerals_visible p h)

decimals_visible : (ns : List ℕ) → AllByRecursion (λ n. n < 2 ^ 64) ns → AllByRecursion IsVisible (map decimal ns)
decimals_visible [] h = tt
decimals_visible (n ∷ ns) h = (decimal_visible n h.0, decimals_visible ns h.1)

small_legs : (p : ℕ → Bool) (ls : List ℕ) → AllByRecursion (λ n. n < 2 ^ 64) ls → AllByRecursion (λ n. n < 2 ^ 64) (filter p ls)
small_legs p [] h = tt
small_legs p (l ∷ ls) h = by (p l) (small_legs p ls h.1)
  where
    by : (b : Bool) → AllByRecursion (λ n. n < 2 ^ 64) (filter p ls) → AllByRecursion (λ n. n < 2 ^ 64) (cond b (l ∷ filter p ls) (filter p ls))
    by true r = (h.0, r)
    by false r = r

range_small : (a n : ℕ) → a + n ≤ 100 → AllByRecursion (λ k. k < 2 ^ 64) (range_with_len a n)
range_small a zero h = tt
range_small a (suc n) h = (omega (arith, h), range_small (a + 1) n (omega (arith, h)))

legs_small : (set : ℕ) → AllByRecursion (λ n. n < 2 ^ 64) (legs_of set)
unfolding legs_of
legs_small set = small_legs (holds set) every_leg (range_small 1 12 (omega arith))

pub set_visible : (set : ℕ) → IsVisible (leg_set_word set)
set_visible set = join_visible 43 (map decimal (legs_of set)) (omega arith) (decimals_visible (legs_of set) (legs_small set))

commas_visible : (xs : Words) → AllByRecursion IsVisible xs → IsVisible (flat_map (λ y. codes "," ++ y) xs)
commas_visible [] h = tt
commas_visible (x ∷ xs) h = visible_append (44 ∷ x) (flat_map (λ y. codes "," ++ y) xs) (omega arith, h.0) (commas_visible xs h.1)

items_visible : (xs : Words) → AllByRecursion IsVisible xs → IsVisible (items_text xs)
items_visible [] h = seen (codes "-") refl
items_visible (x ∷ xs) h = visible_append x (flat_map (λ y. codes "," ++ y) xs) h.0 (commas_visible xs h.1)

lines_visible : (s : ℕ) (ends : List ℕ) → s + length ends ≤ 100 → AllByRecursion (λ e. e ≤ 12) ends → AllByRecursion IsVisible (line_items Diagram s ends)
lines_visible s [] n h = tt
lines_visible s (e ∷ es) n h = by (eqb e 0) (lines_visible (s + 1) es (omega (arith, n)) h.1)
  where
    one : IsVisible (decimal s ++ codes ">" ++ decimal e)
    one = visible_append (decimal s ++ codes ">") (decimal e) (visible_append (decimal s) (codes ">") (decimal_visible s (omega (arith, n))) (seen (codes ">") refl)) (decimal_visible e (omega (arith, h.0)))

    by : (b : Bool) → AllByRecursion IsVisible (line_items Diagram (s + 1) es) → AllByRecursion IsVisible (cond b (line_items Diagram (s + 1) es) ((decimal s ++ codes ">" ++ decimal e) ∷ line_items Diagram (s + 1) es))
    by true r = r
    by false r = (one, r)

pub flow_visible : (w : Flow) → length w.ends ≡ 12 → AllByRecursion (λ e. e ≤ 12) w.ends → IsVisible (flow_bytes w)
flow_visible w n h = items_visible (line_items Diagram 1 w.ends) (lines_visible 1 w.ends (omega (arith, n)) h)

pub place_visible : (k : ℕ) → k < 2 ^ 32 → IsVisible (place_word k)
place_visible k h = decimal_visible (k + 1) (omega arith)

pub places_visible : (n : ℕ) (ks : List ℕ) → AllByRecursion (λ k. k < 2 ^ 32 - 1) ks → AllByRecursion IsVisible (map place_word (take n ks))
places_visible zero ks h = tt
places_visible (suc n) [] h = tt
places_visible (suc n) (k ∷ ks) h = (place_visible k (omega (arith, h.0)), places_visible n ks h.1)
