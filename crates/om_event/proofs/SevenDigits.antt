-- Fewer digits than eight, moved behind zeros.
use Rattle.std.proofs.Common.{mul_assoc, drop, zero, slice_index_or, Fits, w8, ◌≡◌, ℕ, suc, ◌+◌, ◌-◌, ◌*◌, ◌%◌, ◌^◌, ◌≤◌, ◌<◌, List, [], ◌∷◌, length, take, refl, ap, sym, subst, ◌∙◌, arith}
use Rattle.std.proofs.lemmas.Nat.{mul-mod_first, pow-add}
use Rattle.std.proofs.lemmas.List.{length-take-le, take_all}
use Rattle.std.proofs.Math.Nat.{add-mul, mul_comm, pow-succ'}
use Rattle.om_ring.specs.Numerals.{AllDigits, digits_value, digits_value_from}
use Rattle.om_event.specs.Eights.{AreEight, word_of}
use Rattle.om_event.proofs.LeadingNumbers.{rest_of, value_more}
use Rattle.om_event.proofs.EightDigits.{AreBytes, bytes_of, take_bytes, eight_are}

-- what lies above the first bytes of a number
above : (n : ℕ) (bs : List ℕ) → (m : ℕ) × (word_of bs ≡ word_of (take n bs) + 256 ^ n * m)
above zero bs = (word_of bs, omega arith)
above (suc n) [] = (0, omega arith)
above (suc n) (b ∷ bs) =
    let ih = above n bs in
    let scale : 256 ^ suc n ≡ 256 * 256 ^ n = pow-succ' 256 n in
    let same : 256 ^ suc n * ih.0 ≡ 256 * (256 ^ n * ih.0) = ap (λ (p : ℕ). p * ih.0) scale ∙ mul_assoc 256 (256 ^ n) ih.0 in
    (ih.0, omega (arith, ih.1, same))

-- "0" is put in front, and what goes past eight bytes is lost
one_place : (bs : List ℕ) (v : ℕ) → v ≡ (word_of bs + 14974415777481871312) % 18446744073709551616
    → v * 256 % 18446744073709551616 ≡ (word_of (48 ∷ take 7 bs) + 14974415777481871312) % 18446744073709551616
one_place bs v e =
    let top = above 7 bs in
    let split : word_of bs ≡ word_of (take 7 bs) + 72057594037927936 * top.0 = top.1 in
    omega (arith, split, e)

abbrev moved : ℕ → List ℕ → List ℕ
moved zero bs = bs
moved (suc k) bs = moved k (48 ∷ take 7 bs)

places : (k : ℕ) (bs : List ℕ) (v : ℕ) → v ≡ (word_of bs + 14974415777481871312) % 18446744073709551616
    → v * 2 ^ (8 * k) % 18446744073709551616 ≡ (word_of (moved k bs) + 14974415777481871312) % 18446744073709551616
places zero bs v e = omega (arith, e)
places (suc k) bs v e =
    let eight : 8 * suc k ≡ 8 + 8 * k = omega arith in
    let scale : 2 ^ (8 * suc k) ≡ 256 * 2 ^ (8 * k) = ap (λ (m : ℕ). 2 ^ m) eight ∙ pow-add 2 8 (8 * k) in
    let same : v * 2 ^ (8 * suc k) ≡ v * 256 * 2 ^ (8 * k) = ap (λ (p : ℕ). v * p) scale ∙ sym (mul_assoc v 256 (2 ^ (8 * k))) in
    ap (λ (m : ℕ). m % 18446744073709551616) same ∙ sym (mul-mod_first (v * 256) (2 ^ (8 * k)) 18446744073709551616)
    ∙ places k (48 ∷ take 7 bs) (v * 256 % 18446744073709551616) (one_place bs v e)

moved_len : (k : ℕ) (bs : List ℕ) → length bs ≡ 8 → length (moved k bs) ≡ 8
moved_len zero bs l = l
moved_len (suc k) bs l = moved_len k (48 ∷ take 7 bs) (let s = length-take-le 7 bs (omega (arith, l)) in omega (arith, s))

moved_bytes : (k : ℕ) (bs : List ℕ) → AreBytes bs → AreBytes (moved k bs)
moved_bytes zero bs h = h
moved_bytes (suc k) bs h = moved_bytes k (48 ∷ take 7 bs) (omega arith, take_bytes 7 bs h)

take_fewer : (m n : ℕ) (bs : List ℕ) → m ≤ n → take m (take n bs) ≡ take m bs
take_fewer zero n bs l = refl
take_fewer (suc m) zero bs l = absurd (omega (arith, l))
take_fewer (suc m) (suc n) [] l = refl
take_fewer (suc m) (suc n) (b ∷ bs) l = ap (λ (t : List ℕ). b ∷ t) (take_fewer m n bs (omega (arith, l)))

-- behind zeros the digits stay what they were
moved_digits : (m k : ℕ) (bs : List ℕ) → m + k ≡ 8 → length bs ≡ 8 → AllDigits (moved k bs) → AllDigits (take m bs)
moved_digits m zero bs e l d = subst AllDigits (sym (take_all m bs (omega (arith, e, l)))) d
moved_digits m (suc k) bs e l d =
    let s = length-take-le 7 bs (omega (arith, l)) in
    subst AllDigits (take_fewer m 7 bs (omega (arith, e))) (moved_digits (suc m) k (48 ∷ take 7 bs) (omega (arith, e)) (omega (arith, s)) d).1

moved_value : (m k : ℕ) (bs : List ℕ) → m + k ≡ 8 → length bs ≡ 8 → digits_value (moved k bs) ≡ digits_value (take m bs)
moved_value m zero bs e l = ap digits_value (sym (take_all m bs (omega (arith, e, l))))
moved_value m (suc k) bs e l =
    let s = length-take-le 7 bs (omega (arith, l)) in
    moved_value (suc m) k (48 ∷ take 7 bs) (omega (arith, e)) (omega (arith, s)) ∙ ap digits_value (take_fewer m 7 bs (omega (arith, e)))

-- a text whose first eight bytes, moved so that `count` of them are left, are the values of digits
pub seven_read : (text : List ℕ) → ((i : ℕ) → Fits w8 (slice_index_or text i 0)) → (w n count : ℕ) → 8 ≤ length text → w ≡ word_of (take 8 text) → count ≤ 7
    → AreEight ((w + 14974415777481871312) % 18446744073709551616 * 256 % 18446744073709551616 * 2 ^ (56 - 8 * count) % 18446744073709551616) n
    → AllDigits (take count text) × (n ≡ digits_value (take count text)) × (n < 100000000)
seven_read text bytes w n count l e few h =
    let front : List ℕ = take 8 text in
    let size : length front ≡ 8 = length-take-le 8 text l in
    let k : ℕ = 7 - count in
    let eight : count + suc k ≡ 8 = omega (arith, few) in
    let shift : 56 - 8 * count ≡ 8 * k = omega (arith, few) in
    let v : ℕ = (w + 14974415777481871312) % 18446744073709551616 in
    let one = one_place front v (ap (λ (m : ℕ). (m + 14974415777481871312) % 18446744073709551616) e) in
    let all = ap (λ (m : ℕ). v * 256 % 18446744073709551616 * 2 ^ m % 18446744073709551616) shift ∙ places k (48 ∷ take 7 front) (v * 256 % 18446744073709551616) one in
    let are = eight_are (moved (suc k) front) (v * 256 % 18446744073709551616 * 2 ^ (56 - 8 * count) % 18446744073709551616) n (moved_len (suc k) front size) (moved_bytes (suc k) front (take_bytes 8 text (bytes_of text bytes))) all h in
    let same = take_fewer count 8 text (omega (arith, few)) in
    (subst AllDigits same (moved_digits count (suc k) front eight size are.0), are.1 ∙ moved_value count (suc k) front eight size ∙ ap digits_value same, are.2)

-- the number of the digits in front, and that of the digits behind them
value_behind : (n : ℕ) (ds : List ℕ) → digits_value_from n ds ≡ n * 10 ^ length ds + digits_value ds
value_behind n [] = omega arith
value_behind n (d ∷ ds) =
    let p : ℕ = 10 ^ length ds in
    let x : ℕ = d - 48 in
    let a : digits_value_from (10 * n + x) ds ≡ (10 * n + x) * p + digits_value ds = value_behind (10 * n + x) ds in
    let b : digits_value_from (10 * 0 + x) ds ≡ (10 * 0 + x) * p + digits_value ds = value_behind (10 * 0 + x) ds in
    let plain : 10 * 0 + x ≡ x = omega arith in
    let q : (10 * n + x) * p ≡ 10 * n * p + x * p = add-mul (10 * n) x p in
    let r : (10 * 0 + x) * p ≡ x * p = ap (λ (m : ℕ). m * p) plain in
    let s : n * 10 ^ length (d ∷ ds) ≡ 10 * n * p = ap (λ (m : ℕ). n * m) (pow-succ' 10 (length ds)) ∙ sym (mul_assoc n 10 p) ∙ ap (λ (m : ℕ). m * p) (mul_comm n 10) in
    let parts : (10 * n + x) * p + digits_value ds ≡ n * 10 ^ length (d ∷ ds) + ((10 * 0 + x) * p + digits_value ds) = omega (arith, q, r, s) in
    a ∙ parts ∙ ap (λ (m : ℕ). n * 10 ^ length (d ∷ ds) + m) (sym b)

-- eight digits, and fewer behind them
pub fifteen_value : (text : List ℕ) (first ten second len : ℕ) → first ≡ digits_value (take 8 text) → ten ≡ 10 ^ len → second ≡ digits_value (take len (take (length text - 8) (drop 8 text)))
    → len ≤ 7 → 8 ≤ length (take (length text - 8) (drop 8 text)) → first * ten + second ≡ digits_value (take (8 + len) text)
fifteen_value text first ten second len e f g few more =
    let ds : List ℕ = take len (drop 8 text) in
    let all = ap length (rest_of text 8) in
    let size : length ds ≡ len = length-take-le len (drop 8 text) (omega (arith, all, few, more)) in
    let high : first * ten ≡ digits_value (take 8 text) * 10 ^ length ds = ap (λ (m : ℕ). m * ten) e ∙ ap (λ (m : ℕ). digits_value (take 8 text) * m) (f ∙ ap (λ (m : ℕ). 10 ^ m) (sym size)) in
    let low : second ≡ digits_value ds = g ∙ ap (λ (t : List ℕ). digits_value (take len t)) (rest_of text 8) in
    ap (λ (m : ℕ). m + second) high ∙ ap (λ (m : ℕ). digits_value (take 8 text) * 10 ^ length ds + m) low
    ∙ sym (value_behind (digits_value (take 8 text)) ds) ∙ sym (value_more text 8 len)
