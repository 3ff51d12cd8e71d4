-- Eight digits as one number.
use Rattle.std.proofs.Common.{subst, mul_assoc, zero, slice_index_or, Fits, w8, ◌≡◌, ℕ, suc, ◌+◌, ◌-◌, ◌*◌, ◌/◌, ◌%◌, ◌^◌, ◌≤◌, ◌<◌, List, [], ◌∷◌, length, take, refl, ap, sym, ◌∙◌, arith}
use Rattle.std.specs.Int.Bits.{bit_and}
use Rattle.std.proofs.lemmas.Nat.{and_block, and_le_l, and_mask, mul-le}
use Rattle.std.proofs.lemmas.List.{length-take-le}
use Rattle.std.proofs.Math.Nat.{pow-succ'}
use Rattle.std.proofs.lemmas.Nat.Bits.{and_high}
use Rattle.om_ring.specs.Numerals.{AllDigits, digits_value, digits_value_from}
use Rattle.om_event.specs.Eights.{AreEight, word_of}

-- the lowest byte of a test of bits, and the bytes above it
peel : (x a y m r : ℕ) → a < 256 → m < 256 → bit_and (x * 256 + a) (y * 256 + m) ≡ r → (bit_and a m ≡ r % 256) × (bit_and x y ≡ r / 256)
peel x a y m r p q e =
    let block = and_block 8 x y a m p q in
    let low = and_le_l a m in
    (omega (arith, block, low, p, e), omega (arith, block, low, p, e))

-- a byte without its highest bit
lower : (a : ℕ) → a < 256 → bit_and a 128 ≡ 0 → a ≤ 127
lower a p e = let h = and_high a 1 7 in omega (arith, h, p, e)

-- eight bytes as a number, the first the lowest
abbrev word : ℕ → ℕ → ℕ → ℕ → ℕ → ℕ → ℕ → ℕ → ℕ
word a b c d e f g h = ((((((h * 256 + g) * 256 + f) * 256 + e) * 256 + d) * 256 + c) * 256 + b) * 256 + a

-- each of them is at most so much
record Below (most a₀ b₀ c₀ d₀ e₀ f₀ g₀ h₀ : ℕ) : Type 0 where
  a : a₀ ≤ most
  b : b₀ ≤ most
  c : c₀ ≤ most
  d : d₀ ≤ most
  e : e₀ ≤ most
  f : f₀ ≤ most
  g : g₀ ≤ most
  h : h₀ ≤ most

-- no highest bit is set
all_lower : (a b c d e f g h : ℕ) → Below 255 a b c d e f g h → bit_and (word a b c d e f g h) 9259542123273814144 ≡ 0 → Below 127 a b c d e f g h
all_lower a b c d e f g h w t =
    let p1 = peel (((((((h * 256 + g) * 256 + f) * 256 + e) * 256 + d) * 256 + c) * 256 + b)) a 36170086419038336 128 0 (omega (arith, w.a)) (omega arith) t in
    let p2 = peel ((((((h * 256 + g) * 256 + f) * 256 + e) * 256 + d) * 256 + c)) b 141289400074368 128 0 (omega (arith, w.b)) (omega arith) p1.1 in
    let p3 = peel (((((h * 256 + g) * 256 + f) * 256 + e) * 256 + d)) c 551911719040 128 0 (omega (arith, w.c)) (omega arith) p2.1 in
    let p4 = peel ((((h * 256 + g) * 256 + f) * 256 + e)) d 2155905152 128 0 (omega (arith, w.d)) (omega arith) p3.1 in
    let p5 = peel (((h * 256 + g) * 256 + f)) e 8421504 128 0 (omega (arith, w.e)) (omega arith) p4.1 in
    let p6 = peel ((h * 256 + g)) f 32896 128 0 (omega (arith, w.f)) (omega arith) p5.1 in
    let p7 = peel h g 128 128 0 (omega (arith, w.g)) (omega arith) p6.1 in
    record {
      a = lower a (omega (arith, w.a)) p1.0;
      b = lower b (omega (arith, w.b)) p2.0;
      c = lower c (omega (arith, w.c)) p3.0;
      d = lower d (omega (arith, w.d)) p4.0;
      e = lower e (omega (arith, w.e)) p5.0;
      f = lower f (omega (arith, w.f)) p6.0;
      g = lower g (omega (arith, w.g)) p7.0;
      h = lower h (omega (arith, w.h)) p7.1;
    }

behind_nine : (a b c d e f g h : ℕ) → word a b c d e f g h + 8536140394893047414 ≡ word (a + 118) (b + 118) (c + 118) (d + 118) (e + 118) (f + 118) (g + 118) (h + 118)
behind_nine a b c d e f g h = omega arith

-- all are values of digits
all_nine : (a b c d e f g h : ℕ) → Below 127 a b c d e f g h → bit_and (word a b c d e f g h + 8536140394893047414) 9259542123273814144 ≡ 0 → Below 9 a b c d e f g h
all_nine a b c d e f g h w t =
    let v : Below 255 (a + 118) (b + 118) (c + 118) (d + 118) (e + 118) (f + 118) (g + 118) (h + 118) = record {
      a = omega (arith, w.a);
      b = omega (arith, w.b);
      c = omega (arith, w.c);
      d = omega (arith, w.d);
      e = omega (arith, w.e);
      f = omega (arith, w.f);
      g = omega (arith, w.g);
      h = omega (arith, w.h);
    } in
    let u = all_lower (a + 118) (b + 118) (c + 118) (d + 118) (e + 118) (f + 118) (g + 118) (h + 118) v (ap (λ (n : ℕ). bit_and n 9259542123273814144) (sym (behind_nine a b c d e f g h)) ∙ t) in
    record {
      a = omega (arith, u.a);
      b = omega (arith, u.b);
      c = omega (arith, u.c);
      d = omega (arith, u.d);
      e = omega (arith, u.e);
      f = omega (arith, u.f);
      g = omega (arith, u.g);
      h = omega (arith, u.h);
    }

-- two digits at each byte
pairs : (a b c d e f g h : ℕ) → a ≤ 9 → word a b c d e f g h * 10 + word a b c d e f g h / 256
    ≡ word (10 * a + b) (10 * b + c) (10 * c + d) (10 * d + e) (10 * e + f) (10 * f + g) (10 * g + h) (10 * h)
pairs a b c d e f g h p =
    let above : word a b c d e f g h / 256 ≡ (((((h * 256 + g) * 256 + f) * 256 + e) * 256 + d) * 256 + c) * 256 + b = omega (arith, p) in
    rw above (omega arith)

-- of two bytes the lower is kept
keep_byte : (x y a b : ℕ) → a ≤ 255 → b ≤ 255 → bit_and ((x * 256 + b) * 256 + a) (y * 65536 + 255) ≡ bit_and x y * 65536 + a
keep_byte x y a b p q =
    let same : (x * 256 + b) * 256 + a ≡ x * 65536 + (b * 256 + a) = omega arith in
    let block = and_block 16 x y (b * 256 + a) 255 (omega (arith, p, q)) (omega arith) in
    let low : bit_and (b * 256 + a) 255 ≡ a = and_mask (b * 256 + a) 8 ∙ omega (arith, p) in
    ap (λ (n : ℕ). bit_and n (y * 65536 + 255)) same ∙ block ∙ ap (λ (n : ℕ). bit_and x y * 65536 + n) low

-- every second byte is kept
second_bytes : (a b c d e f g h : ℕ) → Below 255 a b c d e f g h → bit_and (word a b c d e f g h) 71777214294589695 ≡ ((g * 65536 + e) * 65536 + c) * 65536 + a
second_bytes a b c d e f g h w =
    let k1 = keep_byte ((((((h * 256 + g) * 256 + f) * 256 + e) * 256 + d) * 256 + c)) 1095233372415 a b w.a w.b in
    let k2 = keep_byte ((((h * 256 + g) * 256 + f) * 256 + e)) 16711935 c d w.c w.d in
    let k3 = keep_byte ((h * 256 + g)) 255 e f w.e w.f in
    let k4 : bit_and (h * 256 + g) 255 ≡ g = and_mask (h * 256 + g) 8 ∙ omega (arith, w.g) in
    k1 ∙ ap (λ (n : ℕ). n * 65536 + a) (k2 ∙ ap (λ (n : ℕ). n * 65536 + c) (k3 ∙ ap (λ (n : ℕ). n * 65536 + e) k4))

-- every second pair of bytes is kept
second_pairs : (a b c d : ℕ) → a < 65536 → b < 65536 → c < 65536 → d < 65536 → bit_and (((d * 65536 + c) * 65536 + b) * 65536 + a) 281470681808895 ≡ c * 4294967296 + a
second_pairs a b c d p q r s =
    let same : ((d * 65536 + c) * 65536 + b) * 65536 + a ≡ (d * 65536 + c) * 4294967296 + (b * 65536 + a) = omega arith in
    let block = and_block 32 (d * 65536 + c) 65535 (b * 65536 + a) 65535 (omega (arith, p, q)) (omega arith) in
    let low : bit_and (b * 65536 + a) 65535 ≡ a = and_mask (b * 65536 + a) 16 ∙ omega (arith, p) in
    let high : bit_and (d * 65536 + c) 65535 ≡ c = and_mask (d * 65536 + c) 16 ∙ omega (arith, r) in
    ap (λ (n : ℕ). bit_and n 281470681808895) same ∙ block ∙ rw (low, high) refl

-- four digits at each second pair
fours : (a c e g : ℕ) → a ≤ 99 → c ≤ 99 → e ≤ 99 → g ≤ 99
    → (((g * 65536 + e) * 65536 + c) * 65536 + a) * 100 + (((g * 65536 + e) * 65536 + c) * 65536 + a) / 65536
    ≡ ((100 * g * 65536 + (100 * e + g)) * 65536 + (100 * c + e)) * 65536 + (100 * a + c)
fours a c e g p q r s =
    let above : (((g * 65536 + e) * 65536 + c) * 65536 + a) / 65536 ≡ (g * 65536 + e) * 65536 + c = omega (arith, p) in
    rw above (omega arith)

-- eight digits
eights : (x y : ℕ) → x ≤ 9999 → y ≤ 9999 → ((y * 4294967296 + x) * 10000 + (y * 4294967296 + x) / 4294967296) % 4294967296 ≡ 10000 * x + y
eights x y p q =
    let above : (y * 4294967296 + x) / 4294967296 ≡ y = omega (arith, p) in
    rw above (omega (arith, p, q))

-- the number of the values of eight digits
abbrev joined : ℕ → ℕ
joined w =
    let two = bit_and (w * 10 + w / 256) 71777214294589695 in
    let four = bit_and (two * 100 + two / 65536) 281470681808895 in
    (four * 10000 + four / 4294967296) % 4294967296

joined_is : (a b c d e f g h : ℕ) → Below 9 a b c d e f g h → joined (word a b c d e f g h)
    ≡ 10000 * (100 * (10 * a + b) + (10 * c + d)) + (100 * (10 * e + f) + (10 * g + h))
joined_is a b c d e f g h w =
    let v : Below 255 (10 * a + b) (10 * b + c) (10 * c + d) (10 * d + e) (10 * e + f) (10 * f + g) (10 * g + h) (10 * h) = record {
      a = omega (arith, w.a, w.b);
      b = omega (arith, w.b, w.c);
      c = omega (arith, w.c, w.d);
      d = omega (arith, w.d, w.e);
      e = omega (arith, w.e, w.f);
      f = omega (arith, w.f, w.g);
      g = omega (arith, w.g, w.h);
      h = omega (arith, w.h);
    } in
    let p : 10 * a + b ≤ 99 = omega (arith, w.a, w.b) in
    let q : 10 * c + d ≤ 99 = omega (arith, w.c, w.d) in
    let r : 10 * e + f ≤ 99 = omega (arith, w.e, w.f) in
    let s : 10 * g + h ≤ 99 = omega (arith, w.g, w.h) in
    let two = ap (λ (n : ℕ). bit_and n 71777214294589695) (pairs a b c d e f g h w.a) ∙ second_bytes _ _ _ _ _ _ _ _ v in
    let four = ap (λ (n : ℕ). bit_and (n * 100 + n / 65536) 281470681808895) two ∙ ap (λ (n : ℕ). bit_and n 281470681808895) (fours _ _ _ _ p q r s)
    ∙ second_pairs _ _ _ _ (omega (arith, p, q)) (omega (arith, q, r)) (omega (arith, r, s)) (omega (arith, s)) in
    ap (λ (n : ℕ). (n * 10000 + n / 4294967296) % 4294967296) four ∙ eights _ _ (omega (arith, p, q)) (omega (arith, r, s))

plain : (a : ℕ) → a + 48 - 48 ≡ a
plain a = omega arith

digits_of : (a b c d e f g h : ℕ) → 10000 * (100 * (10 * a + b) + (10 * c + d)) + (100 * (10 * e + f) + (10 * g + h))
    ≡ digits_value ((a + 48) ∷ (b + 48) ∷ (c + 48) ∷ (d + 48) ∷ (e + 48) ∷ (f + 48) ∷ (g + 48) ∷ (h + 48) ∷ [])
digits_of a b c d e f g h = rw (plain a, plain b, plain c, plain d, plain e, plain f, plain g, plain h) (omega arith)

digit : (a : ℕ) → a ≤ 9 → (48 ≤ a + 48) × (a + 48 ≤ 57)
digit a p = (omega arith, omega (arith, p))

-- the bytes of a number below 2^64
is_word : (w : ℕ) → w < 18446744073709551616
    → w ≡ word (w % 256) (w / 256 % 256) (w / 65536 % 256) (w / 16777216 % 256) (w / 4294967296 % 256) (w / 1099511627776 % 256) (w / 281474976710656 % 256) (w / 72057594037927936 % 256)
is_word w p = omega (arith, p)

-- the tests of a number say that its bytes are the values of digits
module _ (w : ℕ) (fits : w < 18446744073709551616) (high : bit_and w 9259542123273814144 ≡ 0) where
  abbrev Bytes : ℕ → Type 0
  Bytes most = Below most (w % 256) (w / 256 % 256) (w / 65536 % 256) (w / 16777216 % 256) (w / 4294967296 % 256) (w / 1099511627776 % 256) (w / 281474976710656 % 256) (w / 72057594037927936 % 256)

  any : Bytes 255
  any = record {
    a = omega arith;
    b = omega arith;
    c = omega arith;
    d = omega arith;
    e = omega arith;
    f = omega arith;
    g = omega arith;
    h = omega arith;
  }

  low_bytes : Bytes 127
  low_bytes = all_lower _ _ _ _ _ _ _ _ any (ap (λ (m : ℕ). bit_and m 9259542123273814144) (sym (is_word w fits)) ∙ high)

  pub sum_fits : w + 8536140394893047414 < 18446744073709551616
  sum_fits = let v = low_bytes in let i = is_word w fits in omega (arith, i, v.a, v.b, v.c, v.d, v.e, v.f, v.g, v.h)

  module _ (more : bit_and (w + 8536140394893047414) 9259542123273814144 ≡ 0) where
    values : Bytes 9
    values = all_nine _ _ _ _ _ _ _ _ low_bytes (ap (λ (m : ℕ). bit_and (m + 8536140394893047414) 9259542123273814144) (sym (is_word w fits)) ∙ more)

    pub tens_fit : w * 10 + w / 256 < 18446744073709551616
    tens_fit =
        let v = values in
        let i = is_word w fits in
        let few : w ≤ 651061555542690057 = omega (arith, i, v.a, v.b, v.c, v.d, v.e, v.f, v.g, v.h) in
        omega (arith, few)

    pub are_eight : AreEight w (joined w)
    are_eight =
        let v = values in
        let i = is_word w fits in
        record {
          digits = (w % 256 + 48) ∷ (w / 256 % 256 + 48) ∷ (w / 65536 % 256 + 48) ∷ (w / 16777216 % 256 + 48) ∷ (w / 4294967296 % 256 + 48) ∷ (w / 1099511627776 % 256 + 48) ∷ (w / 281474976710656 % 256 + 48) ∷ (w / 72057594037927936 % 256 + 48) ∷ [];
          all = (digit _ v.a, (digit _ v.b, (digit _ v.c, (digit _ v.d, (digit _ v.e, (digit _ v.f, (digit _ v.g, (digit _ v.h, tt))))))));
          eight = refl;
          is = omega (arith, i);
          value = ap joined i ∙ joined_is _ _ _ _ _ _ _ _ v ∙ digits_of _ _ _ _ _ _ _ _;
        }

abbrev pub AreBytes : List ℕ → Type 0
AreBytes [] = Unit {0}
AreBytes (b ∷ bs) = (b ≤ 255) × AreBytes bs

pub digits_bytes : (ds : List ℕ) → AllDigits ds → AreBytes ds
digits_bytes [] d = tt
digits_bytes (d ∷ ds) h = (omega (arith, h.0.1), digits_bytes ds h.1)

pub bytes_of : (text : List ℕ) → ((i : ℕ) → Fits w8 (slice_index_or text i 0)) → AreBytes text
bytes_of [] h = tt
bytes_of (b ∷ bs) h = ((let f = h 0 in omega (arith, f)), bytes_of bs (λ i. h (suc i)))

pub take_bytes : (n : ℕ) (bs : List ℕ) → AreBytes bs → AreBytes (take n bs)
take_bytes zero bs h = tt
take_bytes (suc n) [] h = tt
take_bytes (suc n) (b ∷ bs) h = (h.0, take_bytes n bs h.1)

-- bytes are told by their number
same_bytes : (xs ys : List ℕ) → length xs ≡ length ys → AreBytes xs → AreBytes ys → word_of xs ≡ word_of ys → xs ≡ ys
same_bytes [] [] l p q e = refl
same_bytes [] (y ∷ ys) l p q e = absurd (omega (arith, l))
same_bytes (x ∷ xs) [] l p q e = absurd (omega (arith, l))
same_bytes (x ∷ xs) (y ∷ ys) l p q e =
    let front : x ≡ y = omega (arith, p.0, q.0, e) in
    let back : word_of xs ≡ word_of ys = omega (arith, p.0, q.0, e) in
    rw (front, same_bytes xs ys (omega (arith, l)) p.1 q.1 back) refl

word_below : (n : ℕ) (bs : List ℕ) → length bs ≡ n → AreBytes bs → word_of bs < 256 ^ n
word_below zero [] l h = omega arith
word_below zero (b ∷ bs) l h = absurd (omega (arith, l))
word_below (suc n) [] l h = absurd (omega (arith, l))
word_below (suc n) (b ∷ bs) l h = let ih = word_below n bs (omega (arith, l)) h.1 in omega (arith, ih, h.0)

-- digits write less than 10 to their count
pub value_below : (n : ℕ) (ds : List ℕ) → AllDigits ds → digits_value_from n ds < (n + 1) * 10 ^ length ds
value_below n [] h = omega arith
value_below n (d ∷ ds) h =
    let ih = value_below (10 * n + (d - 48)) ds h.1 in
    let more = mul-le (10 * n + (d - 48) + 1) (10 ^ length ds) ((n + 1) * 10) (10 ^ length ds) (omega (arith, h.0.0, h.0.1)) (omega arith) in
    let same : (n + 1) * 10 * 10 ^ length ds ≡ (n + 1) * (10 * 10 ^ length ds) = mul_assoc (n + 1) 10 (10 ^ length ds) in
    let scaled : 10 ^ length (d ∷ ds) ≡ 10 * 10 ^ length ds = pow-succ' 10 (length ds) in
    rw scaled (subst (λ m. digits_value_from (10 * n + (d - 48)) ds < m) same (omega (arith, ih, more)))

-- eight bytes that are the values of digits, each with that of "0"
pub eight_are : (bs : List ℕ) (w n : ℕ) → length bs ≡ 8 → AreBytes bs → w ≡ (word_of bs + 14974415777481871312) % 18446744073709551616
    → AreEight w n → AllDigits bs × (n ≡ digits_value bs) × (n < 100000000)
eight_are bs w n size front e h =
    let digits = digits_bytes h.digits h.all in
    let p = word_below 8 bs size front in
    let q = word_below 8 h.digits h.eight digits in
    let same : bs ≡ h.digits = same_bytes bs h.digits (omega (arith, size, h.eight)) front digits (omega (arith, p, q, e, h.is)) in
    let few = value_below 0 h.digits h.all in
    let count : 10 ^ length h.digits ≡ 100000000 = ap (λ (m : ℕ). 10 ^ m) h.eight in
    (subst AllDigits (sym same) h.all, h.value ∙ ap digits_value (sym same), omega (arith, h.value, few, count))

-- a text whose first eight bytes are such
pub eight_read : (text : List ℕ) → ((i : ℕ) → Fits w8 (slice_index_or text i 0)) → (w n : ℕ) → 8 ≤ length text → w ≡ word_of (take 8 text)
    → AreEight ((w + 14974415777481871312) % 18446744073709551616) n → AllDigits (take 8 text) × (n ≡ digits_value (take 8 text)) × (n < 100000000)
eight_read text bytes w n l e h = eight_are (take 8 text) ((w + 14974415777481871312) % 18446744073709551616) n (length-take-le 8 text l)
    (take_bytes 8 text (bytes_of text bytes)) (ap (λ (m : ℕ). (m + 14974415777481871312) % 18446744073709551616) e) h
