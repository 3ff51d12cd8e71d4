-- The ends of all lines are the sum of those of each side, word by word.
use Rattle.std.proofs.Common.{◌≡◌, ◌≢◌, ℕ, zero, suc, ◌+◌, ◌*◌, ◌^◌, ◌<◌, ◌≤◌, List, [], ◌∷◌, get_or, slice_index, slice_index_or, Bool, true, false, cond, eqb, ltb, ◌⊎◌, inl, inr, ⊎_elim, refl, ap, ap₂, sym, subst, ◌∙◌, arith, lit<, lit≤}
use Rattle.std.proofs.Math.Nat.{add-mul, mul_right_comm}
use Rattle.std.proofs.lemmas.Bool.{ltb-true}
use Rattle.std.proofs.lemmas.Bool.Decides.{nat_tests}
use Rattle.std.proofs.lemmas.Nat.{le_bytes_8, mul-add-lt}
use Rattle.std.specs.Int.{w64, to_le_bytes, sum_through, byte_worth}
use Rattle.om_colour.specs.declared.Choice.{Choice}
use Rattle.om_colour.specs.declared.Flow.{Flow}
use Rattle.om_colour.specs.declared.SlotPartials.{SlotPartials}
use Rattle.om_colour.specs.declared.TheConstants.{UPWARDS}
use Rattle.om_colour.specs.Lines.{IsSlot}
use Rattle.om_colour.specs.Choices.{goes_to}
use Rattle.om_colour.specs.Partials.{Fits, all_beyond, closed, each_leg, end_at, end_through, ends_by, first_of, no_hole, part_at}
use Rattle.om_colour.proofs.JoinedEnds.{closed-made}
use Rattle.om_graph.specs.declared.lines.Lines.{Lines}
use Rattle.om_graph.specs.Words.{eight, kept, lines_in, merged, sent, through, twelve, upper, word_in}

-- eight numbers below 256 as one
abbrev word : (ℕ → ℕ) → ℕ
word f = sum_through (λ i. byte_worth i (f i)) 7

sum_same : (f g : ℕ → ℕ) (n : ℕ) → ((i : ℕ) → i ≤ n → f i ≡ g i) → sum_through f n ≡ sum_through g n
sum_same f g zero h = h 0 (omega arith)
sum_same f g (suc n) h = ap₂ (λ a b. a + b) (sum_same f g n (λ i l. h i (omega (arith, l)))) (h (suc n) (omega arith))

sum_plus : (f g : ℕ → ℕ) (n : ℕ) → sum_through (λ i. f i + g i) n ≡ sum_through f n + sum_through g n
sum_plus f g zero = refl
sum_plus f g (suc n) = let ih = sum_plus f g n in omega (arith, ih)

sum_times : (f : ℕ → ℕ) (b n : ℕ) → sum_through (λ i. f i * b) n ≡ sum_through f n * b
sum_times f b zero = refl
sum_times f b (suc n) = ap (λ s. s + f (suc n) * b) (sum_times f b n) ∙ sym (add-mul (sum_through f n) (f (suc n)) b)

worth_plus : (i a b : ℕ) → byte_worth i (a + b) ≡ byte_worth i a + byte_worth i b
worth_plus zero a b = refl
worth_plus (suc i) a b = add-mul a b (256 ^ suc i)

worth_times : (i a b : ℕ) → byte_worth i (a * b) ≡ byte_worth i a * b
worth_times zero a b = refl
worth_times (suc i) a b = mul_right_comm a b (256 ^ suc i)

word_same : (f g : ℕ → ℕ) → ((i : ℕ) → i ≤ 7 → f i ≡ g i) → word f ≡ word g
word_same f g h = sum_same (λ i. byte_worth i (f i)) (λ i. byte_worth i (g i)) 7 (λ i l. ap (byte_worth i) (h i l))

word_plus : (f g : ℕ → ℕ) → word (λ i. f i + g i) ≡ word f + word g
word_plus f g =
    sum_same (λ i. byte_worth i (f i + g i)) (λ i. byte_worth i (f i) + byte_worth i (g i)) 7 (λ i l. worth_plus i (f i) (g i))
    ∙ sum_plus (λ i. byte_worth i (f i)) (λ i. byte_worth i (g i)) 7

word_times : (f : ℕ → ℕ) (b : ℕ) → word (λ i. f i * b) ≡ word f * b
word_times f b =
    sum_same (λ i. byte_worth i (f i * b)) (λ i. byte_worth i (f i) * b) 7 (λ i l. worth_times i (f i) b)
    ∙ sum_times (λ i. byte_worth i (f i)) b 7

-- the ends of a side, with its lines upwards taken to b
split : (e b : ℕ) → end_through e b ≡ kept e + sent e * b
split e b = by (eqb e UPWARDS)
  where
    by : (t : Bool) → cond t b e ≡ cond t 0 e + cond t 1 0 * b
    by true = omega arith
    by false = omega arith

word_through : (e : ℕ → ℕ) (b : ℕ) → word (λ k. end_through (e k) b) ≡ through (word_in e) b
word_through e b =
    word_same (λ k. end_through (e k) b) (λ k. kept (e k) + sent (e k) * b) (λ k l. split (e k) b)
    ∙ word_plus (λ k. kept (e k)) (λ k. sent (e k) * b)
    ∙ ap (λ n. word (λ k. kept (e k)) + n) (word_times (λ k. sent (e k)) b)

-- of numbers of which one at most isn't 0 the first is the sum
first_two : (a b : ℕ) → (0 < a → 0 < b → ⊥) → first_of a b ≡ a + b
first_two zero b h = omega arith
first_two (suc a) zero h = let t : eqb (suc a) 0 ≡ false = grind (arith, nat_tests) in rw t (omega arith)
first_two (suc a) (suc b) h = absurd (h (omega arith) (omega arith))

some_of : (a b : ℕ) → 0 < first_of a b → (0 < a) ⊎ (0 < b)
some_of zero b l = inr l
some_of (suc a) b l = inl (omega arith)

apart_first : (a b r : ℕ) → (0 < a → 0 < b → ⊥) → (0 < a → 0 < r → ⊥) → 0 < a → 0 < first_of b r → ⊥
apart_first a b r h g l m = ⊎_elim (λ x. h l x) (λ x. g l x) (some_of b r m)

some_through : (e b : ℕ) → 0 < end_through e b → 0 < e
some_through zero b l = l
some_through (suc e) b l = omega arith

through_below : (e b : ℕ) → e < 256 → b < 256 → end_through e b < 256
through_below e b l m = by (eqb e UPWARDS)
  where
    by : (t : Bool) → cond t b e < 256
    by true = m
    by false = l

first_below : (a b : ℕ) → a < 256 → b < 256 → first_of a b < 256
first_below a b l m = by (eqb a 0)
  where
    by : (t : Bool) → cond t b a < 256
    by true = m
    by false = l

-- no two of some ends stand at one leg
abbrev Apart : (ℕ → ℕ) → (ℕ → ℕ) → Type 0
Apart e f = (k : ℕ) → k ≤ 7 → 0 < e k → 0 < f k → ⊥

abbrev AreBytes : (ℕ → ℕ) → Type 0
AreBytes f = (k : ℕ) → k ≤ 7 → f k < 256

module _ (e f g h : ℕ → ℕ) (x y z w : ℕ) where
  abbrev ends : ℕ → ℕ
  ends k = first_of (end_through (e k) x) (first_of (end_through (f k) y) (first_of (end_through (g k) z) (first_of (end_through (h k) w) 0)))

  digit : (k : ℕ) → k ≤ 7 → Apart e f → Apart e g → Apart e h → Apart f g → Apart f h → Apart g h → ends k ≡ end_through (e k) x + (end_through (f k) y + (end_through (g k) z + end_through (h k) w))
  digit k l ef eg eh fg fh gh =
      by (end_through (e k) x) (end_through (f k) y) (end_through (g k) z) (end_through (h k) w)
      (λ p q. ef k l (some_through (e k) x p) (some_through (f k) y q)) (λ p q. eg k l (some_through (e k) x p) (some_through (g k) z q)) (λ p q. eh k l (some_through (e k) x p) (some_through (h k) w q))
      (λ p q. fg k l (some_through (f k) y p) (some_through (g k) z q)) (λ p q. fh k l (some_through (f k) y p) (some_through (h k) w q)) (λ p q. gh k l (some_through (g k) z p) (some_through (h k) w q))
    where
      none : (a : ℕ) → 0 < a → 0 < 0 → ⊥
      none a p q = absurd (omega (arith, q))

      by : (a b c d : ℕ) → (0 < a → 0 < b → ⊥) → (0 < a → 0 < c → ⊥) → (0 < a → 0 < d → ⊥) → (0 < b → 0 < c → ⊥) → (0 < b → 0 < d → ⊥) → (0 < c → 0 < d → ⊥)
          → first_of a (first_of b (first_of c (first_of d 0))) ≡ a + (b + (c + d))
      by a b c d ab ac ad bc bd cd =
          let last = first_two d 0 (none d) in
          let third = first_two c (first_of d 0) (apart_first c d 0 cd (none c)) in
          let second = first_two b (first_of c (first_of d 0)) (apart_first b c (first_of d 0) bc (apart_first b d 0 bd (none b))) in
          let first = first_two a (first_of b (first_of c (first_of d 0))) (apart_first a b (first_of c (first_of d 0)) ab (apart_first a c (first_of d 0) ac (apart_first a d 0 ad (none a)))) in
          omega (arith, first, second, third, last)

  whole : Apart e f → Apart e g → Apart e h → Apart f g → Apart f h → Apart g h → word ends ≡ merged (word_in e) (word_in f) (word_in g) (word_in h) x y z w
  whole ef eg eh fg fh gh =
      word_same ends (λ k. end_through (e k) x + (end_through (f k) y + (end_through (g k) z + end_through (h k) w))) (λ k l. digit k l ef eg eh fg fh gh)
      ∙ word_plus (λ k. end_through (e k) x) (λ k. end_through (f k) y + (end_through (g k) z + end_through (h k) w))
      ∙ ap₂ (λ m n. m + n) (word_through e x)
      (word_plus (λ k. end_through (f k) y) (λ k. end_through (g k) z + end_through (h k) w)
      ∙ ap₂ (λ m n. m + n) (word_through f y)
      (word_plus (λ k. end_through (g k) z) (λ k. end_through (h k) w) ∙ ap₂ (λ m n. m + n) (word_through g z) (word_through h w)))

  bytes : AreBytes e → AreBytes f → AreBytes g → AreBytes h → x < 256 → y < 256 → z < 256 → w < 256 → AreBytes ends
  bytes be bf bg bh lx ly lz lw k l =
      first_below _ _ (through_below (e k) x (be k l) lx) (first_below _ _ (through_below (f k) y (bf k l) ly) (first_below _ _ (through_below (g k) z (bg k l) lz) (first_below _ _ (through_below (h k) w (bh k l) lw) (lit< tt))))

-- eight bytes and their word
sum_below : (f : ℕ → ℕ) (n : ℕ) → ((i : ℕ) → i ≤ n → f i < 256) → sum_through (λ i. byte_worth i (f i)) n < 256 ^ suc n
sum_below f zero h = h 0 (omega arith)
sum_below f (suc n) h =
    let ih = sum_below f n (λ i l. h i (omega (arith, l))) in
    let t = mul-add-lt (f (suc n)) (256 ^ suc n) (sum_through (λ i. byte_worth i (f i)) n) 256 (h (suc n) (omega arith)) ih in
    omega (arith, t)

pub word_below : (f : ℕ → ℕ) → AreBytes f → word f < 2 ^ 64
word_below f h = sum_below f 7 h

each_byte : (f : ℕ → ℕ) → AreBytes f → (i : ℕ) → get_or (eight f) i 0 < 256
each_byte f h zero = h 0 (lit≤ tt)
each_byte f h (suc zero) = h 1 (lit≤ tt)
each_byte f h (suc (suc zero)) = h 2 (lit≤ tt)
each_byte f h (suc (suc (suc zero))) = h 3 (lit≤ tt)
each_byte f h (suc (suc (suc (suc zero)))) = h 4 (lit≤ tt)
each_byte f h (suc (suc (suc (suc (suc zero))))) = h 5 (lit≤ tt)
each_byte f h (suc (suc (suc (suc (suc (suc zero)))))) = h 6 (lit≤ tt)
each_byte f h (suc (suc (suc (suc (suc (suc (suc zero))))))) = h 7 (lit≤ tt)
each_byte f h (suc (suc (suc (suc (suc (suc (suc (suc i)))))))) = lit< tt

bytes_back : (f : ℕ → ℕ) (n : ℕ) → AreBytes f → n ≡ word f → to_le_bytes w64 n ≡ eight f
bytes_back f n h e = le_bytes_8 (eight f) n refl (each_byte f h) e

-- the last four of twelve numbers
upper_some : (f : ℕ → ℕ) (k : ℕ) → 0 < upper f k → (k < 4) × (0 < f (k + 8))
upper_some f k l = by (ltb k 4) refl l
  where
    by : (t : Bool) → ltb k 4 ≡ t → 0 < cond t (f (k + 8)) 0 → (k < 4) × (0 < f (k + 8))
    by true e p = (ltb-true k 4 e, p)
    by false e p = absurd (omega (arith, p))

upper_below : (f : ℕ → ℕ) → ((k : ℕ) → k < 12 → f k < 256) → AreBytes (upper f)
upper_below f h k l = by (ltb k 4) refl
  where
    by : (t : Bool) → ltb k 4 ≡ t → cond t (f (k + 8)) 0 < 256
    by true e = let m = ltb-true k 4 e in h (k + 8) (omega (arith, m))
    by false e = lit< tt

upper_apart : (e f : ℕ → ℕ) → ((k : ℕ) → k < 12 → 0 < e k → 0 < f k → ⊥) → Apart (upper e) (upper f)
upper_apart e f h k l p q = let s = upper_some e k p in let t = upper_some f k q in h (k + 8) (let m = s.0 in omega (arith, m)) s.1 t.1

-- the flow that fitting partial flows close to
module _ (q : SlotPartials) (c : Choice) (fit : Fits q c no_hole) where
  abbrev at : ℕ → ℕ → ℕ
  at s = end_at (part_at q s)

  abbrev beyond : ℕ → ℕ
  beyond s = slice_index (all_beyond q) (goes_to c s)

  apart : (s r : ℕ) → IsSlot s → IsSlot r → r ≢ s → (k : ℕ) → k < 12 → 0 < at s k → 0 < at r k → ⊥
  apart s r i j n k l a b = fit.apart s r k i j n l (inl a) (inl b)

  low_apart : (s r : ℕ) → IsSlot s → IsSlot r → r ≢ s → Apart (at s) (at r)
  low_apart s r i j n k l = apart s r i j n k (omega (arith, l))

  high_apart : (s r : ℕ) → IsSlot s → IsSlot r → r ≢ s → Apart (upper (at s)) (upper (at r))
  high_apart s r i j n = upper_apart (at s) (at r) (apart s r i j n)

  ends_below : (s : ℕ) → IsSlot s → (k : ℕ) → k < 12 → at s k < 256
  ends_below s i k l = let m = (fit.sound s i).ends k l in omega (arith, m)

  low_below : (s : ℕ) → IsSlot s → AreBytes (at s)
  low_below s i k l = ends_below s i k (omega (arith, l))

  high_below : (s : ℕ) → IsSlot s → AreBytes (upper (at s))
  high_below s i = upper_below (at s) (ends_below s i)

  one : IsSlot 1
  one = (lit< tt, lit≤ tt)

  two : IsSlot 2
  two = (lit< tt, lit≤ tt)

  three : IsSlot 3
  three = (lit< tt, lit≤ tt)

  four : IsSlot 4
  four = (lit< tt, lit≤ tt)

  into_below : (t : ℕ) → t ≤ 4 → slice_index (all_beyond q) t < 256
  into_below zero l = lit< tt
  into_below (suc zero) l = let m = (fit.sound 1 one).into in omega (arith, m)
  into_below (suc (suc zero)) l = let m = (fit.sound 2 two).into in omega (arith, m)
  into_below (suc (suc (suc zero))) l = let m = (fit.sound 3 three).into in omega (arith, m)
  into_below (suc (suc (suc (suc zero)))) l = let m = (fit.sound 4 four).into in omega (arith, m)
  into_below (suc (suc (suc (suc (suc t))))) l = absurd (omega (arith, l))

  beyond_below : (s : ℕ) → IsSlot s → beyond s < 256
  beyond_below s i = into_below (goes_to c s) (fit.choice.slots s i)

  abbrev low_word : ℕ
  low_word = merged (lines_in q.first).low (lines_in q.second).low (lines_in q.third).low (lines_in q.fourth).low (beyond 1) (beyond 2) (beyond 3) (beyond 4)

  abbrev high_word : ℕ
  high_word = merged (lines_in q.first).high (lines_in q.second).high (lines_in q.third).high (lines_in q.fourth).high (beyond 1) (beyond 2) (beyond 3) (beyond 4)

  abbrev low_ends : ℕ → ℕ
  low_ends = ends (at 1) (at 2) (at 3) (at 4) (beyond 1) (beyond 2) (beyond 3) (beyond 4)

  abbrev high_ends : ℕ → ℕ
  high_ends = ends (upper (at 1)) (upper (at 2)) (upper (at 3)) (upper (at 4)) (beyond 1) (beyond 2) (beyond 3) (beyond 4)

  low_is : word low_ends ≡ low_word
  low_is = whole (at 1) (at 2) (at 3) (at 4) (beyond 1) (beyond 2) (beyond 3) (beyond 4)
      (low_apart 1 2 one two (λ e. absurd (omega (arith, e)))) (low_apart 1 3 one three (λ e. absurd (omega (arith, e)))) (low_apart 1 4 one four (λ e. absurd (omega (arith, e))))
      (low_apart 2 3 two three (λ e. absurd (omega (arith, e)))) (low_apart 2 4 two four (λ e. absurd (omega (arith, e)))) (low_apart 3 4 three four (λ e. absurd (omega (arith, e))))

  high_is : word high_ends ≡ high_word
  high_is = whole (upper (at 1)) (upper (at 2)) (upper (at 3)) (upper (at 4)) (beyond 1) (beyond 2) (beyond 3) (beyond 4)
      (high_apart 1 2 one two (λ e. absurd (omega (arith, e)))) (high_apart 1 3 one three (λ e. absurd (omega (arith, e)))) (high_apart 1 4 one four (λ e. absurd (omega (arith, e))))
      (high_apart 2 3 two three (λ e. absurd (omega (arith, e)))) (high_apart 2 4 two four (λ e. absurd (omega (arith, e)))) (high_apart 3 4 three four (λ e. absurd (omega (arith, e))))

  low_bytes : AreBytes low_ends
  low_bytes = bytes (at 1) (at 2) (at 3) (at 4) (beyond 1) (beyond 2) (beyond 3) (beyond 4) (low_below 1 one) (low_below 2 two) (low_below 3 three) (low_below 4 four) (beyond_below 1 one) (beyond_below 2 two) (beyond_below 3 three) (beyond_below 4 four)

  high_bytes : AreBytes high_ends
  high_bytes = bytes (upper (at 1)) (upper (at 2)) (upper (at 3)) (upper (at 4)) (beyond 1) (beyond 2) (beyond 3) (beyond 4) (high_below 1 one) (high_below 2 two) (high_below 3 three) (high_below 4 four) (beyond_below 1 one) (beyond_below 2 two) (beyond_below 3 three) (beyond_below 4 four)

  pub low_fits : low_word < 2 ^ 64
  low_fits = let b = word_below low_ends low_bytes in let e = low_is in omega (arith, b, e)

  pub high_fits : high_word < 2 ^ 64
  high_fits = let b = word_below high_ends high_bytes in let e = high_is in omega (arith, b, e)

  pub ends_are : (low high : ℕ) → low ≡ low_word → high ≡ high_word → twelve (to_le_bytes w64 low) (to_le_bytes w64 high) ≡ each_leg (ends_by q c (slice_index (all_beyond q)))
  ends_are low high e h = ap₂ twelve (bytes_back low_ends low low_bytes (e ∙ sym low_is)) (bytes_back high_ends high high_bytes (h ∙ sym high_is))

-- the same by the lines at the slots
abbrev line : List Lines → ℕ → Lines
line slots k = slice_index_or slots k (record { low = record { within = 0; upwards = 0 }; high = record { within = 0; upwards = 0 }; into = 0 })

abbrev end : List Lines → Choice → ℕ → ℕ
end slots c k = slice_index (0 ∷ (line slots 0).into ∷ (line slots 1).into ∷ (line slots 2).into ∷ (line slots 3).into ∷ []) (slice_index c.to k)

abbrev pub low_by : List Lines → Choice → ℕ
low_by slots c = merged (line slots 0).low (line slots 1).low (line slots 2).low (line slots 3).low (end slots c 0) (end slots c 1) (end slots c 2) (end slots c 3)

abbrev pub high_by : List Lines → Choice → ℕ
high_by slots c = merged (line slots 0).high (line slots 1).high (line slots 2).high (line slots 3).high (end slots c 0) (end slots c 1) (end slots c 2) (end slots c 3)

abbrev four_lines : SlotPartials → List Lines
four_lines q = lines_in q.first ∷ lines_in q.second ∷ lines_in q.third ∷ lines_in q.fourth ∷ []

module _ (slots : List Lines) (q : SlotPartials) (c : Choice) (fit : Fits q c no_hole) (e : slots ≡ four_lines q) where
  pub low_there : low_by slots c < 2 ^ 64
  low_there = subst (λ s. low_by s c < 2 ^ 64) (sym e) (low_fits q c fit)

  pub high_there : high_by slots c < 2 ^ 64
  high_there = subst (λ s. high_by s c < 2 ^ 64) (sym e) (high_fits q c fit)

  pub closed_is : (low high : ℕ) → low ≡ low_by slots c → high ≡ high_by slots c → let made : Flow = record { ends = twelve (to_le_bytes w64 low) (to_le_bytes w64 high) } in made ≡ closed q c
  closed_is low high l h =
      closed-made q c (all_beyond q) (twelve (to_le_bytes w64 low) (to_le_bytes w64 high)) fit.choice.slots refl
      (ends_are q c fit low high (l ∙ ap (λ s. low_by s c) e) (h ∙ ap (λ s. high_by s c) e))
