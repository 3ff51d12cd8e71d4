-- The legs of a set in rising order, their number and the least of them.
use Rattle.std.proofs.Common.{◌≡◌, ℕ, zero, suc, ◌+◌, ◌/◌, ◌%◌, ◌^◌, ◌<◌, ◌≤◌, List, [], ◌∷◌, get_or, Bool, true, false, cond, eqb, ◌⊎◌, ◌↔◌, inl, inr, ⊎_elim, refl, ap, ap₂, sym, ◌∙◌, arith, count_ones}
use Rattle.std.specs.Int.{bit_at, trailing_zeros, w16}
use Rattle.std.specs.Int.Count.{ones_step}
use Rattle.std.proofs.lemmas.Nat.{ones_le_self}
use Rattle.std.specs.List.{filter, range_with_len, sum_by, Contains}
use Rattle.std.proofs.lemmas.Nat.Bits.{bit_at-suc, bit_at_lowest, bit_at-trailing_zeros, bit_at-zero, bit_at_above}
use Rattle.std.proofs.lemmas.Bool.{cases_eq, cases_lt, true≢false, eq-eqb}
use Rattle.std.proofs.lemmas.List.Sums.{length-filter}
use Rattle.std.proofs.Math.Nat.{pow-suc}
use Rattle.om_legs.specs.Legs.{IsLegSet, holds, legs_of, every_leg, size, least}
use Rattle.om_legs.specs.Crossings.{bit_sum}
use Rattle.om_ring.specs.Members.{In}
use Rattle.om_legs.proofs.Members.{Contains-from_In, In-from_Contains}
use Rattle.om_legs.proofs.Bits.{bit, bit-holds, holds-bit, leg_range, holds-zero}

-- ---- members

in_filter : (p : ℕ → Bool) (x : ℕ) (xs : List ℕ) → In x xs → p x ≡ true → In x (filter p xs)
in_filter p x [] i e = absurd i
in_filter p x (y ∷ ys) i e = by (p y) refl i (λ j. in_filter p x ys j e)
  where
    by : (b : Bool) → p y ≡ b → (x ≡ y) ⊎ In x ys → (In x ys → In x (filter p ys)) → In x (cond b (y ∷ filter p ys) (filter p ys))
    by true q (inl f) ih = inl f
    by true q (inr j) ih = inr (ih j)
    by false q (inl f) ih = absurd (true≢false (sym e ∙ ap p f ∙ q))
    by false q (inr j) ih = ih j

passes_filter : (p : ℕ → Bool) (x : ℕ) (xs : List ℕ) → In x (filter p xs) → p x ≡ true
passes_filter p x [] i = absurd i
passes_filter p x (y ∷ ys) i = by (p y) refl i (passes_filter p x ys)
  where
    by : (b : Bool) → p y ≡ b → In x (cond b (y ∷ filter p ys) (filter p ys)) → (In x (filter p ys) → p x ≡ true) → p x ≡ true
    by true q (inl f) ih = ap p f ∙ q
    by true q (inr j) ih = ih j
    by false q j ih = ih j

in_range : (a n x : ℕ) → a ≤ x → x < a + n → In x (range_with_len a n)
in_range a zero x l h = absurd (omega arith)
in_range a (suc n) x l h = ⊎_elim (λ e. inl e) (λ ne. inr (in_range (a + 1) n x (omega arith) (omega arith))) (cases_eq x a)

-- the legs of a set are those that it holds
pub Contains-legs_of : (set leg : ℕ) → IsLegSet set → Contains (legs_of set) leg ↔ (holds set leg ≡ true)
unfolding legs_of
Contains-legs_of set leg w = (
  (λ c. passes_filter (holds set) leg every_leg (In-from_Contains (legs_of set) leg c)),
  (λ h. Contains-from_In (legs_of set) leg (in_filter (holds set) leg every_leg (let r = leg_range set leg w h in in_range 1 12 leg (omega arith) (let m = r.1 in omega arith)) h)),
)

-- ---- size

-- a sum over the first n legs
unfoldable pub leg_sum : (ℕ → ℕ) → ℕ → ℕ
leg_sum f zero = 0
leg_sum f (suc n) = leg_sum f n + f (suc n)

pub sum_by-every_leg : (f : ℕ → ℕ) → sum_by f every_leg ≡ leg_sum f 12
unfolding leg_sum
sum_by-every_leg f = refl

bit_sum_halves : (x n : ℕ) → bit_sum x (suc n) ≡ x % 2 + bit_sum (x / 2) n
unfolding bit_sum
bit_sum_halves x zero = let e = bit_at_lowest x in omega arith
bit_sum_halves x (suc n) = let ih = bit_sum_halves x n in let e = bit_at-suc x n in omega arith

pub count_ones-bit_sum : (n x : ℕ) → x < 2 ^ n → count_ones x ≡ bit_sum x n
unfolding bit_sum
count_ones-bit_sum zero x h = let e : x ≡ 0 = omega arith in ap count_ones e ∙ none
  where
    none : count_ones 0 ≡ 0
    none = let z = ones_le_self 0 in omega arith
count_ones-bit_sum (suc n) x h =
    let p = pow-suc 2 n in
    ones_step x ∙ ap (λ m. x % 2 + m) (count_ones-bit_sum n (x / 2) (omega arith)) ∙ sym (bit_sum_halves x n)

pub bit_sum-leg_sum : (set n : ℕ) → bit_sum set n ≡ leg_sum (λ leg. bit (holds set leg)) n
unfolding bit_sum leg_sum
bit_sum-leg_sum set zero = refl
bit_sum-leg_sum set (suc n) = ap₂ (λ x y. x + y) (bit_sum-leg_sum set n) (sym (bit-holds set n))

pub count_ones-size : (set : ℕ) → IsLegSet set → count_ones set ≡ size set
unfolding legs_of size
count_ones-size set w =
    count_ones-bit_sum 12 set w ∙ bit_sum-leg_sum set 12
    ∙ sym (length-filter (holds set) every_leg ∙ sum_by-every_leg (λ leg. bit (holds set leg)))

-- ---- the least leg

first_passing : (p : ℕ → Bool) (a n k : ℕ) → k < n → p (a + k) ≡ true → ((i : ℕ) → i < k → p (a + i) ≡ false) → get_or (filter p (range_with_len a n)) 0 0 ≡ a + k
first_passing p a zero k l here before = absurd (omega arith)
first_passing p a (suc n) zero l here before = ap (λ b. get_or (cond b (a ∷ filter p (range_with_len (a + 1) n)) (filter p (range_with_len (a + 1) n))) 0 0) (ap p (none a) ∙ here) ∙ none a
  where
    none : (a : ℕ) → a ≡ a + 0
    none a = omega arith
first_passing p a (suc n) (suc k) l here before =
    ap (λ b. get_or (cond b (a ∷ filter p (range_with_len (a + 1) n)) (filter p (range_with_len (a + 1) n))) 0 0) (ap p (none a) ∙ before 0 (omega arith))
    ∙ first_passing p (a + 1) n k (omega arith) (ap p (next a k) ∙ here) (λ i h. ap p (next a i) ∙ before (suc i) (omega arith))
    ∙ next a k
  where
    none : (a : ℕ) → a ≡ a + 0
    none a = omega arith

    next : (a k : ℕ) → (a + 1) + k ≡ a + suc k
    next a k = omega arith

none_pass : (p : ℕ → Bool) (a n : ℕ) → ((i : ℕ) → i < n → p (a + i) ≡ false) → filter p (range_with_len a n) ≡ []
none_pass p a zero h = refl
none_pass p a (suc n) h =
    ap (λ b. cond b (a ∷ filter p (range_with_len (a + 1) n)) (filter p (range_with_len (a + 1) n))) (ap p (none a) ∙ h 0 (omega arith))
    ∙ none_pass p (a + 1) n (λ i l. ap p (next a i) ∙ h (suc i) (omega arith))
  where
    none : (a : ℕ) → a ≡ a + 0
    none a = omega arith

    next : (a k : ℕ) → (a + 1) + k ≡ a + suc k
    next a k = omega arith

pub holds_none : (leg : ℕ) → holds 0 leg ≡ false
holds_none zero = holds-zero 0
holds_none (suc k) = holds-bit 0 k ∙ ap (λ x. eqb x 1) (bit_at-zero k)

pub legs_of-empty : legs_of 0 ≡ []
unfolding legs_of
legs_of-empty = none_pass (holds 0) 1 12 (λ i l. holds_none (1 + i))

pub least-empty : least 0 ≡ 0
unfolding least
least-empty = ap (λ xs. get_or xs 0 0) legs_of-empty

pub least-trailing_zeros : (set : ℕ) → 0 < set → IsLegSet set → least set ≡ trailing_zeros w16 set + 1
unfolding legs_of least
least-trailing_zeros set p w =
    let t = bit_at-trailing_zeros w16 set p (omega arith) in
    let k = trailing_zeros w16 set in
    first_passing (holds set) 1 12 k (inside set k w t.1) (ap (holds set) (turned k) ∙ holds-bit set k ∙ eq-eqb (bit_at set k) 1 t.1)
    (λ i l. ap (holds set) (turned i) ∙ holds-bit set i ∙ ap (λ x. eqb x 1) (t.2 i l)) ∙ swapped k
  where
    turned : (k : ℕ) → 1 + k ≡ suc k
    turned k = omega arith

    swapped : (k : ℕ) → 1 + k ≡ k + 1
    swapped k = omega arith

    inside : (set k : ℕ) → IsLegSet set → bit_at set k ≡ 1 → k < 12
    inside set k w e = ⊎_elim (λ l. l) (λ g. absurd (let z = bit_at_above set 12 k w g in omega arith)) (cases_lt k 12)
