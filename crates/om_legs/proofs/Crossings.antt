-- The parity of crossings of two sets, and of lists end to end.
use Rattle.std.proofs.Common.{◌≡◌, ℕ, zero, suc, ◌+◌, ◌*◌, ◌%◌, ◌<◌, ◌≤◌, List, [], ◌∷◌, Bool, true, false, cond, eqb, ltb, inl, inr, ⊎_elim, refl, ap, ap₂, sym, ◌∙◌, arith, bit_and, min, count_ones}
use Rattle.std.specs.Int.{bit_at}
use Rattle.std.specs.List.{filter, sum_by, count_by}
use Rattle.std.proofs.lemmas.Nat.{and_le_l}
use Rattle.std.proofs.lemmas.Nat.Bits.{bit_at_and, bit_at-lt}
use Rattle.std.proofs.lemmas.Bool.{cases_eq, lt-ltb, le-ltb}
use Rattle.std.proofs.lemmas.List.Sums.{sum_by-cons}
use Rattle.om_legs.specs.Legs.{IsLegSet, holds, legs_of, every_leg}
use Rattle.om_legs.specs.Crossings.{crossings, is_odd, bit_sum}
use Rattle.om_legs.proofs.Bits.{bit, bit-holds}
use Rattle.om_legs.proofs.LegLists.{leg_sum, sum_by-every_leg, count_ones-bit_sum}

pub sum_by-filter : (p : ℕ → Bool) (f : ℕ → ℕ) (xs : List ℕ) → sum_by f (filter p xs) ≡ sum_by (λ x. bit (p x) * f x) xs
sum_by-filter p f [] = refl
sum_by-filter p f (x ∷ xs) = by (p x) (sum_by-filter p f xs) ∙ sym (sum_by-cons (λ y. bit (p y) * f y) x xs)
  where
    by : (b : Bool) → sum_by f (filter p xs) ≡ sum_by (λ y. bit (p y) * f y) xs → sum_by f (cond b (x ∷ filter p xs) (filter p xs)) ≡ bit b * f x + sum_by (λ y. bit (p y) * f y) xs
    by true ih = sum_by-cons f x (filter p xs) ∙ (let e = ih in omega arith)
    by false ih = let e = ih in omega arith

-- ---- the lesser legs

-- whether y is a leg of the set below leg k + 1
abbrev lesser : ℕ → ℕ → ℕ → ℕ
lesser set k y = bit (holds set y) * bit (ltb y (suc k))

lesser_below : (set k n : ℕ) → n < k → lesser set k (suc n) ≡ bit_at set n
lesser_below set k n l = ap₂ (λ x y. x * y) (bit-holds set n) (ap bit (lt-ltb (suc n) (suc k) (omega arith))) ∙ by (bit_at set n)
  where
    by : (x : ℕ) → x * 1 ≡ x
    by x = omega arith

lesser_above : (set k n : ℕ) → k ≤ n → lesser set k (suc n) ≡ 0
lesser_above set k n l = ap (λ b. bit (holds set (suc n)) * bit b) (le-ltb (suc n) (suc k) (omega arith)) ∙ by (bit (holds set (suc n)))
  where
    by : (x : ℕ) → x * 0 ≡ 0
    by x = omega arith

all_lesser : (set k n : ℕ) → n ≤ k → leg_sum (lesser set k) n ≡ bit_sum set n
unfolding leg_sum bit_sum
all_lesser set k zero l = refl
all_lesser set k (suc n) l = ap₂ (λ x y. x + y) (all_lesser set k n (omega arith)) (lesser_below set k n (omega arith))

some_lesser : (set k n : ℕ) → k ≤ n → leg_sum (lesser set k) n ≡ bit_sum set k
unfolding leg_sum bit_sum
some_lesser set k zero l = let e : 0 ≡ k = omega arith in ap (bit_sum set) e
some_lesser set k (suc n) l = ⊎_elim
    (λ e. ap₂ (λ x y. x + y) (all_lesser set k n (omega arith)) (lesser_below set k n (omega arith)) ∙ ap (bit_sum set) (sym e))
    (λ ne. (let ih = some_lesser set k n (omega arith) in let z = lesser_above set k n (omega arith) in omega arith))
    (cases_eq k (suc n))

lesser_count : (set k : ℕ) → k < 12 → count_by (λ y. ltb y (suc k)) (legs_of set) ≡ bit_sum set k
unfolding legs_of
lesser_count set k l = sum_by-filter (holds set) (λ y. bit (ltb y (suc k))) every_leg ∙ sum_by-every_leg (lesser set k) ∙ some_lesser set k 12 (omega arith)

crossings-leg_sum : (a b : ℕ) → crossings (legs_of a) (legs_of b) ≡ leg_sum (λ x. bit (holds a x) * count_by (λ y. ltb y x) (legs_of b)) 12
unfolding legs_of
crossings-leg_sum a b = sum_by-filter (holds a) (λ x. count_by (λ y. ltb y x) (legs_of b)) every_leg ∙ sum_by-every_leg (λ x. bit (holds a x) * count_by (λ y. ltb y x) (legs_of b))

-- ---- the parity

-- p has the parity of the bits of b below each place
same_parity : (a b p n : ℕ) → n ≤ 12 → ((k : ℕ) → k < 16 → bit_at p k ≡ bit_sum b k % 2) → bit_sum (bit_and a p) n % 2 ≡ leg_sum (λ x. bit (holds a x) * count_by (λ y. ltb y x) (legs_of b)) n % 2
unfolding bit_sum leg_sum
same_parity a b p zero l h = refl
same_parity a b p (suc n) l h = by _ _ _ _ (bit_at a n) (bit_sum b n) (bit_at-lt a n) (same_parity a b p n (omega arith) h)
    (bit_at_and a p n ∙ ap (min (bit_at a n)) (h n (omega arith)))
    (ap₂ (λ x y. x * y) (bit-holds a n) (lesser_count b n (omega arith)))
  where
    by : (u v y z x s : ℕ) → x < 2 → u % 2 ≡ v % 2 → y ≡ min x (s % 2) → z ≡ x * s → (u + y) % 2 ≡ (v + z) % 2
    by u v y z x s q e f g = elim (cases_eq x 0) [
      | inl none ↦ (let m : x * s ≡ 0 * s = ap (λ t. t * s) none in omega arith)
      | inr some ↦ (let one : x ≡ 1 = omega arith in let m : x * s ≡ 1 * s = ap (λ t. t * s) one in omega arith)
    ]

pub is_odd-crossings : (a b p : ℕ) → IsLegSet a → ((k : ℕ) → k < 16 → bit_at p k ≡ bit_sum b k % 2) → eqb (count_ones (bit_and a p) % 2) 1 ≡ is_odd (crossings (legs_of a) (legs_of b))
is_odd-crossings a b p w h = ap (λ n. eqb (n % 2) 1) (count_ones-bit_sum 12 (bit_and a p) (let l = and_le_l a p in omega arith))
    ∙ ap (λ n. eqb n 1) (same_parity a b p 12 (omega arith) h ∙ ap (λ n. n % 2) (sym (crossings-leg_sum a b)))
