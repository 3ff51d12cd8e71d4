-- The bits of a set of legs: leg k is the bit at k - 1.
use Rattle.std.proofs.Common.{◌≡◌, ℕ, zero, suc, ◌+◌, ◌-◌, ◌*◌, ◌%◌, ◌^◌, ◌<◌, ◌≤◌, Bool, true, false, cond, eqb, ⊎_elim, refl, ap, sym, ◌∙◌, arith, lit<}
use Rattle.std.specs.Int.{bit_at}
use Rattle.std.proofs.lemmas.Nat.Bits.{bit_at-lt, bit_at_above, bit_at_cat_low, bit_at_cat_high, bit_at_lowest, same_from_bits}
use Rattle.std.proofs.lemmas.Bool.{cases_eq, cases_lt, true≢false}
use Rattle.std.proofs.lemmas.Bool.Decides.{nat_tests}
use Rattle.std.proofs.Math.Nat.{pow-suc}
use Rattle.om_legs.specs.Legs.{IsLegSet, holds, set_of}

-- a test as a bit
abbrev pub bit : Bool → ℕ
bit b = cond b 1 0

pub holds-bit : (set k : ℕ) → holds set (suc k) ≡ eqb (bit_at set k) 1
unfolding holds
holds-bit set k = refl

pub bit-holds : (set k : ℕ) → bit (holds set (suc k)) ≡ bit_at set k
bit-holds set k = ap bit (holds-bit set k) ∙ by (bit_at set k) (bit_at-lt set k)
  where
    by : (x : ℕ) → x < 2 → cond (eqb x 1) 1 0 ≡ x
    by x h = grind (arith, nat_tests)

-- the set of those of the first n legs that pass a test
sum_to : (ℕ → Bool) → ℕ → ℕ
sum_to test zero = 0
sum_to test (suc n) = sum_to test n + cond (test (suc n)) (2 ^ n) 0

sum_to_next : (test : ℕ → Bool) (n : ℕ) → sum_to test (suc n) ≡ bit (test (suc n)) * 2 ^ n + sum_to test n
unfolding sum_to
sum_to_next test n = by (test (suc n)) (sum_to test n) (2 ^ n)
  where
    by : (b : Bool) (x y : ℕ) → x + cond b y 0 ≡ cond b 1 0 * y + x
    by true x y = omega arith
    by false x y = omega arith

sum_to_below : (test : ℕ → Bool) (n : ℕ) → sum_to test n < 2 ^ n
unfolding sum_to
sum_to_below test zero = lit< tt
sum_to_below test (suc n) = by (test (suc n)) (sum_to test n) (2 ^ n) (2 ^ suc n) (sum_to_below test n) (pow-suc 2 n)
  where
    by : (b : Bool) (x y z : ℕ) → x < y → z ≡ y * 2 → x + cond b y 0 < z
    by true x y z h e = omega arith
    by false x y z h e = omega arith

last_bit : (b : Bool) (n k x : ℕ) → k ≡ n → x < 2 ^ n → bit_at (bit b * 2 ^ n + x) k ≡ bit b
last_bit b n k x e h = bit_at_cat_high (bit b) n x k h (omega arith) ∙ ap (bit_at (bit b)) (gone e) ∙ bit_at_lowest (bit b) ∙ small b
  where
    gone : k ≡ n → k - n ≡ 0
    gone e = omega arith

    small : (b : Bool) → bit b % 2 ≡ bit b
    small true = refl
    small false = refl

bit_at-sum_to : (test : ℕ → Bool) (n k : ℕ) → k < n → bit_at (sum_to test n) k ≡ bit (test (suc k))
bit_at-sum_to test zero k l = absurd (omega arith)
bit_at-sum_to test (suc n) k l = ap (λ x. bit_at x k) (sum_to_next test n) ∙ ⊎_elim
    (λ e. last_bit (test (suc n)) n k (sum_to test n) e (sum_to_below test n) ∙ ap (λ m. bit (test (suc m))) (sym e))
    (λ ne. (let h : k < n = omega arith in bit_at_cat_low (bit (test (suc n))) n (sum_to test n) k h ∙ bit_at-sum_to test n k h))
    (cases_eq k n)

set_of-sum_to : (test : ℕ → Bool) → set_of test ≡ sum_to test 12
unfolding set_of sum_to
set_of-sum_to test = refl

pub IsLegSet-set_of : (test : ℕ → Bool) → IsLegSet (set_of test)
IsLegSet-set_of test = let e = set_of-sum_to test in let h = sum_to_below test 12 in omega arith

pub bit_at-set_of : (test : ℕ → Bool) (k : ℕ) → k < 12 → bit_at (set_of test) k ≡ bit (test (suc k))
bit_at-set_of test k h = ap (λ x. bit_at x k) (set_of-sum_to test) ∙ bit_at-sum_to test 12 k h

-- a set by its bits
pub same_set_of : (set : ℕ) (test : ℕ → Bool) → IsLegSet set → ((k : ℕ) → k < 12 → bit_at set k ≡ bit (test (suc k))) → set ≡ set_of test
same_set_of set test w h = same_from_bits set (set_of test) (λ k. ⊎_elim
    (λ l. h k l ∙ sym (bit_at-set_of test k l))
    (λ g. bit_at_above set 12 k w g ∙ sym (bit_at_above (set_of test) 12 k (IsLegSet-set_of test) g))
    (cases_lt k 12))

-- two sets with the same legs are one
pub same_sets : (a b : ℕ) → ((leg : ℕ) → holds a leg ≡ holds b leg) → a ≡ b
same_sets a b h = same_from_bits a b (λ k. sym (bit-holds a k) ∙ ap bit (h (suc k)) ∙ bit-holds b k)

-- a set holds legs from 1 to 12
pub holds-zero : (set : ℕ) → holds set 0 ≡ false
unfolding holds
holds-zero set = refl

pub holds_above : (set leg : ℕ) → IsLegSet set → 12 < leg → holds set leg ≡ false
holds_above set zero w l = absurd (omega arith)
holds_above set (suc k) w l = holds-bit set k ∙ by (bit_at set k) (bit_at_above set 12 k w (omega arith))
  where
    by : (x : ℕ) → x ≡ 0 → eqb x 1 ≡ false
    by x e = grind (arith, nat_tests)

pub leg_range : (set leg : ℕ) → IsLegSet set → holds set leg ≡ true → (0 < leg) × (leg ≤ 12)
leg_range set leg w h = (
  ⊎_elim (λ e. absurd (true≢false (sym h ∙ ap (holds set) e ∙ holds-zero set))) (λ ne. omega arith) (cases_eq leg 0),
  ⊎_elim (λ l. absurd (true≢false (sym h ∙ holds_above set leg w l))) (λ g. g) (cases_lt 12 leg),
)

pub holds-set_of : (test : ℕ → Bool) (leg : ℕ) → 0 < leg → leg ≤ 12 → holds (set_of test) leg ≡ test leg
holds-set_of test zero p l = absurd (omega arith)
holds-set_of test (suc k) p l = holds-bit (set_of test) k ∙ by (bit_at (set_of test) k) (test (suc k)) (bit_at-set_of test k (omega arith))
  where
    by : (x : ℕ) (b : Bool) → x ≡ cond b 1 0 → eqb x 1 ≡ b
    by x true e = grind (arith, nat_tests)
    by x false e = grind (arith, nat_tests)
