-- What the operations on numbers make of sets of legs.
use Rattle.std.proofs.Common.{◌≡◌, ℕ, zero, suc, ◌-◌, ◌*◌, ◌/◌, ◌%◌, ◌^◌, ◌<◌, ◌≤◌, Bool, true, false, not, ◌&&◌, ◌||◌, eqb, leb, ⊎_elim, ap, sym, subst, ◌∙◌, arith, bit_and, bit_or, min, max}
use Rattle.std.specs.Int.{bit_at, bit_not, trailing_zeros, w16}
use Rattle.std.proofs.lemmas.Nat.{one_shl, or_lt, and_le_l, pow_below}
use Rattle.std.proofs.lemmas.Nat.Bits.{bit_at-lt, bit_at_and, bit_at_or, bit_at_not, bit_at-pow_same, bit_at-pow_other, bit_at_ones, bit_at_ones_above, bit_at-zero, bit_at-trailing_zeros, shr_and_one}
use Rattle.std.proofs.lemmas.Bool.{cases_eq, cases_lt, cases_Bool, true≢false, eq-eqb, ne_eqb, eqb-true, le-leb, lt-leb, leb-true, or_cases, and_parts}
use Rattle.om_legs.specs.Legs.{IsLegSet, holds, set_of, set_of_one, all_legs, union, minus, meeting, complement, Meet, IsSubset}
use Rattle.om_legs.proofs.Bits.{bit, bit-holds, holds-bit, holds-zero, same_set_of, same_sets, holds-set_of, IsLegSet-set_of, leg_range}

-- ---- the results are sets

pub IsLegSet-set_of_one : (leg : ℕ) → IsLegSet (set_of_one leg)
unfolding set_of_one
IsLegSet-set_of_one leg = IsLegSet-set_of (λ k. eqb k leg)

pub IsLegSet-all_legs : (n : ℕ) → IsLegSet (all_legs n)
unfolding all_legs
IsLegSet-all_legs n = IsLegSet-set_of (λ leg. leb leg n)

pub IsLegSet-union : (a b : ℕ) → IsLegSet (union a b)
unfolding union
IsLegSet-union a b = IsLegSet-set_of (λ leg. holds a leg || holds b leg)

pub IsLegSet-minus : (a b : ℕ) → IsLegSet (minus a b)
unfolding minus
IsLegSet-minus a b = IsLegSet-set_of (λ leg. holds a leg && not (holds b leg))

pub IsLegSet-meeting : (a b : ℕ) → IsLegSet (meeting a b)
unfolding meeting
IsLegSet-meeting a b = IsLegSet-set_of (λ leg. holds a leg && holds b leg)

pub IsLegSet-complement : (a n : ℕ) → IsLegSet (complement a n)
unfolding complement
IsLegSet-complement a n = IsLegSet-set_of (λ leg. leb leg n && not (holds a leg))

-- ---- what the operations on numbers make of them

pub IsLegSet-or : (a b : ℕ) → IsLegSet a → IsLegSet b → IsLegSet (bit_or a b)
IsLegSet-or a b p q = or_lt 12 a b p q

pub union-bit_or : (a b : ℕ) → IsLegSet a → IsLegSet b → bit_or a b ≡ union a b
unfolding union
union-bit_or a b p q = same_set_of (bit_or a b) (λ leg. holds a leg || holds b leg) (IsLegSet-or a b p q) (λ k l.
    bit_at_or a b k ∙ by (holds a (suc k)) (holds b (suc k)) (bit_at a k) (bit_at b k) (sym (bit-holds a k)) (sym (bit-holds b k)))
  where
    by : (b c : Bool) (x y : ℕ) → x ≡ bit b → y ≡ bit c → max x y ≡ bit (b || c)
    by true true x y e f = omega arith
    by true false x y e f = omega arith
    by false true x y e f = omega arith
    by false false x y e f = omega arith

pub meeting-bit_and : (a b : ℕ) → IsLegSet a → bit_and a b ≡ meeting a b
unfolding meeting
meeting-bit_and a b p = same_set_of (bit_and a b) (λ leg. holds a leg && holds b leg) (let l = and_le_l a b in omega arith) (λ k l.
    bit_at_and a b k ∙ by (holds a (suc k)) (holds b (suc k)) (bit_at a k) (bit_at b k) (sym (bit-holds a k)) (sym (bit-holds b k)))
  where
    by : (b c : Bool) (x y : ℕ) → x ≡ bit b → y ≡ bit c → min x y ≡ bit (b && c)
    by true true x y e f = omega arith
    by true false x y e f = omega arith
    by false true x y e f = omega arith
    by false false x y e f = omega arith

pub minus-bit_and : (a b : ℕ) → IsLegSet a → IsLegSet b → bit_and a (bit_not w16 b) ≡ minus a b
unfolding minus
minus-bit_and a b p q = same_set_of (bit_and a (bit_not w16 b)) (λ leg. holds a leg && not (holds b leg)) (let l = and_le_l a (bit_not w16 b) in omega arith) (λ k l.
    bit_at_and a (bit_not w16 b) k ∙ by (holds a (suc k)) (holds b (suc k)) (bit_at a k) (bit_at b k) (bit_at (bit_not w16 b) k) (sym (bit-holds a k)) (sym (bit-holds b k)) (bit_at_not w16 b k (omega arith) (omega arith)))
  where
    by : (b c : Bool) (x y z : ℕ) → x ≡ bit b → y ≡ bit c → z ≡ 1 - y → min x z ≡ bit (b && not c)
    by true true x y z e f g = omega arith
    by true false x y z e f g = omega arith
    by false true x y z e f g = omega arith
    by false false x y z e f g = omega arith

pub all_legs-ones : (n : ℕ) → n ≤ 12 → 2 ^ n - 1 ≡ all_legs n
unfolding all_legs
all_legs-ones n h = same_set_of (2 ^ n - 1) (λ leg. leb leg n) (let p = pow_le n h in omega arith) (λ k l. ⊎_elim
    (λ below. bit_at_ones n k below ∙ ap bit (sym (le-leb (suc k) n (omega arith))))
    (λ above. bit_at_ones_above n k above ∙ ap bit (sym (lt-leb (suc k) n (omega arith))))
    (cases_lt k n))
  where
    pow_le : (n : ℕ) → n ≤ 12 → 2 ^ n ≤ 2 ^ 12
    pow_le n h = ⊎_elim (λ e. (let f : 2 ^ n ≡ 2 ^ 12 = ap (λ m. 2 ^ m) e in omega arith)) (λ ne. (let p = pow_below n 12 (omega arith) in omega arith)) (cases_eq n 12)

pub set_of_one-pow : (k : ℕ) → k < 12 → 2 ^ k ≡ set_of_one (suc k)
unfolding set_of_one
set_of_one-pow k h = same_set_of (2 ^ k) (λ leg. eqb leg (suc k)) (pow_below k 12 h) (λ j l. ⊎_elim
    (λ e. ap (bit_at (2 ^ k)) e ∙ bit_at-pow_same k ∙ ap bit (sym (eq-eqb (suc j) (suc k) (omega arith))))
    (λ ne. bit_at-pow_other k j ne ∙ ap bit (sym (ne_eqb (suc j) (suc k) (λ e. ne (omega arith)))))
    (cases_eq j k))

-- the test of one bit
pub holds-shifted : (set leg : ℕ) → 0 < leg → eqb (bit_and (set / 2 ^ (leg - 1)) 1) 1 ≡ holds set leg
holds-shifted set zero p = absurd (omega arith)
holds-shifted set (suc k) p = ap (λ j. eqb (bit_and (set / 2 ^ j) 1) 1) (back k) ∙ ap (λ x. eqb x 1) (shr_and_one set k) ∙ sym (holds-bit set k)
  where
    back : (k : ℕ) → suc k - 1 ≡ k
    back k = omega arith

pub Meet-from_bits : (a b : ℕ) → IsLegSet a → not (eqb (bit_and a b) 0) ≡ true → Meet a b
Meet-from_bits a b w h =
    let n = bit_and a b in
    let some : n ≡ 0 → ⊥ = λ e. true≢false (sym h ∙ ap not (eq-eqb n 0 e)) in
    let small : n < 2 ^ 16 = let l = and_le_l a b in omega arith in
    let t = bit_at-trailing_zeros w16 n (omega arith) small in
    let k = trailing_zeros w16 n in
    let m : min (bit_at a k) (bit_at b k) ≡ 1 = sym (bit_at_and a b k) ∙ t.1 in
    (suc k, held a k (bit_at-lt a k) (omega arith), held b k (bit_at-lt b k) (omega arith))
  where
    held : (s k : ℕ) → bit_at s k < 2 → 0 < bit_at s k → holds s (suc k) ≡ true
    held s k l p = holds-bit s k ∙ eq-eqb (bit_at s k) 1 (omega arith)

pub bits_from_Meet : (a b : ℕ) → Meet a b → not (eqb (bit_and a b) 0) ≡ true
bits_from_Meet a b (leg, p, q) = by leg p q
  where
    by : (leg : ℕ) → holds a leg ≡ true → holds b leg ≡ true → not (eqb (bit_and a b) 0) ≡ true
    by zero p q = absurd (true≢false (sym p ∙ holds-zero a))
    by (suc k) p q =
        let x : bit_at a k ≡ 1 = sym (bit-holds a k) ∙ ap bit p in
        let y : bit_at b k ≡ 1 = sym (bit-holds b k) ∙ ap bit q in
        let m = bit_at_and a b k in
        ap not (ne_eqb (bit_and a b) 0 (λ e. (let f : bit_at (bit_and a b) k ≡ bit_at 0 k = ap (λ n. bit_at n k) e in let z = bit_at-zero k in omega arith)))

-- ---- which legs the results hold

-- where only legs pass the test
holds-set_of_legs : (test : ℕ → Bool) (leg : ℕ) → (test leg ≡ true → (0 < leg) × (leg ≤ 12)) → holds (set_of test) leg ≡ test leg
holds-set_of_legs test leg h = ⊎_elim
    (λ t. (let r = h t in holds-set_of test leg r.0 r.1))
    (λ f. outside (λ t. (let r = leg_range (set_of test) leg (IsLegSet-set_of test) t in sym t ∙ holds-set_of test leg r.0 r.1)) f)
    (cases_Bool (test leg))
  where
    outside : (holds (set_of test) leg ≡ true → true ≡ test leg) → test leg ≡ false → holds (set_of test) leg ≡ test leg
    outside h f = ⊎_elim (λ t. t ∙ h t) (λ e. e ∙ sym f) (cases_Bool (holds (set_of test) leg))

pub holds-union : (a b leg : ℕ) → IsLegSet a → IsLegSet b → holds (union a b) leg ≡ (holds a leg || holds b leg)
unfolding union
holds-union a b leg p q = holds-set_of_legs (λ leg. holds a leg || holds b leg) leg (λ t. ⊎_elim (leg_range a leg p) (leg_range b leg q) (or_cases (holds a leg) (holds b leg) t))

pub holds-minus : (a b leg : ℕ) → IsLegSet a → holds (minus a b) leg ≡ (holds a leg && not (holds b leg))
unfolding minus
holds-minus a b leg p = holds-set_of_legs (λ leg. holds a leg && not (holds b leg)) leg (λ t. leg_range a leg p (and_parts (holds a leg) (not (holds b leg)) t).0)

pub holds-meeting : (a b leg : ℕ) → IsLegSet a → holds (meeting a b) leg ≡ (holds a leg && holds b leg)
unfolding meeting
holds-meeting a b leg p = holds-set_of_legs (λ leg. holds a leg && holds b leg) leg (λ t. leg_range a leg p (and_parts (holds a leg) (holds b leg) t).0)

-- the legs 1 to n
pub holds-all_legs : (n leg : ℕ) → n ≤ 12 → 0 < leg → holds (all_legs n) leg ≡ leb leg n
unfolding all_legs
holds-all_legs n leg h p = holds-set_of_legs (λ leg. leb leg n) leg (λ t. (p, (let l = leb-true leg n t in omega arith)))

pub holds-complement : (a n leg : ℕ) → n ≤ 12 → 0 < leg → holds (complement a n) leg ≡ (leb leg n && not (holds a leg))
unfolding complement
holds-complement a n leg h p = holds-set_of_legs (λ leg. leb leg n && not (holds a leg)) leg (λ t. (p, (let l = leb-true leg n (and_parts (leb leg n) (not (holds a leg)) t).0 in omega arith)))

pub holds-set_of_one : (leg k : ℕ) → 0 < leg → leg ≤ 12 → holds (set_of_one leg) k ≡ eqb k leg
unfolding set_of_one
holds-set_of_one leg k p l = holds-set_of_legs (λ k. eqb k leg) k (λ t. (let e = eqb-true k leg t in (omega arith, omega arith)))

-- the complement is what the set leaves of all legs
pub complement-minus : (a n : ℕ) → n ≤ 12 → minus (all_legs n) a ≡ complement a n
complement-minus a n h = same_sets (minus (all_legs n) a) (complement a n) same
  where
    same : (leg : ℕ) → holds (minus (all_legs n) a) leg ≡ holds (complement a n) leg
    same zero = holds-zero (minus (all_legs n) a) ∙ sym (holds-zero (complement a n))
    same (suc k) =
        holds-minus (all_legs n) a (suc k) (IsLegSet-all_legs n)
        ∙ ap (λ b. b && not (holds a (suc k))) (holds-all_legs n (suc k) h (omega arith))
        ∙ sym (holds-complement a n (suc k) h (omega arith))

-- ---- what `1 << k` computes

pub all_legs-shifted : (n : ℕ) → n ≤ 12 → 1 * 2 ^ n % 65536 - 1 ≡ all_legs n
all_legs-shifted n h = ap (λ x. x - 1) (one_shl n 16 (omega arith)) ∙ all_legs-ones n h

pub IsLegSet-all : (n : ℕ) → n ≤ 12 → IsLegSet (1 * 2 ^ n % 65536 - 1)
IsLegSet-all n h = subst IsLegSet (sym (all_legs-shifted n h)) (IsLegSet-all_legs n)

pub set_of_one-shifted : (leg : ℕ) → 0 < leg → leg ≤ 12 → 1 * 2 ^ (leg - 1) % 65536 ≡ set_of_one leg
set_of_one-shifted zero p l = absurd (omega arith)
set_of_one-shifted (suc k) p l = ap (λ j. 1 * 2 ^ j % 65536) (back k) ∙ one_shl k 16 (omega arith) ∙ set_of_one-pow k (omega arith)
  where
    back : (k : ℕ) → suc k - 1 ≡ k
    back k = omega arith

pub IsLegSet-one : (leg : ℕ) → 0 < leg → leg ≤ 12 → IsLegSet (1 * 2 ^ (leg - 1) % 65536)
IsLegSet-one leg p l = subst IsLegSet (sym (set_of_one-shifted leg p l)) (IsLegSet-set_of_one leg)

-- a number that holds none but the legs 1 to 12 is a set
pub IsLegSet-from_legs : (set : ℕ) → ((leg : ℕ) → holds set leg ≡ true → (0 < leg) × (leg ≤ 12)) → IsLegSet set
IsLegSet-from_legs set h = subst IsLegSet (same_sets (set_of (holds set)) set (λ leg. holds-set_of_legs (holds set) leg (h leg))) (IsLegSet-set_of (holds set))

pub IsLegSet-subset : (a b : ℕ) → IsSubset a b → IsLegSet a
IsLegSet-subset a b h = subst IsLegSet h (IsLegSet-meeting a b)
