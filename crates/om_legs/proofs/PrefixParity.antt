-- The parity of the bits below each place, by doubling.
use Rattle.std.proofs.Common.{◌≡◌, ℕ, zero, suc, ◌+◌, ◌-◌, ◌*◌, ◌/◌, ◌%◌, ◌^◌, ◌<◌, ◌≤◌, ⊎_elim, ap, sym, ◌∙◌, arith, bit_xor}
use Rattle.std.specs.Int.{bit_at}
use Rattle.std.proofs.lemmas.Nat.{pow_pos, div-add-mod'}
use Rattle.std.proofs.lemmas.Nat.Bits.{bit_at_xor, bit_at-zero, bit_at_cat_low, bit_at_cat_high, bit_at-lt}
use Rattle.std.proofs.lemmas.Bool.{cases_lt}
use Rattle.om_legs.specs.Crossings.{bit_sum}

-- ---- a shift to the left at 16 bits

bit_at-low_word : (x k : ℕ) → k < 16 → bit_at (x % 65536) k ≡ bit_at x k
bit_at-low_word x k h = sym (bit_at_cat_low (x / 65536) 16 (x % 65536) k h) ∙ ap (λ y. bit_at y k) (div-add-mod' x 65536)

shifted_low : (x s k : ℕ) → k < 16 → k < s → bit_at (x * 2 ^ s % 65536) k ≡ 0
shifted_low x s k h l = bit_at-low_word (x * 2 ^ s) k h ∙ ap (λ y. bit_at y k) (plus_zero (x * 2 ^ s)) ∙ bit_at_cat_low x s 0 k l ∙ bit_at-zero k
  where
    plus_zero : (y : ℕ) → y ≡ y + 0
    plus_zero y = omega arith

shifted_high : (x s k : ℕ) → k < 16 → s ≤ k → bit_at (x * 2 ^ s % 65536) k ≡ bit_at x (k - s)
shifted_high x s k h l = bit_at-low_word (x * 2 ^ s) k h ∙ ap (λ y. bit_at y k) (plus_zero (x * 2 ^ s)) ∙ bit_at_cat_high x s 0 k (pow_pos s) l
  where
    plus_zero : (y : ℕ) → y ≡ y + 0
    plus_zero y = omega arith

-- ---- windows

-- the bit of x at each place is the parity of the w bits of b below it
pub record Windows (b w x : ℕ) : Type 0 where
  pub each : (k : ℕ) → k < 16 → bit_at x k ≡ (bit_sum b k + bit_sum b (k - w)) % 2

pub window_of_one : (b : ℕ) → Windows b 1 (b * 2 ^ 1 % 65536)
unfolding bit_sum
window_of_one b = record { each = each }
  where
    each : (k : ℕ) → k < 16 → bit_at (b * 2 ^ 1 % 65536) k ≡ (bit_sum b k + bit_sum b (k - 1)) % 2
    each zero h = shifted_low b 1 0 h (omega arith)
    each (suc j) h =
        let e : bit_at (b * 2 ^ 1 % 65536) (suc j) ≡ bit_at b (suc j - 1) = shifted_high b 1 (suc j) h (omega arith) in
        let back : suc j - 1 ≡ j = omega arith in
        let f : bit_at b (suc j - 1) ≡ bit_at b j = ap (bit_at b) back in
        let g : bit_sum b (suc j - 1) ≡ bit_sum b j = ap (bit_sum b) back in
        let l = bit_at-lt b j in
        omega arith

pub window_doubled : (b w x : ℕ) → Windows b w x → Windows b (w + w) (bit_xor x (x * 2 ^ w % 65536))
window_doubled b w x h = record { each = λ k l. bit_at_xor x (x * 2 ^ w % 65536) k ∙ ⊎_elim (low k l) (high k l) (cases_lt k w) }
  where
    low : (k : ℕ) → k < 16 → k < w → (bit_at x k + bit_at (x * 2 ^ w % 65536) k) % 2 ≡ (bit_sum b k + bit_sum b (k - (w + w))) % 2
    low k l m =
        let z = shifted_low x w k l m in
        let e = h.each k l in
        let start : k - w ≡ k - (w + w) = omega arith in
        let f : bit_sum b (k - w) ≡ bit_sum b (k - (w + w)) = ap (bit_sum b) start in
        omega arith

    high : (k : ℕ) → k < 16 → w ≤ k → (bit_at x k + bit_at (x * 2 ^ w % 65536) k) % 2 ≡ (bit_sum b k + bit_sum b (k - (w + w))) % 2
    high k l m =
        let z = shifted_high x w k l m in
        let e = h.each k l in
        let d = h.each (k - w) (omega arith) in
        let start : (k - w) - w ≡ k - (w + w) = omega arith in
        let f : bit_sum b ((k - w) - w) ≡ bit_sum b (k - (w + w)) = ap (bit_sum b) start in
        omega arith

pub whole_window : (b x : ℕ) → Windows b 16 x → (k : ℕ) → k < 16 → bit_at x k ≡ bit_sum b k % 2
unfolding bit_sum
whole_window b x h k l =
    let start : k - 16 ≡ 0 = omega arith in
    let f : bit_sum b (k - 16) ≡ 0 = ap (bit_sum b) start in
    let e = h.each k l in
    omega arith
