-- The least leg of a set among so many.
use Rattle.std.proofs.Common.{◌≡◌, ℕ, zero, suc, ◌+◌, ◌<◌, ◌≤◌, Bool, true, false, cond, not, ◌&&◌, leb, refl, ap, ap₂, sym, ◌∙◌, arith, true≢false, ⊎_elim}
use Rattle.std.proofs.lemmas.Bool.{lt-ltb, cases_Bool, cases_eq, cases_lt}
use Rattle.om_legs.specs.Legs.{IsLegSet, complement, holds, least}
use Rattle.om_legs.proofs.Bits.{holds-zero}
use Rattle.om_legs.proofs.Least.{holds-least, least_le, least-zero}
use Rattle.om_legs.proofs.LegLists.{holds_none}
use Rattle.om_legs.proofs.Operations.{holds-complement}
use Rattle.om_model.specs.Parts.{first_from, others}

-- it is the one number that the set holds, or the end, and below which the set holds none
first_from_is : (p : ℕ → Bool) (k m v : ℕ) → k ≤ v → v ≤ k + m → ((j : ℕ) → k ≤ j → j < v → p j ≡ false) → (v < k + m → p v ≡ true) → first_from p k m ≡ v
unfolding first_from
first_from_is p k zero v a b none some = omega arith
first_from_is p k (suc m) v a b none some = by (p k) refl (first_from_is p (suc k) m v)
  where
    by : (c : Bool) → p k ≡ c → (suc k ≤ v → v ≤ suc k + m → ((j : ℕ) → suc k ≤ j → j < v → p j ≡ false) → (v < suc k + m → p v ≡ true) → first_from p (suc k) m ≡ v) → cond c k (first_from p (suc k) m) ≡ v
    by true e ih = ⊎_elim (λ l. absurd (true≢false (sym e ∙ none k (omega arith) l))) (λ g. omega arith) (cases_lt k v)
    by false e ih = ⊎_elim (λ l. ih (omega arith) (omega arith) (λ j c d. none j (omega arith) d) (λ c. some (omega arith)))
        (λ g. let q : v ≡ k = omega arith in absurd (true≢false (sym (some (omega arith)) ∙ ap p q ∙ e))) (cases_lt k v)

first_from_same : (p q : ℕ → Bool) → ((k : ℕ) → p k ≡ q k) → (k m : ℕ) → first_from p k m ≡ first_from q k m
unfolding first_from
first_from_same p q h k zero = refl
first_from_same p q h k (suc m) = ap₂ (λ b n. cond b k n) (h k) (first_from_same p q h (suc k) m)

none_below : (s : ℕ) → IsLegSet s → (j : ℕ) → j < least s → holds s j ≡ false
none_below s w j l = ⊎_elim (λ t. absurd (let g = least_le s j w t in omega arith)) (λ f. f) (cases_Bool (holds s j))

pub first_none : (s n : ℕ) → IsLegSet s → least s ≡ 0 → first_from (holds s) 1 n ≡ n + 1
first_none s n w e = first_from_is (holds s) 1 n (n + 1) (omega arith) (omega arith) (λ j a l. ap (λ x. holds x j) (least-zero s w e) ∙ holds_none j) (λ l. absurd (omega arith))

pub first_least : (s n : ℕ) → IsLegSet s → 0 < least s → least s ≤ n → first_from (holds s) 1 n ≡ least s
first_least s n w p l = first_from_is (holds s) 1 n (least s) (omega arith) (omega arith) (λ j a b. none_below s w j b) (λ a. holds-least s (some s w p) w)
  where
    some : (s : ℕ) → IsLegSet s → 0 < least s → 0 < s
    some s w p = ⊎_elim (λ e. absurd (let f = ap least e ∙ Rattle.om_legs.proofs.LegLists.least-empty in omega arith)) (λ ne. omega arith) (cases_eq s 0)

pub first_beyond : (s n : ℕ) → IsLegSet s → n < least s → first_from (holds s) 1 n ≡ n + 1
first_beyond s n w l = first_from_is (holds s) 1 n (n + 1) (omega arith) (omega arith) (λ j a b. none_below s w j (omega arith)) (λ b. absurd (omega arith))

-- the least of the other legs
pub first_of_others : (s n : ℕ) → n ≤ 12 → first_from (holds (complement s n)) 1 n ≡ first_from (others n (holds s)) 1 n
unfolding others
first_of_others s n l = first_from_same (holds (complement s n)) (others n (holds s)) same 1 n
  where
    same : (k : ℕ) → holds (complement s n) k ≡ others n (holds s) k
    same zero = holds-zero (complement s n)
    same (suc k) = holds-complement s n (suc k) l (omega arith) ∙ sym (ap (λ b. (b && leb (suc k) n) && not (holds s (suc k))) (lt-ltb 0 (suc k) (omega arith)))
