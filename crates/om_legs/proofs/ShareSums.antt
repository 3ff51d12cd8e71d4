-- Sums over the legs of a set that is shared out: sizes and crossings add up.
use Rattle.std.proofs.Common.{◌≡◌, ℕ, zero, suc, ◌+◌, ◌*◌, ◌<◌, ◌≤◌, List, [], ◌∷◌, length, refl, ap, ap₂, sym, ◌∙◌, arith}
use Rattle.std.specs.List.{sum_by}
use Rattle.std.proofs.lemmas.List.Sums.{sum_by-cons}
use Rattle.om_legs.specs.Legs.{IsLegSet, IsSubset, holds, legs_of, every_leg, size, least, minus}
use Rattle.om_legs.proofs.Bits.{bit}
use Rattle.om_legs.proofs.LegLists.{leg_sum, sum_by-every_leg, legs_of-empty, Contains-legs_of}
use Rattle.om_legs.proofs.Crossings.{sum_by-filter}
use Rattle.om_legs.proofs.Least.{holds-least}
use Rattle.om_legs.proofs.Operations.{IsLegSet-subset}
use Rattle.om_legs.proofs.Shares.{AreShares, AreShares-minus, sum_of_shares}

pub sum_by-legs_of : (f : ℕ → ℕ) (set : ℕ) → sum_by f (legs_of set) ≡ leg_sum (λ leg. bit (holds set leg) * f leg) 12
unfolding legs_of
sum_by-legs_of f set = sum_by-filter (holds set) f every_leg ∙ sum_by-every_leg (λ leg. bit (holds set leg) * f leg)

shared_sum : (f : ℕ → ℕ) (set a b n : ℕ) → AreShares set a b → leg_sum (λ leg. bit (holds set leg) * f leg) n ≡ leg_sum (λ leg. bit (holds a leg) * f leg) n + leg_sum (λ leg. bit (holds b leg) * f leg) n
unfolding leg_sum
shared_sum f set a b zero h = refl
shared_sum f set a b (suc n) h =
    let ih = shared_sum f set a b n h in
    let e = by (bit (holds set (suc n))) (bit (holds a (suc n))) (bit (holds b (suc n))) (f (suc n)) (h.shared (suc n)) in
    omega arith
  where
    by : (s x y z : ℕ) → x + y ≡ s → s * z ≡ x * z + y * z
    by s x y z e = ap (λ t. t * z) (sym e) ∙ omega arith

-- a sum over the legs of a set is the sum over its two shares
pub sum_by-shares : (f : ℕ → ℕ) (set a b : ℕ) → AreShares set a b → sum_by f (legs_of set) ≡ sum_by f (legs_of a) + sum_by f (legs_of b)
sum_by-shares f set a b h = sum_by-legs_of f set ∙ shared_sum f set a b 12 h ∙ sym (ap₂ (λ x y. x + y) (sum_by-legs_of f a) (sum_by-legs_of f b))

-- ---- sizes

sum_of_ones : (xs : List ℕ) → sum_by (λ x. 1) xs ≡ length xs
sum_of_ones [] = refl
sum_of_ones (x ∷ xs) = sum_by-cons (λ y. 1) x xs ∙ (let ih = sum_of_ones xs in omega arith)

pub size-shares : (set a b : ℕ) → AreShares set a b → size set ≡ size a + size b
unfolding size
size-shares set a b h = sym (sum_of_ones (legs_of set)) ∙ sum_by-shares (λ x. 1) set a b h ∙ ap₂ (λ x y. x + y) (sum_of_ones (legs_of a)) (sum_of_ones (legs_of b))

pub size-empty : size 0 ≡ 0
unfolding size
size-empty = ap length legs_of-empty

pub size_some : (set : ℕ) → 0 < set → IsLegSet set → 0 < size set
unfolding size
size_some set p w = let c = (Contains-legs_of set (least set) w).1 (holds-least set p w) in let l = c.1 in omega arith

-- ---- subsets

subset_shares : (a b : ℕ) → IsLegSet b → IsSubset a b → AreShares b (minus b a) a
subset_shares a b w h = AreShares-minus b a w (IsLegSet-subset a b h) h

pub IsSubset_le : (a b : ℕ) → IsLegSet b → IsSubset a b → a ≤ b
IsSubset_le a b w h = let s = sum_of_shares b (minus b a) a (subset_shares a b w h) in omega arith
