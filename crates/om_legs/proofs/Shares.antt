-- A set as a subset and the legs that it leaves.
use Rattle.std.proofs.Common.{◌≡◌, ℕ, ◌+◌, ◌<◌, Bool, true, false, eqb, not, ◌&&◌, ◌||◌, ◌⊎◌, inl, inr, refl, ap, sym, ◌∙◌, arith, bit_and, bit_or}
use Rattle.std.proofs.lemmas.Nat.{or_disjoint}
use Rattle.std.proofs.lemmas.Bool.{true≢false, and_parts, and_from, eq-eqb, ne_eqb}
use Rattle.om_legs.specs.Legs.{IsLegSet, IsSubset, holds, minus, meeting, union, least, set_of_one}
use Rattle.om_legs.specs.Walks.{without_least}
use Rattle.om_legs.proofs.Bits.{bit, same_sets}
use Rattle.om_legs.proofs.LegLists.{holds_none}
use Rattle.om_legs.proofs.Operations.{IsLegSet-minus, holds-minus, holds-meeting, holds-union, holds-set_of_one, union-bit_or, meeting-bit_and}
use Rattle.om_legs.proofs.Least.{IsSubset_holds, IsSubset_from, least_le, least_range, held_some}

-- a set holds a leg just where one of its two shares does
pub record AreShares (set a b : ℕ) : Type 0 where
  pub small : IsLegSet set
  pub first : IsLegSet a
  pub second : IsLegSet b
  pub shared : (leg : ℕ) → bit (holds a leg) + bit (holds b leg) ≡ bit (holds set leg)

pub AreShares-minus : (set b : ℕ) → IsLegSet set → IsLegSet b → IsSubset b set → AreShares set (minus set b) b
AreShares-minus set b w v h = record {
  small = w;
  first = IsLegSet-minus set b;
  second = v;
  shared = λ leg. by (holds (minus set b) leg) (holds set leg) (holds b leg) (holds-minus set b leg w) (IsSubset_holds b set leg v h);
}
  where
    by : (x s y : Bool) → x ≡ (s && not y) → (y ≡ true → s ≡ true) → bit x + bit y ≡ bit s
    by x true true e f = ap (λ x. bit x + 1) e
    by x true false e f = ap (λ x. bit x + 0) e
    by x false true e f = absurd (true≢false (sym (f refl)))
    by x false false e f = ap (λ x. bit x + 0) e

-- the other share is what the first leaves
pub second_share : (set a b : ℕ) → AreShares set a b → minus set a ≡ b
second_share set a b h = same_sets (minus set a) b (λ leg. holds-minus set a leg h.small ∙ by (holds set leg) (holds a leg) (holds b leg) (h.shared leg))
  where
    by : (s x y : Bool) → bit x + bit y ≡ bit s → (s && not x) ≡ y
    by true true true e = absurd (omega arith)
    by true true false e = refl
    by true false true e = refl
    by true false false e = absurd (omega arith)
    by false true true e = absurd (omega arith)
    by false true false e = absurd (omega arith)
    by false false true e = absurd (omega arith)
    by false false false e = refl

pub first_held : (set a b leg : ℕ) → AreShares set a b → holds a leg ≡ true → holds set leg ≡ true
first_held set a b leg h t = by (holds set leg) (holds a leg) (holds b leg) t (h.shared leg)
  where
    by : (s x y : Bool) → x ≡ true → bit x + bit y ≡ bit s → s ≡ true
    by true x y t e = refl
    by false x y t e = absurd (let f : bit x ≡ 1 = ap bit t in omega arith)

pub not_both_held : (set a b leg : ℕ) → AreShares set a b → holds a leg ≡ true → holds b leg ≡ true → ⊥
not_both_held set a b leg h t u = by (holds set leg) (holds a leg) (holds b leg) t u (h.shared leg)
  where
    by : (s x y : Bool) → x ≡ true → y ≡ true → bit x + bit y ≡ bit s → ⊥
    by true x y t u e = let f : bit x ≡ 1 = ap bit t in let g : bit y ≡ 1 = ap bit u in omega arith
    by false x y t u e = let f : bit x ≡ 1 = ap bit t in omega arith

pub held_by_one : (set a b leg : ℕ) → AreShares set a b → holds set leg ≡ true → (holds a leg ≡ true) ⊎ (holds b leg ≡ true)
held_by_one set a b leg h t = by (holds a leg) (holds b leg) (h.shared leg ∙ ap bit t)
  where
    by : (x y : Bool) → bit x + bit y ≡ 1 → (x ≡ true) ⊎ (y ≡ true)
    by true y e = inl refl
    by false true e = inr refl
    by false false e = absurd (omega arith)

-- the numbers of the shares add up
pub sum_of_shares : (set a b : ℕ) → AreShares set a b → a + b ≡ set
sum_of_shares set a b h =
    let none : bit_and a b ≡ 0 = meeting-bit_and a b h.first ∙ same_sets (meeting a b) 0 (λ leg. holds-meeting a b leg h.first ∙ apart (holds a leg) (holds b leg) (not_both_held set a b leg h) ∙ sym (holds_none leg)) in
    let whole : bit_or a b ≡ set = union-bit_or a b h.first h.second ∙ same_sets (union a b) set (λ leg. holds-union a b leg h.first h.second ∙ either (holds a leg) (holds b leg) (holds set leg) (h.shared leg)) in
    sym (or_disjoint a b none) ∙ whole
  where
    apart : (x y : Bool) → (x ≡ true → y ≡ true → ⊥) → (x && y) ≡ false
    apart true true f = absurd (f refl refl)
    apart true false f = refl
    apart false y f = refl

    either : (x y s : Bool) → bit x + bit y ≡ bit s → (x || y) ≡ s
    either true y true e = refl
    either true y false e = absurd (omega arith)
    either false true true e = refl
    either false true false e = absurd (omega arith)
    either false false true e = absurd (omega arith)
    either false false false e = refl

-- ---- all legs but the least

holds-without_least : (set leg : ℕ) → 0 < set → IsLegSet set → holds (without_least set) leg ≡ (holds set leg && not (eqb leg (least set)))
holds-without_least set leg p w =
    let r = least_range set w p in
    holds-minus set (set_of_one (least set)) leg w ∙ ap (λ b. holds set leg && not b) (holds-set_of_one (least set) leg r.0 r.1)

pub without_least_leg : (set leg : ℕ) → 0 < set → IsLegSet set → holds (without_least set) leg ≡ true → (holds set leg ≡ true) × (least set < leg)
without_least_leg set leg p w h =
    let t = and_parts (holds set leg) (not (eqb leg (least set))) (sym (holds-without_least set leg p w) ∙ h) in
    let l = least_le set leg w t.0 in
    let other : leg ≡ least set → ⊥ = λ e. true≢false (sym t.1 ∙ ap not (eq-eqb leg (least set) e)) in
    (t.0, omega arith)

pub IsSubset-without_least : (set b : ℕ) → IsLegSet set → IsLegSet b → ((leg : ℕ) → holds b leg ≡ true → (holds set leg ≡ true) × (leg ≡ least set → ⊥)) → IsSubset b (without_least set)
IsSubset-without_least set b w v h = IsSubset_from b (without_least set) v (λ leg t. (
    let k = h leg t in
    holds-without_least set leg (held_some set leg k.0) w ∙ and_from (holds set leg) (not (eqb leg (least set))) k.0 (ap not (ne_eqb leg (least set) k.1))
    ))
