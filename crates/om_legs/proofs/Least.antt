-- The least leg of a set.
use Rattle.std.proofs.Common.{◌≡◌, ℕ, zero, suc, ◌+◌, ◌<◌, ◌≤◌, Bool, true, false, not, ◌&&◌, ⊎_elim, refl, ap, sym, ◌∙◌, arith}
use Rattle.std.specs.Int.{bit_at, trailing_zeros, w16}
use Rattle.std.proofs.lemmas.Nat.Bits.{bit_at-trailing_zeros}
use Rattle.std.proofs.lemmas.Bool.{cases_eq, cases_lt, true≢false, eq-eqb, and_left}
use Rattle.om_legs.specs.Legs.{IsLegSet, IsSubset, holds, least, set_of_one, meeting}
use Rattle.om_legs.specs.Walks.{without_least}
use Rattle.om_legs.proofs.Bits.{bit, bit-holds, holds-bit, holds-zero, same_sets, leg_range}
use Rattle.om_legs.proofs.LegLists.{least-empty, least-trailing_zeros, holds_none}
use Rattle.om_legs.proofs.Operations.{holds-minus, holds-meeting}

pub held_some : (set leg : ℕ) → holds set leg ≡ true → 0 < set
held_some set leg h = ⊎_elim (λ e. absurd (true≢false (sym h ∙ ap (λ s. holds s leg) e ∙ holds_none leg))) (λ ne. omega arith) (cases_eq set 0)

pub holds-least : (set : ℕ) → 0 < set → IsLegSet set → holds set (least set) ≡ true
holds-least set p w =
    let t = bit_at-trailing_zeros w16 set p (omega arith) in
    let k = trailing_zeros w16 set in
    ap (holds set) (least-trailing_zeros set p w ∙ next k) ∙ holds-bit set k ∙ eq-eqb (bit_at set k) 1 t.1
  where
    next : (k : ℕ) → k + 1 ≡ suc k
    next k = omega arith

pub least_le : (set leg : ℕ) → IsLegSet set → holds set leg ≡ true → least set ≤ leg
least_le set zero w h = absurd (true≢false (sym h ∙ holds-zero set))
least_le set (suc k) w h =
    let p = held_some set (suc k) h in
    let t = bit_at-trailing_zeros w16 set p (omega arith) in
    let e = least-trailing_zeros set p w in
    let here : bit_at set k ≡ 1 = sym (bit-holds set k) ∙ ap bit h in
    ⊎_elim (λ l. absurd (let z = t.2 k l in omega arith)) (λ g. omega arith) (cases_lt k (trailing_zeros w16 set))

pub least_range : (set : ℕ) → IsLegSet set → 0 < set → (0 < least set) × (least set ≤ 12)
least_range set w p = leg_range set (least set) w (holds-least set p w)

pub least-le-12 : (set : ℕ) → IsLegSet set → least set ≤ 12
least-le-12 set w = ⊎_elim (λ e. (let f : least set ≡ 0 = ap least e ∙ least-empty in omega arith)) (λ ne. (least_range set w (omega arith)).1) (cases_eq set 0)

pub least-zero : (set : ℕ) → IsLegSet set → least set ≡ 0 → set ≡ 0
least-zero set w e = ⊎_elim (λ z. z) (λ ne. absurd (let r = least_range set w (omega arith) in omega arith)) (cases_eq set 0)

-- the one leg that is held and below all held legs
pub least_is : (set leg : ℕ) → IsLegSet set → holds set leg ≡ true → ((k : ℕ) → holds set k ≡ true → leg ≤ k) → least set ≡ leg
least_is set leg w h below =
    let a = least_le set leg w h in
    let b = below (least set) (holds-least set (held_some set leg h) w) in
    omega arith

-- ---- subsets by their legs

pub IsSubset-refl : (set : ℕ) → IsLegSet set → IsSubset set set
IsSubset-refl set w = same_sets (meeting set set) set (λ leg. holds-meeting set set leg w ∙ same (holds set leg))
  where
    same : (b : Bool) → (b && b) ≡ b
    same true = refl
    same false = refl

pub IsSubset_holds : (a b leg : ℕ) → IsLegSet a → IsSubset a b → holds a leg ≡ true → holds b leg ≡ true
IsSubset_holds a b leg w h t = right (holds a leg) (holds b leg) t (sym (holds-meeting a b leg w) ∙ ap (λ s. holds s leg) h)
  where
    right : (x y : Bool) → x ≡ true → (x && y) ≡ x → y ≡ true
    right true y e f = f
    right false y e f = absurd (true≢false (sym e))

pub IsSubset_from : (a b : ℕ) → IsLegSet a → ((leg : ℕ) → holds a leg ≡ true → holds b leg ≡ true) → IsSubset a b
IsSubset_from a b w h = same_sets (meeting a b) a (λ leg. holds-meeting a b leg w ∙ by (holds a leg) (holds b leg) (h leg))
  where
    by : (x y : Bool) → (x ≡ true → y ≡ true) → (x && y) ≡ x
    by true y f = f refl
    by false y f = refl

-- ---- the legs but the least

pub without_least-empty : without_least 0 ≡ 0
without_least-empty = same_sets (without_least 0) 0 (λ leg. holds-minus 0 (set_of_one (least 0)) leg small ∙ and_left (holds 0 leg) (not (holds (set_of_one (least 0)) leg)) (holds_none leg) ∙ sym (holds_none leg))
  where
    small : IsLegSet 0
    small = omega arith
