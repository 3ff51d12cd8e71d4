-- A split is its first part, which has the least leg, and a split of the legs that it leaves.
use Rattle.std.proofs.Common.{◌≡◌, ℕ, suc, ◌+◌, ◌<◌, List, [], ◌∷◌, map, Bool, true, false, cond, inl, inr, ⊎_elim, refl, ap, sym, subst, ◌∙◌, arith}
use Rattle.std.specs.List.Sorted.{IsStrictlyIncreasing}
use Rattle.std.proofs.lemmas.List.Elements.{All-cons, All-tail, All-contains}
use Rattle.std.proofs.lemmas.List.Kept.{AllPairs-from_increasing}
use Rattle.std.proofs.lemmas.List.Sums.{sum_by-cons}
use Rattle.std.proofs.lemmas.Bool.{cases_Bool, cases_eq, true≢false}
use Rattle.om_legs.specs.Legs.{IsLegSet, IsSubset, holds, minus, least}
use Rattle.om_legs.specs.Walks.{without_least}
use Rattle.om_legs.specs.Splits.{IsSplit, times_held}
use Rattle.om_ring.specs.Members.{In}
use Rattle.om_ring.proofs.Members.{in_map, in_mapped}
use Rattle.om_legs.proofs.Members.{Contains-from_In, Rising, Rising-from_AllPairs, AllPairs-from_Rising}
use Rattle.om_legs.proofs.Bits.{bit, leg_range}
use Rattle.om_legs.proofs.LegLists.{holds_none}
use Rattle.om_legs.proofs.Operations.{IsLegSet-from_legs, IsLegSet-subset, IsLegSet-minus}
use Rattle.om_legs.proofs.Least.{holds-least, least_le, least_is, held_some, IsSubset_holds, IsSubset_from, without_least-empty}
use Rattle.om_legs.proofs.Shares.{AreShares, AreShares-minus, second_share, first_held, held_by_one, IsSubset-without_least, without_least_leg}

-- a first part: it leaves some legs, and not the least one
pub record IsFirst (set first others : ℕ) : Type 0 where
  pub some : 0 < others
  pub within : IsSubset others (without_least set)
  pub left : first ≡ minus set others

-- ---- rising numbers

rising_numbers : (xs : List ℕ) → IsStrictlyIncreasing xs → Rising (λ x y. x < y) xs
rising_numbers xs h = Rising-from_AllPairs (λ x y. x < y) xs (AllPairs-from_increasing xs h)

increasing_from_Rising : (xs : List ℕ) → Rising (λ x y. x < y) xs → IsStrictlyIncreasing xs
increasing_from_Rising xs h k l = AllPairs-from_Rising (λ x y. x < y) xs h k (k + 1) 0 (omega arith) l

-- ---- parts that share out a set

pub times_held-cons : (leg part : ℕ) (parts : List ℕ) → times_held leg (part ∷ parts) ≡ bit (holds part leg) + times_held leg parts
unfolding times_held
times_held-cons leg part parts = sum_by-cons (λ p. cond (holds p leg) 1 0) part parts

-- a leg of one of the parts is counted
pub held_counted : (leg part : ℕ) (parts : List ℕ) → In part parts → holds part leg ≡ true → 0 < times_held leg parts
held_counted leg part [] i h = absurd i
held_counted leg part (p ∷ parts) (inl e) h = let c = times_held-cons leg p parts in let t : bit (holds p leg) ≡ 1 = ap bit (ap (λ q. holds q leg) (sym e) ∙ h) in omega arith
held_counted leg part (p ∷ parts) (inr i) h = let c = times_held-cons leg p parts in let k = held_counted leg part parts i h in omega arith

-- a leg that is counted is one of a part's
pub counted_held : (leg : ℕ) (parts : List ℕ) → 0 < times_held leg parts → (part : ℕ) × In part parts × (holds part leg ≡ true)
unfolding times_held
counted_held leg [] h = absurd (omega arith)
counted_held leg (p ∷ parts) h = ⊎_elim
    (λ t. (p, inl refl, t))
    (λ f. (let c = times_held-cons leg p parts in let z : bit (holds p leg) ≡ 0 = ap bit f in let s = counted_held leg parts (omega arith) in (s.0, inr s.1, s.2)))
    (cases_Bool (holds p leg))

-- what the parts of a split have in common with the set
pub part_leg : (count set : ℕ) (parts : List ℕ) → IsSplit count set parts → (part leg : ℕ) → In part parts → holds part leg ≡ true → holds set leg ≡ true
part_leg count set parts h part leg i t = by (holds set leg) (held_counted leg part parts i t) (h.shared leg)
  where
    by : (b : Bool) → 0 < times_held leg parts → times_held leg parts ≡ bit b → b ≡ true
    by true p e = refl
    by false p e = absurd (omega arith)

pub leg_part : (count set : ℕ) (parts : List ℕ) → IsSplit count set parts → (leg : ℕ) → holds set leg ≡ true → (part : ℕ) × In part parts × (holds part leg ≡ true)
leg_part count set parts h leg t = counted_held leg parts (let e : times_held leg parts ≡ 1 = h.shared leg ∙ ap bit t in omega arith)

pub part_filled : (count set : ℕ) (parts : List ℕ) → IsSplit count set parts → (part : ℕ) → In part parts → 0 < part
part_filled count set parts h part i = All-contains (λ p. 0 < p) parts part h.filled (Contains-from_In parts part i)

pub IsLegSet-part : (count set : ℕ) (parts : List ℕ) → IsLegSet set → IsSplit count set parts → (part : ℕ) → In part parts → IsLegSet part
IsLegSet-part count set parts w h part i = IsLegSet-from_legs part (λ leg t. leg_range set leg w (part_leg count set parts h part leg i t))

-- ---- the first part of a split

module _ (count set : ℕ) (w : IsLegSet set) (first : ℕ) (parts : List ℕ) (h : IsSplit (suc (suc count)) set (first ∷ parts)) where
  first_shares : AreShares set (minus set first) first
  first_shares =
      let v = IsLegSet-part (suc (suc count)) set (first ∷ parts) w h first (inl refl) in
      AreShares-minus set first w v (IsSubset_from first set v (λ leg t. part_leg (suc (suc count)) set (first ∷ parts) h first leg (inl refl) t))

  first_below : (part : ℕ) → In part parts → least first < least part
  first_below part i = (rising_numbers (map least (first ∷ parts)) h.ordered).0 (least part) (in_map least part parts i)

  others_shared : (leg : ℕ) → times_held leg parts ≡ bit (holds (minus set first) leg)
  others_shared leg =
      let c = times_held-cons leg first parts in
      let e = h.shared leg in
      let s = first_shares.shared leg in
      omega arith

  pub split_of_others : IsSplit (suc count) (minus set first) parts
  split_of_others = record {
    counted = (let e = h.counted in omega arith);
    filled = All-tail (λ p. 0 < p) first parts h.filled;
    shared = others_shared;
    ordered = increasing_from_Rising (map least parts) (rising_numbers (map least (first ∷ parts)) h.ordered).1;
  }

  others_some : 0 < minus set first
  others_some = by parts split_of_others (λ part i. IsLegSet-part (suc (suc count)) set (first ∷ parts) w h part (inr i))
    where
      by : (parts : List ℕ) → IsSplit (suc count) (minus set first) parts → ((part : ℕ) → In part parts → IsLegSet part) → 0 < minus set first
      by [] s v = absurd (let e = s.counted in omega arith)
      by (p ∷ ps) s v = held_some (minus set first) (least p) (part_leg (suc count) (minus set first) (p ∷ ps) s p (least p) (inl refl) (holds-least p (part_filled (suc count) (minus set first) (p ∷ ps) s p (inl refl)) (v p (inl refl))))

  least_in_first : (leg : ℕ) → holds (minus set first) leg ≡ true → leg ≡ least set → ⊥
  least_in_first leg t e =
      let s = leg_part (suc count) (minus set first) parts split_of_others leg t in
      let a = least_le s.0 leg (IsLegSet-part (suc (suc count)) set (first ∷ parts) w h s.0 (inr s.1)) s.2 in
      let b = first_below s.0 s.1 in
      let v = IsLegSet-part (suc (suc count)) set (first ∷ parts) w h first (inl refl) in
      let held = part_leg (suc (suc count)) set (first ∷ parts) h first (least first) (inl refl) (holds-least first (part_filled (suc (suc count)) set (first ∷ parts) h first (inl refl)) v) in
      let c = least_le set (least first) w held in
      omega arith

  pub IsFirst-of_split : IsFirst set first (minus set first)
  IsFirst-of_split = record {
    some = others_some;
    within = IsSubset-without_least set (minus set first) w (IsLegSet-minus set first) (λ leg t. (first_held set (minus set first) first leg first_shares t, least_in_first leg t));
    left = sym (second_share set (minus set first) first first_shares);
  }

-- ---- a split from its first part

module _ (set : ℕ) (w : IsLegSet set) (first others : ℕ) (f : IsFirst set first others) where
  small : IsLegSet others
  small = IsLegSet-subset others (without_least set) f.within

  set_some : 0 < set
  set_some = ⊎_elim (λ e. absurd (true≢false (sym (held e) ∙ holds_none (least others)))) (λ ne. omega arith) (cases_eq set 0)
    where
      held : set ≡ 0 → holds 0 (least others) ≡ true
      held e = ap (λ s. holds s (least others)) (sym (ap without_least e ∙ without_least-empty)) ∙ IsSubset_holds others (without_least set) (least others) small f.within (holds-least others f.some small)

  other_leg : (leg : ℕ) → holds others leg ≡ true → (holds set leg ≡ true) × (least set < leg)
  other_leg leg t = without_least_leg set leg set_some w (IsSubset_holds others (without_least set) leg small f.within t)

  pub shares : AreShares set first others
  shares = subst (λ a. AreShares set a others) (sym f.left) (AreShares-minus set others w small (IsSubset_from others set small (λ leg t. (other_leg leg t).0)))

  first_has_least : holds first (least set) ≡ true
  first_has_least = ⊎_elim (λ t. t) (λ t. absurd (let l = (other_leg (least set) t).1 in omega arith)) (held_by_one set first others (least set) shares (holds-least set set_some w))

  least_first : least first ≡ least set
  least_first = least_is first (least set) shares.first first_has_least (λ leg t. least_le set leg w (first_held set first others leg shares t))

  module _ (count : ℕ) (parts : List ℕ) (h : IsSplit (suc count) others parts) where
    first_before : (part : ℕ) → In part parts → least first < least part
    first_before part i =
        let v = IsLegSet-part (suc count) others parts small h part i in
        let t = holds-least part (part_filled (suc count) others parts h part i) v in
        let l = (other_leg (least part) (part_leg (suc count) others parts h part (least part) i t)).1 in
        let e = least_first in
        omega arith

    pub split_from_first : IsSplit (suc (suc count)) set (first ∷ parts)
    split_from_first = record {
      counted = (let e = h.counted in omega arith);
      filled = All-cons (λ p. 0 < p) first parts (held_some first (least set) first_has_least) h.filled;
      shared = λ leg. (let c = times_held-cons leg first parts in let e = h.shared leg in let s = shares.shared leg in omega arith);
      ordered = increasing_from_Rising (map least (first ∷ parts)) ((λ l i. (let s = in_mapped least l parts i in subst (λ k. least first < k) (sym s.2) (first_before s.0 s.1))), rising_numbers (map least parts) h.ordered);
    }
