-- What nodes hold that share out some legs.
use Rattle.std.proofs.Common.{◌≡◌, ℕ, zero, suc, ◌+◌, ◌<◌, ◌≤◌, List, [], ◌∷◌, length, map, Bool, true, false, ◌||◌, inl, inr, refl, sym, ◌∙◌, ap, subst, arith}
use Rattle.std.specs.Prelude.{nat_lt, slice_index, if◌then◌else◌}
use Rattle.std.proofs.lemmas.Bool.Decides.{nat_tests}
use Rattle.om_ring.specs.Members.{In}
use Rattle.om_legs.specs.Legs.{IsLegSet, holds, least, union}
use Rattle.om_legs.specs.Splits.{IsSplit, times_held}
use Rattle.om_legs.proofs.Bits.{bit, same_sets}
use Rattle.om_legs.proofs.FirstPart.{times_held-cons, IsLegSet-part, part_filled}
use Rattle.om_legs.proofs.Least.{least_range}
use Rattle.om_legs.proofs.LegLists.{holds_none}
use Rattle.om_legs.proofs.Operations.{holds-union, IsLegSet-union}
use Rattle.om_graph.specs.declared.Key.{Key}
use Rattle.om_graph.specs.Vertices.{sets_of}
use Rattle.om_graph.specs.Vertices as vertices
use Rattle.om_graph.proofs.SplitUnions.{union_is}
use Rattle.om_code.specs.Rules.{AreApart, are_in_order, are_ready}
use Rattle.om_code.specs.Slots.{fields_of, union_of}
use Rattle.om_emit.proofs.HeldFinds.{and_both}
use Rattle.om_emit.proofs.HeldNodes.{ready_held}

all_sets : List ℕ → Type 0
all_sets parts = (x : ℕ) → In x parts → IsLegSet x

union_assoc : (a b c : ℕ) → IsLegSet a → IsLegSet b → IsLegSet c → union (union a b) c ≡ union a (union b c)
union_assoc a b c x y z = same_sets (union (union a b) c) (union a (union b c)) (λ k.
    holds-union (union a b) c k (IsLegSet-union a b) z ∙ ap (λ t. t || holds c k) (holds-union a b k x y)
    ∙ or_assoc (holds a k) (holds b k) (holds c k)
    ∙ ap (λ t. holds a k || t) (sym (holds-union b c k y z)) ∙ sym (holds-union a (union b c) k x (IsLegSet-union b c)))
  where
    or_assoc : (p q r : Bool) → ((p || q) || r) ≡ (p || (q || r))
    or_assoc true q r = refl
    or_assoc false q r = refl

union_none : (a : ℕ) → IsLegSet a → union a 0 ≡ a
union_none a x = same_sets (union a 0) a (λ k. holds-union a 0 k x (omega arith) ∙ ap (λ t. holds a k || t) (holds_none k) ∙ or_false (holds a k))
  where
    or_false : (p : Bool) → (p || false) ≡ p
    or_false true = refl
    or_false false = refl

none_union : (a : ℕ) → IsLegSet a → union 0 a ≡ a
none_union a x = same_sets (union 0 a) a (λ k. holds-union 0 a k (omega arith) x ∙ ap (λ t. t || holds a k) (holds_none k))

IsLegSet-all : (parts : List ℕ) → IsLegSet (vertices.union_of parts)
unfolding vertices.union_of
IsLegSet-all [] = omega arith
IsLegSet-all (s ∷ parts) = IsLegSet-union s (vertices.union_of parts)

union_grows : (set : ℕ) (ks : List Key) → IsLegSet set → all_sets (sets_of ks) → union_of set (map ready_held ks) ≡ union set (vertices.union_of (sets_of ks))
unfolding vertices.union_of all_sets
union_grows set [] x h = sym (union_none set x)
union_grows set (k ∷ ks) x h =
    union_grows (union set k.legs) ks (IsLegSet-union set k.legs) (λ y i. h y (inr i))
    ∙ union_assoc set k.legs (vertices.union_of (sets_of ks)) x (h k.legs (inl refl)) (IsLegSet-all (sets_of ks))

-- no leg stands in two
apart_from : (before : ℕ) (ks : List Key) → IsLegSet before → all_sets (sets_of ks) → ((leg : ℕ) → bit (holds before leg) + times_held leg (sets_of ks) ≤ 1) → AreApart before (map ready_held ks)
unfolding all_sets
apart_from before [] x h few = tt
apart_from before (k ∷ ks) x h few = (
  (λ meet. twice (holds before meet.0) (holds k.legs meet.0) (times_held meet.0 (sets_of ks)) meet.1 meet.2 (let f = few meet.0 in let e = times_held-cons meet.0 k.legs (sets_of ks) in omega (arith, f, e))),
  apart_from (union before k.legs) ks (IsLegSet-union before k.legs) (λ y i. h y (inr i)) (λ leg.
      let f = few leg in
      let e = times_held-cons leg k.legs (sets_of ks) in
      let u = holds-union before k.legs leg x (h k.legs (inl refl)) in
      let o = or_less (holds before leg) (holds k.legs leg) in
      let b : bit (holds (union before k.legs) leg) ≡ bit (holds before leg || holds k.legs leg) = ap bit u in
      omega (arith, f, e, b, o)),
)
  where
    twice : (a b : Bool) (m : ℕ) → a ≡ true → b ≡ true → bit a + (bit b + m) ≤ 1 → ⊥
    twice true true m e f l = absurd (omega (arith, l))
    twice true false m e f l = absurd (let never : ⊥ = cc in never)
    twice false b m e f l = absurd (let never : ⊥ = cc in never)

    or_less : (a b : Bool) → bit (a || b) ≤ bit a + bit b
    or_less true b = omega arith
    or_less false b = omega arith

pub record ShareOut (set : ℕ) (ks : List Key) : Type 0 where
  pub all : union_of 0 (map ready_held ks) ≡ set
  pub apart : AreApart 0 (map ready_held ks)
  pub order : are_in_order 0 (map ready_held ks) ≡ true

-- numbers that rise from a lesser one
rising_after : (leg : ℕ) (ks : List Key) → ((k : ℕ) → k < length (map least (sets_of ks)) → slice_index (leg ∷ map least (sets_of ks)) k < slice_index (map least (sets_of ks)) k) → are_in_order leg (map ready_held ks) ≡ true
rising_after leg [] h = refl
rising_after leg (k ∷ ks) h =
    let first : leg < least k.legs = h 0 (omega arith) in
    let test : nat_lt leg (least k.legs) ≡ true = grind (arith, nat_tests) in
    and_both (nat_lt leg (least k.legs)) (are_in_order (least k.legs) (map ready_held ks)) test (rising_after (least k.legs) ks (λ j l. h (suc j) (omega arith)))

first_positive : (count set : ℕ) (ks : List Key) → IsLegSet set → IsSplit count set (sets_of ks) → (k : ℕ) → k < length (map least (sets_of ks)) → slice_index (0 ∷ map least (sets_of ks)) k < slice_index (map least (sets_of ks)) k
first_positive count set [] x split k l = absurd (omega arith)
first_positive count set (y ∷ ks) x split zero l = (least_range y.legs (IsLegSet-part count set (sets_of (y ∷ ks)) x split y.legs (inl refl)) (part_filled count set (sets_of (y ∷ ks)) split y.legs (inl refl))).0
first_positive count set (y ∷ ks) x split (suc k) l =
    let xs = map least (sets_of (y ∷ ks)) in
    let e : k + 1 ≡ suc k = omega arith in
    subst (λ m. slice_index xs k < slice_index xs m) e (split.ordered k (omega arith))

-- nodes whose sets are a split
pub shared_out : (count set : ℕ) (ks : List Key) → IsLegSet set → IsSplit count set (sets_of ks) → ShareOut set ks
unfolding all_sets
shared_out count set ks x split =
    let parts : all_sets (sets_of ks) = λ y i. IsLegSet-part count set (sets_of ks) x split y i in
    record {
      all = union_grows 0 ks (omega arith) parts ∙ none_union (vertices.union_of (sets_of ks)) (IsLegSet-all (sets_of ks)) ∙ union_is count set (sets_of ks) x split;
      apart = apart_from 0 ks (omega arith) parts (λ leg. let e = split.shared leg in let z = ap bit (holds_none leg) in once (holds set leg) (bit (holds 0 leg)) (times_held leg (sets_of ks)) z e);
      order = rising_after 0 ks (first_positive count set ks x split);
    }
  where
    once : (b : Bool) (m n : ℕ) → m ≡ 0 → n ≡ (if b then 1 else 0) → m + n ≤ 1
    once true m n e f = omega arith
    once false m n e f = omega arith

pub all_ready : (ks : List Key) → are_ready (map ready_held ks) ≡ true
all_ready [] = refl
all_ready (k ∷ ks) = all_ready ks

pub same_fields : (ks : List Key) → fields_of (map ready_held ks) ≡ vertices.fields_of ks
same_fields [] = refl
same_fields (k ∷ ks) = ap (λ xs. k.field ∷ xs) (same_fields ks)
