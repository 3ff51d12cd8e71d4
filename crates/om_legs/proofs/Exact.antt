-- The walks give every split, each once.
use Rattle.std.proofs.Common.{◌≡◌, ◌≢◌, ℕ, suc, ◌+◌, ◌<◌, ◌≤◌, List, [], ◌∷◌, map, length, get_or, nat_eq, Bool, true, false, cond, refl, ap, sym, subst, ◌∙◌, arith}
use Rattle.std.specs.List.{flat_map}
use Rattle.std.specs.Ordering.{nat_cmp, is_lt, ordering_then}
use Rattle.std.specs.declared.cmp.Ordering.TheVariants.{Less, Equal, Greater}
use Rattle.std.specs.Cmp.Lexicographic.{slice_cmp}
use Rattle.std.proofs.lemmas.Nat.{and_le_r}
use Rattle.std.proofs.lemmas.List.Elements.{All-cons, All-nil}
use Rattle.std.proofs.lemmas.Bool.{true≢false, lt-ltb, le-ltb, eq-eqb}
use Rattle.std.proofs.lemmas.Cmp.{nat_list_cmp_total, tied_itself}
use Rattle.om_legs.specs.Legs.{IsLegSet, holds, minus}
use Rattle.om_legs.specs.Walks.{without_least, subsets_down, pairs_left, pairs, refined, triples, quadruples}
use Rattle.om_legs.specs.Splits.{IsSplit, times_held, IsBefore, AreSplits}
use Rattle.om_ring.specs.Members.{In}
use Rattle.om_ring.proofs.Members.{in_map, in_mapped, in_flat_map, from_flat_map}
use Rattle.om_legs.proofs.Members.{Contains-from_In, In-from_Contains, Rising, AllPairs-from_Rising, Rising-map, Rising-flat_map, Rising-weaker}
use Rattle.om_legs.proofs.Bits.{bit, same_sets}
use Rattle.om_legs.proofs.Operations.{meeting-bit_and, IsLegSet-subset}
use Rattle.om_legs.proofs.Subsets.{in_subsets_down, subsets_down_in, subsets_fall}
use Rattle.om_legs.proofs.Shares.{sum_of_shares}
use Rattle.om_legs.proofs.FirstPart.{IsFirst, IsFirst-of_split, split_of_others, split_from_first, shares}

-- ---- lists before lists

first_less : (a b : ℕ) (xs ys : List ℕ) → a < b → IsBefore (a ∷ xs) (b ∷ ys)
first_less a b xs ys h = ap (λ t. is_lt (ordering_then (cond t Less (cond (nat_eq a b) Equal Greater)) (slice_cmp nat_cmp xs ys))) (lt-ltb a b h)

first_same : (a : ℕ) (xs ys : List ℕ) → IsBefore xs ys → IsBefore (a ∷ xs) (a ∷ ys)
first_same a xs ys h = ap (λ o. is_lt (ordering_then o (slice_cmp nat_cmp xs ys))) (equal a) ∙ h
  where
    equal : (a : ℕ) → nat_cmp a a ≡ Equal
    equal a = ap (λ t. cond t Less (cond (nat_eq a a) Equal Greater)) (le-ltb a a (omega arith)) ∙ ap (λ t. cond t Equal Greater) (eq-eqb a a refl)

before_other : (xs ys : List ℕ) → IsBefore xs ys → xs ≢ ys
before_other xs ys h e = true≢false (sym h ∙ ap (λ zs. is_lt (slice_cmp nat_cmp xs zs)) (sym e) ∙ ap is_lt (tied_itself nat_list_cmp_total xs))

-- ---- every split, each once, by recursion on the list

record Exact (count set : ℕ) (items : List (List ℕ)) : Type 0 where
  right : (parts : List ℕ) → In parts items → IsSplit count set parts
  complete : (parts : List ℕ) → IsSplit count set parts → In parts items
  rises : Rising IsBefore items

AreSplits-from_Exact : (count set : ℕ) (items : List (List ℕ)) → Exact count set items → AreSplits count set items
AreSplits-from_Exact count set items h = record {
  members = λ parts. ((λ c. h.right parts (In-from_Contains items parts c)), (λ s. Contains-from_In items parts (h.complete parts s)));
  once = AllPairs-from_Rising ◌≢◌ items (Rising-weaker IsBefore ◌≢◌ items (λ xs ys i j b. before_other xs ys b) h.rises);
  rising = AllPairs-from_Rising IsBefore items h.rises;
}

-- ---- one part

pub one_part : (set : ℕ) → 0 < set → IsSplit 1 set (set ∷ [])
unfolding times_held
one_part set p = record {
  counted = refl;
  filled = All-cons (λ part. 0 < part) set [] p (All-nil (λ part. 0 < part));
  shared = λ leg. zero_plus (bit (holds set leg));
  ordered = λ k l. absurd (omega arith);
}
  where
    zero_plus : (n : ℕ) → 0 + n ≡ n
    zero_plus n = omega arith

pub the_one_part : (set : ℕ) (parts : List ℕ) → IsSplit 1 set parts → parts ≡ set ∷ []
unfolding times_held
the_one_part set [] h = absurd (let e = h.counted in omega arith)
the_one_part set (part ∷ []) h = ap (λ p. p ∷ []) (same_sets part set (λ leg. by (holds part leg) (holds set leg) (h.shared leg)))
  where
    by : (x y : Bool) → 0 + bit x ≡ bit y → x ≡ y
    by true true e = refl
    by true false e = absurd (omega arith)
    by false true e = absurd (omega arith)
    by false false e = refl
the_one_part set (part ∷ p ∷ parts) h = absurd (let e = h.counted in omega arith)

-- ---- the pairs of a first part and the legs that it leaves

in_pairs : (set : ℕ) (x : List ℕ) → In x (pairs set) → (others : ℕ) × IsFirst set (minus set others) others × (x ≡ minus set others ∷ others ∷ [])
unfolding pairs_left
in_pairs set x i =
    let s = in_mapped (λ part. minus set part ∷ part ∷ []) x (subsets_down (without_least set) (without_least set)) i in
    let u = in_subsets_down (without_least set) (without_least set) s.0 s.1 in
    (s.0, record { some = u.some; within = u.within; left = refl }, s.2)

pairs_in : (set first others : ℕ) → IsFirst set first others → In (first ∷ others ∷ []) (pairs set)
unfolding pairs_left
pairs_in set first others f =
    let rest = without_least set in
    let most : others ≤ rest = (let e = meeting-bit_and others rest (IsLegSet-subset others rest f.within) ∙ f.within in let l = and_le_r others rest in omega arith) in
    let i = in_map (λ part. minus set part ∷ part ∷ []) others (subsets_down rest rest) (subsets_down_in rest rest others f.some most f.within) in
    subst (λ a. In (a ∷ others ∷ []) (map (λ part. minus set part ∷ part ∷ []) (subsets_down rest rest))) (sym f.left) i

-- a first part that leaves less is greater
first_rises : (set b c : ℕ) → IsLegSet set → IsFirst set (minus set b) b → IsFirst set (minus set c) c → c < b → minus set b < minus set c
first_rises set b c w f g l =
    let x = sum_of_shares set (minus set b) b (shares set w (minus set b) b f) in
    let y = sum_of_shares set (minus set c) c (shares set w (minus set c) c g) in
    omega arith

-- the first part of the one is less than that of the other
abbrev FirstLess : List ℕ → List ℕ → Type 0
FirstLess x y = get_or x 0 0 < get_or y 0 0

pairs_rise : (set : ℕ) → IsLegSet set → Rising FirstLess (pairs set)
unfolding pairs_left
pairs_rise set w = Rising-map (λ b c. c < b) FirstLess (λ part. minus set part ∷ part ∷ []) (subsets_down (without_least set) (without_least set)) (λ b c i j l. first_rises set b c w (first b i) (first c j) l) (subsets_fall (without_least set) (without_least set))
  where
    first : (b : ℕ) → In b (subsets_down (without_least set) (without_least set)) → IsFirst set (minus set b) b
    first b i = let u = in_subsets_down (without_least set) (without_least set) b i in record { some = u.some; within = u.within; left = refl }

less_before : (x y : List ℕ) → length x ≡ 2 → length y ≡ 2 → FirstLess x y → IsBefore x y
less_before [] y e f h = absurd (omega arith)
less_before (a ∷ x) [] e f h = absurd (omega arith)
less_before (a ∷ x) (b ∷ y) e f h = first_less a b x y h

pairs_exact : (set : ℕ) → IsLegSet set → Exact 2 set (pairs set)
pairs_exact set w = record {
  right = right;
  complete = complete;
  rises = Rising-weaker FirstLess IsBefore (pairs set) (λ x y i j h. less_before x y (right x i).counted (right y j).counted h) (pairs_rise set w);
}
  where
    right : (x : List ℕ) → In x (pairs set) → IsSplit 2 set x
    right x i =
        let s = in_pairs set x i in
        subst (IsSplit 2 set) (sym s.2) (split_from_first set w (minus set s.0) s.0 s.1 0 (s.0 ∷ []) (one_part s.0 s.1.some))

    complete : (x : List ℕ) → IsSplit 2 set x → In x (pairs set)
    complete [] h = absurd (let e = h.counted in omega arith)
    complete (first ∷ parts) h =
        let others = minus set first in
        let e = the_one_part others parts (split_of_others 0 set w first parts h) in
        subst (λ ps. In (first ∷ ps) (pairs set)) (sym e) (pairs_in set first others (IsFirst-of_split 0 set w first parts h))

-- ---- refined pairs

module _ (count : ℕ) (splits : ℕ → List (List ℕ)) (each : (others : ℕ) → IsLegSet others → Exact (suc count) others (splits others)) (set : ℕ) (w : IsLegSet set) where
  refined_right : (x : List ℕ) → In x (flat_map (refined splits) (pairs set)) → IsSplit (suc (suc count)) set x
  refined_right x i =
      let s = from_flat_map (refined splits) x (pairs set) i in
      let p = in_pairs set s.0 s.1 in
      let others = p.0 in
      let t = in_mapped (λ parts. minus set others ∷ parts) x (splits others) (subst (λ y. In x (refined splits y)) p.2 s.2) in
      let h = (each others (IsLegSet-subset others (without_least set) p.1.within)).right t.0 t.1 in
      subst (IsSplit (suc (suc count)) set) (sym t.2) (split_from_first set w (minus set others) others p.1 count t.0 h)

  refined_complete : (x : List ℕ) → IsSplit (suc (suc count)) set x → In x (flat_map (refined splits) (pairs set))
  refined_complete [] h = absurd (let e = h.counted in omega arith)
  refined_complete (first ∷ parts) h =
      let others = minus set first in
      let f = IsFirst-of_split count set w first parts h in
      let i = (each others (IsLegSet-subset others (without_least set) f.within)).complete parts (split_of_others count set w first parts h) in
      in_flat_map (refined splits) (first ∷ others ∷ []) (first ∷ parts) (pairs set) (pairs_in set first others f) (in_map (λ ps. first ∷ ps) parts (splits others) i)

  refined_rises : Rising IsBefore (flat_map (refined splits) (pairs set))
  refined_rises = Rising-flat_map FirstLess IsBefore (refined splits) (pairs set) within between (pairs_rise set w)
    where
      within : (x : List ℕ) → In x (pairs set) → Rising IsBefore (refined splits x)
      within x i =
          let p = in_pairs set x i in
          let others = p.0 in
          subst (λ y. Rising IsBefore (refined splits y)) (sym p.2) (Rising-map IsBefore IsBefore (λ parts. minus set others ∷ parts) (splits others) (λ xs ys j k b. first_same (minus set others) xs ys b) (each others (IsLegSet-subset others (without_least set) p.1.within)).rises)

      between : (x y u v : List ℕ) → In x (pairs set) → In y (pairs set) → FirstLess x y → In u (refined splits x) → In v (refined splits y) → IsBefore u v
      between x y u v i j l k m =
          let p = in_pairs set x i in
          let q = in_pairs set y j in
          let s = in_mapped (λ parts. minus set p.0 ∷ parts) u (splits p.0) (subst (λ z. In u (refined splits z)) p.2 k) in
          let t = in_mapped (λ parts. minus set q.0 ∷ parts) v (splits q.0) (subst (λ z. In v (refined splits z)) q.2 m) in
          let less : minus set p.0 < minus set q.0 = rw (p.2, q.2) at l in
          rw (s.2, t.2) (first_less (minus set p.0) (minus set q.0) s.0 t.0 less)

  refined_exact : Exact (suc (suc count)) set (flat_map (refined splits) (pairs set))
  refined_exact = record { right = refined_right; complete = refined_complete; rises = refined_rises }

triples_exact : (set : ℕ) → IsLegSet set → Exact 3 set (triples set)
unfolding triples
triples_exact set w = refined_exact 1 pairs pairs_exact set w

quadruples_exact : (set : ℕ) → IsLegSet set → Exact 4 set (quadruples set)
unfolding quadruples
quadruples_exact set w = refined_exact 2 triples triples_exact set w

pub AreSplits-pairs : (set : ℕ) → IsLegSet set → AreSplits 2 set (pairs set)
AreSplits-pairs set w = AreSplits-from_Exact 2 set (pairs set) (pairs_exact set w)

pub AreSplits-triples : (set : ℕ) → IsLegSet set → AreSplits 3 set (triples set)
AreSplits-triples set w = AreSplits-from_Exact 3 set (triples set) (triples_exact set w)

pub AreSplits-quadruples : (set : ℕ) → IsLegSet set → AreSplits 4 set (quadruples set)
AreSplits-quadruples set w = AreSplits-from_Exact 4 set (quadruples set) (quadruples_exact set w)
