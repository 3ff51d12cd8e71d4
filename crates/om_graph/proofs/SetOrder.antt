-- The sets over which the walk goes: by number of legs, then by number, and their parts before them.
use Rattle.std.proofs.Common.{◌≡◌, ℕ, zero, suc, ◌+◌, ◌-◌, ◌*◌, ◌/◌, ◌<◌, ◌≤◌, List, [], ◌∷◌, Bool, true, false, not, cond, eqb, ltb, ◌&&◌, ◌||◌, ◌⊎◌, inl, inr, refl, ap, sym, subst, ◌∙◌, arith, true≢false, length}
use Rattle.std.proofs.lemmas.Bool.{eqb-true, eq-eqb, ltb-true, lt-ltb}
use Rattle.std.proofs.lemmas.Bool.Decides.{nat_tests}
use Rattle.om_ring.specs.Members.{In}
use Rattle.om_legs.specs.Legs.{size, holds, all_legs}
use Rattle.om_legs.proofs.FirstPart.{part_filled, part_leg, IsLegSet-part}
use Rattle.om_legs.proofs.Least.{IsSubset_from}
use Rattle.om_legs.proofs.Members.{Rising, Rising-append, Rising-flat_map}
use Rattle.om_legs.proofs.ShareSums.{IsSubset_le}
use Rattle.om_model.proofs.Counting.{both}
use Rattle.om_model.proofs.EdgesUncut.{both_true}
use Rattle.om_ring.proofs.Members.{in_map, in_either, in_flat_map, from_flat_map}
use Rattle.om_model.specs.Order.{numbers_lt}
use Rattle.om_graph.specs.declared.Key.{Key}
use Rattle.om_graph.specs.Caches.{counts_from}
use Rattle.om_graph.specs.Possible.{key_lt}
use Rattle.om_graph.specs.Search.{Ready}
use Rattle.om_graph.specs.SetSearch.{set_search, set_at, sets_of_size, outward_sets}
use Rattle.om_graph.specs.Vertices.{Reaction, Fuses, fusion, is_outward, sets_of}
use Rattle.om_graph.proofs.PartSizes.{fused_part}
use Rattle.om_graph.proofs.Steps.{in_from}

abbrev pub IsBefore : ℕ → ℕ → Type 0
IsBefore a b = (size a < size b) ⊎ ((size a ≡ size b) × (a < b))

not_before_itself : (s : ℕ) → IsBefore s s → ⊥
not_before_itself s (inl l) = omega (arith, l)
not_before_itself s (inr (e, l)) = omega (arith, l)

not_before_less : (a b : ℕ) → IsBefore a b → size b < size a → ⊥
not_before_less a b (inl l) m = omega (arith, l, m)
not_before_less a b (inr (e, l)) m = omega (arith, e, m)

pub key_before : (a b : Key) → IsBefore a.legs b.legs → key_lt a b ≡ true
unfolding key_lt numbers_lt
key_before a b (inl l) = first (size a.legs) (size b.legs) _ l
  where
    first : (x y : ℕ) (z : Bool) → x < y → cond (ltb x y) true z ≡ true
    first x y z l = let e : ltb x y ≡ true = grind (arith, nat_tests) in rw e refl
key_before a b (inr (e, l)) = second (size a.legs) (size b.legs) a.legs b.legs _ e l
  where
    second : (x y s t : ℕ) (z : Bool) → x ≡ y → s < t → cond (ltb x y) true (cond (ltb y x) false (cond (ltb s t) true z)) ≡ true
    second x y s t z q l =
        let e : ltb x y ≡ false = grind (arith, nat_tests) in
        let g : ltb y x ≡ false = grind (arith, nat_tests) in
        let h : ltb s t ≡ true = grind (arith, nat_tests) in
        rw (e, g, h) refl

-- ---- numbers that follow one another

from_in : (a n k : ℕ) → In k (counts_from a n) → (a ≤ k) × (k < a + n)
unfolding counts_from
from_in a zero k i = absurd i
from_in a (suc n) k i = by (from_in a n k) (in_either k (counts_from a n) ((a + n) ∷ []) i)
  where
    by : (In k (counts_from a n) → (a ≤ k) × (k < a + n)) → In k (counts_from a n) ⊎ In k ((a + n) ∷ []) → (a ≤ k) × (k < a + suc n)
    by ih (inl j) = let h = ih j in (h.0, let l = h.1 in omega (arith, l))
    by ih (inr (inl e)) = (omega (arith, e), omega (arith, e))
    by ih (inr (inr b)) = absurd b

pub from_in-least : (a n k : ℕ) → In k (counts_from a n) → a ≤ k
from_in-least a n k i = (from_in a n k i).0

pub from_in-most : (a n k : ℕ) → In k (counts_from a n) → k < a + n
from_in-most a n k i = (from_in a n k i).1

pub from_rises : (a n : ℕ) → Rising ◌<◌ (counts_from a n)
unfolding counts_from
from_rises a zero = tt
from_rises a (suc n) = Rising-append ◌<◌ (counts_from a n) ((a + n) ∷ []) (from_rises a n) ((λ y i. absurd i), tt) (λ x y i j. last x y (from_in-most a n x i) j)
  where
    last : (x y : ℕ) → x < a + n → In y ((a + n) ∷ []) → x < y
    last x y l (inl e) = omega (arith, l, e)
    last x y l (inr b) = absurd b

-- ---- the outward sets

-- a set of some of n legs, away from the keystone
pub record IsInner (n u : ℕ) : Type 0 where
  pub some : 0 < u
  pub most : u ≤ all_legs n
  pub outward : is_outward n u ≡ true

record IsAt (n m number u : ℕ) : Type 0 where
  same : u ≡ number
  counted : size u ≡ m
  outward : is_outward n u ≡ true

module _ (n : ℕ) where
  at_is : (m number u : ℕ) → In u (set_at n m number) → IsAt n m number u
  unfolding set_at
  at_is m number u i = by (eqb (size number) m && is_outward n number) refl i
    where
      by : (b : Bool) → (eqb (size number) m && is_outward n number) ≡ b → In u (cond b (number ∷ []) []) → IsAt n m number u
      by true e (inl q) = let t = both (eqb (size number) m) (is_outward n number) e in record { same = q; counted = ap size q ∙ eqb-true (size number) m t.0; outward = ap (is_outward n) q ∙ t.1 }
      by true e (inr b) = absurd b
      by false e i = absurd i

  is_at : (u : ℕ) → is_outward n u ≡ true → In u (set_at n (size u) u)
  unfolding set_at
  is_at u o = subst (λ b. In u (cond b (u ∷ []) [])) (sym (both_true (eqb (size u) (size u)) (is_outward n u) (eq-eqb (size u) (size u) refl) o)) (inl refl)

  record IsOfSize (m u : ℕ) : Type 0 where
    counted : size u ≡ m
    most : u ≤ all_legs n
    some : 0 < u

  of_size : (m u : ℕ) → In u (sets_of_size n m) → IsOfSize m u
  unfolding sets_of_size
  of_size m u i =
      let f = from_flat_map (set_at n m) u (counts_from 1 (all_legs n + 1 - 1)) i in
      let a = at_is m f.0 u f.2 in
      let l = from_in-least 1 (all_legs n + 1 - 1) f.0 f.1 in
      let h = from_in-most 1 (all_legs n + 1 - 1) f.0 f.1 in
      let e = a.same in
      record { counted = a.counted; most = omega (arith, e, h); some = omega (arith, e, l) }

  at_rises : (m number : ℕ) → Rising IsBefore (set_at n m number)
  unfolding set_at
  at_rises m number = by (eqb (size number) m && is_outward n number)
    where
      by : (b : Bool) → Rising IsBefore (cond b (number ∷ []) [])
      by true = ((λ y i. absurd i), tt)
      by false = tt

  size_rises : (m : ℕ) → Rising IsBefore (sets_of_size n m)
  unfolding sets_of_size
  size_rises m =
      Rising-flat_map ◌<◌ IsBefore (set_at n m) (counts_from 1 (all_legs n + 1 - 1)) (λ x i. at_rises m x)
      (λ x y u v i j l p q. let a = at_is m x u p in let b = at_is m y v q in inr (a.counted ∙ sym b.counted, let e = a.same in let f = b.same in omega (arith, e, f, l)))
      (from_rises 1 (all_legs n + 1 - 1))

  pub outward_rise : Rising IsBefore (outward_sets n)
  unfolding outward_sets
  outward_rise =
      Rising-flat_map ◌<◌ IsBefore (sets_of_size n) (counts_from 2 (n / 2 + 1 - 2)) (λ m i. size_rises m)
      (λ x y u v i j l p q. let a = (of_size x u p).counted in let b = (of_size y v q).counted in inl (omega (arith, a, b, l)))
      (from_rises 2 (n / 2 + 1 - 2))

  pub record IsLarge (u : ℕ) : Type 0 where
    pub most : u ≤ all_legs n
    pub some : 2 ≤ size u

  pub outward_large : (u : ℕ) → In u (outward_sets n) → IsLarge u
  unfolding outward_sets
  outward_large u i =
      let f = from_flat_map (sets_of_size n) u (counts_from 2 (n / 2 + 1 - 2)) i in
      let s = of_size f.0 u f.2 in
      let l = from_in-least 2 (n / 2 + 1 - 2) f.0 f.1 in
      let e = s.counted in
      record { most = s.most; some = omega (arith, e, l) }

  half : (s : ℕ) (b : Bool) → (ltb (2 * s) n || (eqb (2 * s) n && b)) ≡ true → 2 * s ≤ n
  half s b e = by (ltb (2 * s) n) (eqb (2 * s) n) refl refl e
    where
      by : (c d : Bool) → ltb (2 * s) n ≡ c → eqb (2 * s) n ≡ d → (c || (d && b)) ≡ true → 2 * s ≤ n
      by true d e f g = let l = ltb-true (2 * s) n e in omega (arith, l)
      by false true e f g = let l = eqb-true (2 * s) n f in omega (arith, l)
      by false false e f g = absurd (true≢false (sym g))

  pub in_outward : (u : ℕ) → IsInner n u → 2 ≤ size u → In u (outward_sets n)
  unfolding outward_sets sets_of_size
  in_outward u h l =
      let m = half (size u) (not (holds u 1)) h.outward in
      let a = h.some in
      let b = h.most in
      in_flat_map (sets_of_size n) (size u) u (counts_from 2 (n / 2 + 1 - 2)) (in_from 2 (n / 2 + 1 - 2) (size u) l (omega (arith, m, l)))
      (in_flat_map (set_at n (size u)) u u (counts_from 1 (all_legs n + 1 - 1)) (in_from 1 (all_legs n + 1 - 1) u (omega (arith, a)) (omega (arith, b))) (is_at u h.outward))

  outward_less : (s t : ℕ) (b c : Bool) → (ltb (2 * t) n || (eqb (2 * t) n && b)) ≡ true → s < t → (ltb (2 * s) n || (eqb (2 * s) n && c)) ≡ true
  outward_less s t b c e l = let m = half t b e in ap (λ d. d || (eqb (2 * s) n && c)) (lt-ltb (2 * s) n (omega (arith, m, l)))

-- ---- the walk is ready for them

module _ (r : Reaction) where
  -- the parts of an outward set are such sets too
  inner_part : (f v c : ℕ) (ks : List Key) (k b : Key) → Fuses r f v c ks k → k.legs ≤ all_legs r.scattering.size → In b ks → IsInner r.scattering.size b.legs
  inner_part f v c ks k b h m i =
      let j = in_map (λ (k : Key). k.legs) b ks i in
      let w = IsLegSet-part (length ks) k.legs (sets_of ks) h.legs h.split b.legs j in
      let l = IsSubset_le b.legs k.legs h.legs (IsSubset_from b.legs k.legs w (λ leg e. part_leg (length ks) k.legs (sets_of ks) h.split b.legs leg j e)) in
      record {
        some = part_filled (length ks) k.legs (sets_of ks) h.split b.legs j;
        most = omega (arith, l, m);
        outward = outward_less r.scattering.size (size b.legs) (size k.legs) (not (holds k.legs 1)) (not (holds b.legs 1)) h.outward (fused_part r f v c ks k b h i);
      }

  pub ready : (done ss : List ℕ) → Rising IsBefore ss → ((d s : ℕ) → In d done → In s ss → IsBefore d s) → ((s : ℕ) → In s ss → s ≤ all_legs r.scattering.size)
      → ((u : ℕ) → IsInner r.scattering.size u → In u done ⊎ In u ss) → Ready (fusion r) (set_search r) done ss
  ready done [] rise after most all = tt
  ready done (s ∷ ss) rise after most all = (
    record { new = λ i. not_before_itself s (after s s i (inl refl)); parts = parts; later = λ a b i e. key_before a b (subst (IsBefore a.legs) (sym e) (after a.legs s i (inl refl))) },
    ready (s ∷ done) ss rise.1 later (λ u i. most u (inr i)) (λ u h. moved u (all u h)),
  )
    where
      later : (d u : ℕ) → In d (s ∷ done) → In u ss → IsBefore d u
      later d u (inl e) j = subst (λ x. IsBefore x u) (sym e) (rise.0 u j)
      later d u (inr i) j = after d u i (inr j)

      moved : (u : ℕ) → In u done ⊎ In u (s ∷ ss) → In u (s ∷ done) ⊎ In u ss
      moved u (inl i) = inl (inr i)
      moved u (inr (inl e)) = inl (inl e)
      moved u (inr (inr i)) = inr i

      before : (u : ℕ) → size u < size s → In u done ⊎ In u (s ∷ ss) → In u done
      before u l (inl i) = i
      before u l (inr (inl e)) = absurd (let q = ap size e in omega (arith, l, q))
      before u l (inr (inr i)) = absurd (not_before_less s u (rise.0 u i) l)

      parts : (f v c : ℕ) (ks : List Key) (k : Key) → Fuses r f v c ks k → k.legs ≡ s → (b : Key) → In b ks → In b.legs done
      parts f v c ks k h e b i =
          let l = fused_part r f v c ks k b h i in
          let q = ap size e in
          let m = most s (inl refl) in
          before b.legs (omega (arith, l, q)) (all b.legs (inner_part f v c ks k b h (omega (arith, e, m)) i))
