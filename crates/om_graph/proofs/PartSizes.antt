-- What is fused has more legs than its branches.
use Rattle.std.proofs.Common.{◌≡◌, ℕ, ◌<◌, ◌≤◌, List, [], ◌∷◌, length, ◌⊎◌, inl, inr, refl, ap, sym, subst, arith}
use Rattle.std.specs.List.{sum_by}
use Rattle.std.proofs.lemmas.List.Sums.{sum_by-cons}
use Rattle.om_ring.specs.Members.{In}
use Rattle.om_legs.specs.Legs as sets
use Rattle.om_legs.specs.Splits.{IsSplit}
use Rattle.om_legs.proofs.FirstPart.{part_filled, IsLegSet-part}
use Rattle.om_legs.proofs.ShareSums.{size_some}
use Rattle.om_legs.proofs.SplitFacts.{sizes_of_parts}
use Rattle.om_ring.proofs.Members.{in_map}
use Rattle.om_graph.specs.declared.Key.{Key}
use Rattle.om_graph.specs.Vertices.{Reaction, Fuses, sets_of}

-- of numbers above 0
sum_least : (f : ℕ → ℕ) (xs : List ℕ) → ((x : ℕ) → In x xs → 0 < f x) → length xs ≤ sum_by f xs
sum_least f [] h = omega arith
sum_least f (x ∷ xs) h = let a = h x (inl refl) in let b = sum_least f xs (λ y i. h y (inr i)) in omega (arith, a, b, sum_by-cons f x xs)

member_least : (f : ℕ → ℕ) (xs : List ℕ) (x : ℕ) → In x xs → f x ≤ sum_by f xs
member_least f [] x i = elim i [ ]
member_least f (y ∷ xs) x (inl e) = let q = ap f e in omega (arith, q, sum_by-cons f y xs)
member_least f (y ∷ xs) x (inr i) = omega (arith, member_least f xs x i, sum_by-cons f y xs)

member_less : (f : ℕ → ℕ) (xs : List ℕ) (x : ℕ) → In x xs → 2 ≤ length xs → ((x : ℕ) → In x xs → 0 < f x) → f x < sum_by f xs
member_less f [] x i l h = elim i [ ]
member_less f (y ∷ xs) x (inl e) l h = let q = ap f e in let a = sum_least f xs (λ y i. h y (inr i)) in omega (arith, q, a, l, sum_by-cons f y xs)
member_less f (y ∷ xs) x (inr i) l h = let a = h y (inl refl) in omega (arith, a, member_least f xs x i, sum_by-cons f y xs)

at_least_two : {m : ℕ} → (m ≡ 2) ⊎ (m ≡ 3) → 2 ≤ m
at_least_two (inl e) = omega arith
at_least_two (inr e) = omega arith

split_sizes : (c set : ℕ) (parts : List ℕ) → (c ≡ 2) ⊎ (c ≡ 3) → sets.IsLegSet set → IsSplit c set parts → sum_by sets.size parts ≡ sets.size set
split_sizes c set parts (inl e) w h = sizes_of_parts 1 set parts w (subst (λ m. IsSplit m set parts) e h)
split_sizes c set parts (inr e) w h = sizes_of_parts 2 set parts w (subst (λ m. IsSplit m set parts) e h)

pub part_sizes : (c set : ℕ) (parts : List ℕ) → sets.IsLegSet set → IsSplit c set parts → (x : ℕ) → In x parts → 0 < sets.size x
part_sizes c set parts w h x i = size_some x (part_filled c set parts h x i) (IsLegSet-part c set parts w h x i)

module _ (r : Reaction) where
  pub fused_part : (f v c : ℕ) (ks : List Key) (k b : Key) → Fuses r f v c ks k → In b ks → sets.size b.legs < sets.size k.legs
  fused_part f v c ks k b h i =
      subst (λ m. sets.size b.legs < m) (split_sizes (length ks) k.legs (sets_of ks) h.counted h.legs h.split)
      (member_less sets.size (sets_of ks) b.legs (in_map (λ (k : Key). k.legs) b ks i) (let l = at_least_two h.counted in subst (λ m. 2 ≤ m) (sym h.split.counted) l) (part_sizes (length ks) k.legs (sets_of ks) h.legs h.split))

  pub fused_some : (f v c : ℕ) (ks : List Key) (k : Key) → Fuses r f v c ks k → 1 < sets.size k.legs
  fused_some f v c ks k h =
      let a = sum_least sets.size (sets_of ks) (part_sizes (length ks) k.legs (sets_of ks) h.legs h.split) in
      let b = at_least_two h.counted in
      let e = split_sizes (length ks) k.legs (sets_of ks) h.counted h.legs h.split in
      let m = h.split.counted in
      omega (arith, a, b, e, m)
