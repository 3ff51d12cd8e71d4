-- The subsets of a set, from one down: the walk, and which sets it meets.
use Rattle.std.proofs.Common.{◌≡◌, ℕ, zero, suc, ◌-◌, ◌/◌, ◌%◌, ◌^◌, ◌<◌, ◌≤◌, ◌∷◌, Bool, true, false, cond, eqb, ◌⊎◌, inl, inr, ⊎_elim, refl, ap, sym, subst, ◌∙◌, arith, bit_and, min}
use Rattle.std.specs.Int.{bit_at}
use Rattle.std.proofs.lemmas.Nat.{and_shr, and_le_l, and_le_r, and_assoc}
use Rattle.std.proofs.lemmas.Nat.Bits.{bit_at_and, same_from_bits}
use Rattle.std.proofs.lemmas.Bool.{cases_eq, eq-eqb, ne_eqb, eqb-true, true≢false}
use Rattle.std.proofs.Math.Nat.{pow-suc}
use Rattle.om_legs.specs.Legs.{IsLegSet, IsSubset, meeting}
use Rattle.om_legs.specs.Walks.{subsets_down}
use Rattle.om_ring.specs.Members.{In}
use Rattle.om_legs.proofs.Members.{Rising}
use Rattle.om_legs.proofs.Operations.{meeting-bit_and}

-- x is a subset of r, as bits
abbrev Within : ℕ → ℕ → Type 0
Within x r = bit_and x r ≡ x

within_subset : (x r : ℕ) → IsLegSet x → IsSubset x r → Within x r
within_subset x r w h = meeting-bit_and x r w ∙ h

subset_within : (x r : ℕ) → IsLegSet x → Within x r → IsSubset x r
subset_within x r w h = sym (meeting-bit_and x r w) ∙ h

-- ---- between (m - 1) & r and m there is no subset of r

-- the two halves of an intersection
and_half : (a b : ℕ) → bit_and a b / 2 ≡ bit_and (a / 2) (b / 2)
and_half a b = and_shr a b 1

and_lowest : (a b : ℕ) → bit_and a b % 2 ≡ min (a % 2) (b % 2)
and_lowest a b = by (bit_at_and a b 0)
  where
    by : bit_at (bit_and a b) 0 ≡ min (bit_at a 0) (bit_at b 0) → bit_and a b % 2 ≡ min (a % 2) (b % 2)
    by l = omega (arith, l)

within_half : (x r : ℕ) → Within x r → Within (x / 2) (r / 2)
within_half x r h = sym (and_half x r) ∙ ap (λ n. n / 2) h

within_lowest : (x r : ℕ) → Within x r → x % 2 ≤ r % 2
within_lowest x r h = let e : bit_and x r % 2 ≡ x % 2 = ap (λ n. n % 2) h in let m = and_lowest x r in omega arith

no_subset_between : (w m r x : ℕ) → m < 2 ^ w → Within m r → Within x r → x < m → x ≤ bit_and (m - 1) r
no_subset_between zero m r x b hm hx l = absurd (omega (arith, b))
no_subset_between (suc w) m r x b hm hx l = ⊎_elim (even (no_subset_between w (m / 2) (r / 2) (x / 2))) odd (cases_eq (m % 2) 0)
  where
    even : (m / 2 < 2 ^ w → Within (m / 2) (r / 2) → Within (x / 2) (r / 2) → x / 2 < m / 2 → x / 2 ≤ bit_and (m / 2 - 1) (r / 2)) → m % 2 ≡ 0 → x ≤ bit_and (m - 1) r
    even again z =
        let p = pow-suc 2 w in
        let ih : x / 2 ≤ bit_and (m / 2 - 1) (r / 2) = again (omega arith) (within_half m r hm) (within_half x r hx) (omega arith) in
        let half : (m - 1) / 2 ≡ m / 2 - 1 = omega arith in
        let low : (m - 1) % 2 ≡ 1 = omega arith in
        let e : bit_and ((m - 1) / 2) (r / 2) ≡ bit_and (m / 2 - 1) (r / 2) = ap (λ n. bit_and n (r / 2)) half in
        let a = and_half (m - 1) r in
        let c = and_lowest (m - 1) r in
        let d = within_lowest x r hx in
        omega arith

    odd : (m % 2 ≡ 0 → ⊥) → x ≤ bit_and (m - 1) r
    odd z =
        let half : (m - 1) / 2 ≡ m / 2 = omega arith in
        let e : bit_and ((m - 1) / 2) (r / 2) ≡ m / 2 = ap (λ n. bit_and n (r / 2)) half ∙ within_half m r hm in
        let a = and_half (m - 1) r in
        omega arith

-- ---- a step of the walk

-- sets that are no subsets are passed over
passed_over : (r k n : ℕ) → k ≤ n → ((x : ℕ) → k < x → x ≤ n → IsSubset x r → ⊥) → subsets_down r n ≡ subsets_down r k
unfolding subsets_down
passed_over r k zero l h = let e : 0 ≡ k = omega arith in ap (subsets_down r) e
passed_over r k (suc n) l h = ⊎_elim (λ e. ap (subsets_down r) (sym e)) (λ ne. step (passed_over r k n (omega arith) (λ x a b s. h x a (omega arith) s)) (omega arith)) (cases_eq k (suc n))
  where
    step : subsets_down r n ≡ subsets_down r k → k ≤ n → subsets_down r (suc n) ≡ subsets_down r k
    step ih g =
        let out : eqb (meeting (suc n) r) (suc n) ≡ false = ne_eqb (meeting (suc n) r) (suc n) (λ s. h (suc n) (omega arith) (omega arith) s) in
        ap (λ b. cond b (suc n ∷ subsets_down r n) (subsets_down r n)) out ∙ ih

pub IsSubset-bit_and : (a r : ℕ) → IsLegSet r → IsSubset (bit_and a r) r
IsSubset-bit_and a r w = subset_within (bit_and a r) r (let l = and_le_r a r in omega arith) (and_assoc r a r ∙ ap (bit_and a) (idem r))
  where
    idem : (r : ℕ) → bit_and r r ≡ r
    idem r = same_from_bits (bit_and r r) r (λ k. let e = bit_at_and r r k in omega arith)

pub subsets_down-step : (r m : ℕ) → 0 < m → IsLegSet m → IsSubset m r → subsets_down r m ≡ m ∷ subsets_down r (bit_and (m - 1) r)
unfolding subsets_down
subsets_down-step r zero p w h = absurd (omega arith)
subsets_down-step r (suc n) p w h =
    let low = bit_and (suc n - 1) r in
    let least : low ≤ n = let l = and_le_l (suc n - 1) r in omega arith in
    let rest : subsets_down r n ≡ subsets_down r low = passed_over r low n least (λ x a c s. (let g = no_subset_between 12 (suc n) r x w (within_subset (suc n) r w h) (within_subset x r (omega arith) s) (omega arith) in omega arith)) in
    ap (λ b. cond b (suc n ∷ subsets_down r n) (subsets_down r n)) (eq-eqb (meeting (suc n) r) (suc n) h) ∙ ap (λ xs. suc n ∷ xs) rest

-- ---- what the walk meets

pub record IsSubsetUpTo (r n x : ℕ) : Type 0 where
  pub some : 0 < x
  pub most : x ≤ n
  pub within : IsSubset x r

pub in_subsets_down : (r n x : ℕ) → In x (subsets_down r n) → IsSubsetUpTo r n x
unfolding subsets_down
in_subsets_down r zero x i = absurd i
in_subsets_down r (suc n) x i = by (eqb (meeting (suc n) r) (suc n)) refl (in_subsets_down r n x) i
  where
    later : IsSubsetUpTo r n x → IsSubsetUpTo r (suc n) x
    later h = let m = h.most in record { some = h.some; most = omega arith; within = h.within }

    by : (b : Bool) → eqb (meeting (suc n) r) (suc n) ≡ b → (In x (subsets_down r n) → IsSubsetUpTo r n x) → In x (cond b (suc n ∷ subsets_down r n) (subsets_down r n)) → IsSubsetUpTo r (suc n) x
    by true e ih (inl q) = record { some = omega arith; most = omega arith; within = subst (λ y. IsSubset y r) (sym q) (eqb-true (meeting (suc n) r) (suc n) e) }
    by true e ih (inr i) = later (ih i)
    by false e ih i = later (ih i)

pub subsets_down_in : (r n x : ℕ) → 0 < x → x ≤ n → IsSubset x r → In x (subsets_down r n)
unfolding subsets_down
subsets_down_in r zero x p l s = absurd (omega arith)
subsets_down_in r (suc n) x p l s = by (eqb (meeting (suc n) r) (suc n)) refl (λ g. subsets_down_in r n x p g s) (cases_eq x (suc n))
  where
    by : (b : Bool) → eqb (meeting (suc n) r) (suc n) ≡ b → (x ≤ n → In x (subsets_down r n)) → (x ≡ suc n) ⊎ (x ≡ suc n → ⊥) → In x (cond b (suc n ∷ subsets_down r n) (subsets_down r n))
    by true e ih (inl q) = inl q
    by true e ih (inr q) = inr (ih (omega arith))
    by false e ih (inl q) = absurd (true≢false (sym (eq-eqb (meeting (suc n) r) (suc n) (subst (λ y. IsSubset y r) q s)) ∙ e))
    by false e ih (inr q) = ih (omega arith)

-- it goes down
pub subsets_fall : (r n : ℕ) → Rising (λ x y. y < x) (subsets_down r n)
unfolding subsets_down
subsets_fall r zero = tt
subsets_fall r (suc n) = by (eqb (meeting (suc n) r) (suc n)) (subsets_fall r n)
  where
    by : (b : Bool) → Rising (λ x y. y < x) (subsets_down r n) → Rising (λ x y. y < x) (cond b (suc n ∷ subsets_down r n) (subsets_down r n))
    by true ih = ((λ y i. (let m = (in_subsets_down r n y i).most in omega arith)), ih)
    by false ih = ih
