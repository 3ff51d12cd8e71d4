-- A test whether two normal forms are equal.
use Rattle.std.proofs.Common.{◌≡◌, ℕ, Bool, true, false, List, [], ◌∷◌, refl, sym, eqb}
use Rattle.std.proofs.lemmas.Bool.{eqb-true}
use Rattle.om_ring.proofs.GaussSolver.{Term, term, both}

-- whether two truth values are equal
abbrev same_bool : Bool → Bool → Bool
same_bool true b = b
same_bool false true = false
same_bool false false = true

-- whether two products are equal
abbrev same_list : List ℕ → List ℕ → Bool
same_list [] [] = true
same_list [] (b ∷ n) = false
same_list (a ∷ m) [] = false
same_list (a ∷ m) (b ∷ n) = both (eqb a b) (same_list m n)

-- whether two terms are equal
abbrev same_term : Term → Term → Bool
same_term (term r s m) (term r' s' m') = both (same_bool r r') (both (same_bool s s') (same_list m m'))

-- whether two sums of terms are equal
abbrev pub same_poly : List Term → List Term → Bool
same_poly [] [] = true
same_poly [] (u ∷ q) = false
same_poly (t ∷ p) [] = false
same_poly (t ∷ p) (u ∷ q) = both (same_term t u) (same_poly p q)

-- the first of both
pub both-first : (a b : Bool) → both a b ≡ true → a ≡ true
both-first true b h = refl
both-first false b h = h

-- the second of both
pub both-second : (a b : Bool) → both a b ≡ true → b ≡ true
both-second true b h = h
both-second false b h = absurd (let e : false ≡ true = h in cc)

-- the tests are exact
same_bool-true : (a b : Bool) → same_bool a b ≡ true → a ≡ b
same_bool-true true b h = sym h
same_bool-true false true h = h
same_bool-true false false h = refl

-- as for truth values, so for products
same_list-true : (m n : List ℕ) → same_list m n ≡ true → m ≡ n
same_list-true [] [] h = refl
same_list-true [] (b ∷ n) h = cc
same_list-true (a ∷ m) [] h = cc
same_list-true (a ∷ m) (b ∷ n) h = cc (eqb-true a b (both-first (eqb a b) (same_list m n) h), same_list-true m n (both-second (eqb a b) (same_list m n) h))

-- for terms
same_term-true : (t u : Term) → same_term t u ≡ true → t ≡ u
same_term-true (term r s m) (term r' s' m') h =
    let k = both-second (same_bool r r') _ h in
    cc (same_bool-true r r' (both-first (same_bool r r') _ h), same_bool-true s s' (both-first (same_bool s s') _ k), same_list-true m m' (both-second (same_bool s s') _ k))

-- and for sums
pub same_poly-true : (p q : List Term) → same_poly p q ≡ true → p ≡ q
same_poly-true [] [] h = refl
same_poly-true [] (u ∷ q) h = cc
same_poly-true (t ∷ p) [] h = cc
same_poly-true (t ∷ p) (u ∷ q) h = cc (same_term-true t u (both-first (same_term t u) (same_poly p q) h), same_poly-true p q (both-second (same_term t u) (same_poly p q) h))
