-- Nodes by number.
use Rattle.std.proofs.Common.{◌≡◌, ℕ, zero, suc, ◌+◌, ◌<◌, List, [], ◌∷◌, ◌++◌, map, filter, Bool, true, false, cond, ltb, ◌⊎◌, inl, inr, refl, ap, ap₂, sym, subst, ◌∙◌, arith, true≢false, Some, slice_get}
use Rattle.std.specs.Prelude.{slice_index}
use Rattle.std.proofs.lemmas.Option.{none-some, same_Some}
use Rattle.std.proofs.lemmas.Bool.{lt-ltb}
use Rattle.std.proofs.lemmas.Bool.Decides.{nat_tests}
use Rattle.om_ring.specs.OptionSteps.{◌>>=◌}
use Rattle.om_ring.specs.Members.{In}
use Rattle.om_model.specs.Order.{IsOrder, BeforeAll, Rising, numbers_lt}
use Rattle.om_ring.proofs.Members.{in_filter}
use Rattle.om_graph.specs.Graph.{at_numbers}
use Rattle.om_graph.proofs.SetNodes.{then_some, some_then, number_of}
use Rattle.om_keystone.specs.NodeWaves.{one_or_none, keys_at}
use Rattle.om_keystone.specs.Pruning.{is_marked, marked_of, numbers_from}

pub data At {A : Type 0} (xs : List A) : List ℕ → List A → Type 0 where
  at_none : At xs [] []
  at_more : {n : ℕ} {ns : List ℕ} {y : A} {ys : List A} → slice_get xs n ≡ Some y → At xs ns ys → At xs (n ∷ ns) (y ∷ ys)

pub at_of : {A : Type 0} (xs : List A) (ns : List ℕ) (ys : List A) → at_numbers xs ns ≡ Some ys → At xs ns ys
at_of xs [] ys e = subst (At xs []) (same_Some [] ys e) at_none
at_of xs (n ∷ ns) ys e =
    let a = then_some (slice_get xs n) (λ x. at_numbers xs ns >>= λ zs. Some (x ∷ zs)) ys e in
    let b = then_some (at_numbers xs ns) (λ zs. Some (a.0 ∷ zs)) ys a.2 in
    subst (At xs (n ∷ ns)) (same_Some (a.0 ∷ b.0) ys b.2) (at_more a.1 (at_of xs ns b.0 b.1))

pub of_at : {A : Type 0} {xs : List A} {ns : List ℕ} {ys : List A} → At xs ns ys → at_numbers xs ns ≡ Some ys
of_at at_none = refl
of_at {xs = xs} (at_more {n = n} {ns = ns} {y = y} {ys = ys} e a) =
    some_then (slice_get xs n) (λ x. at_numbers xs ns >>= λ zs. Some (x ∷ zs)) y (y ∷ ys) e (some_then (at_numbers xs ns) (λ zs. Some (y ∷ zs)) ys (y ∷ ys) (of_at a) refl)

pub at_number : {A : Type 0} {xs : List A} {ns : List ℕ} {ys : List A} (n : ℕ) → At xs ns ys → In n ns → (y : A) × (slice_get xs n ≡ Some y) × In y ys
at_number n at_none i = absurd i
at_number {xs = xs} n (at_more {y = y} e a) (inl q) = (y, subst (λ k. slice_get xs k ≡ Some y) (sym q) e, inl refl)
at_number n (at_more e a) (inr i) = let r = at_number n a i in (r.0, r.1, inr r.2)

pub at_member : {A : Type 0} {xs : List A} {ns : List ℕ} {ys : List A} (y : A) → At xs ns ys → In y ys → (n : ℕ) × (slice_get xs n ≡ Some y) × In n ns
at_member y at_none i = absurd i
at_member {xs = xs} y (at_more {n = n} e a) (inl q) = (n, subst (λ z. slice_get xs n ≡ Some z) (sym q) e, inl refl)
at_member y (at_more e a) (inr i) = let r = at_member y a i in (r.0, r.1, inr r.2)

pub at_all : {A : Type 0} (xs ys : List A) → ((y : A) → In y ys → In y xs) → (ns : List ℕ) × At xs ns ys
at_all xs [] h = ([], at_none)
at_all xs (y ∷ ys) h = let n = number_of y xs (h y (inl refl)) in let r = at_all xs ys (λ z i. h z (inr i)) in (n.0 ∷ r.0, at_more n.1 r.1)

before_at : {A : Type 0} (lt : A → A → Bool) (x y : A) (xs : List A) (n : ℕ) → BeforeAll lt x xs → slice_get xs n ≡ Some y → lt x y ≡ true
before_at lt x y [] n b e = absurd (none-some y e)
before_at lt x y (z ∷ xs) zero b e = ap (lt x) (sym (same_Some z y e)) ∙ b.0
before_at lt x y (z ∷ xs) (suc n) b e = before_at lt x y xs n b.1 e

pub rising_at : {A : Type 0} (lt : A → A → Bool) (xs : List A) → Rising lt xs → (m n : ℕ) (x y : A) → slice_get xs m ≡ Some x → slice_get xs n ≡ Some y → m < n → lt x y ≡ true
rising_at lt [] r m n x y e g h = absurd (none-some x e)
rising_at lt (z ∷ xs) r m zero x y e g h = absurd (omega arith)
rising_at lt (z ∷ xs) r zero (suc n) x y e g h = ap (λ w. lt w y) (sym (same_Some z x e)) ∙ before_at lt z y xs n r.0 g
rising_at lt (z ∷ xs) r (suc m) (suc n) x y e g h = rising_at lt xs r.1 m n x y e g (omega arith)

three_ways : (m n : ℕ) → (m < n) ⊎ ((m ≡ n) ⊎ (n < m))
three_ways m n = grind arith

module _ {A : Type 0} (lt : A → A → Bool) (o : IsOrder lt) (xs : List A) (r : Rising lt xs) where
  -- in a rising list lesser members have lesser numbers
  pub number_less : (m n : ℕ) (x y : A) → slice_get xs m ≡ Some x → slice_get xs n ≡ Some y → lt x y ≡ true → m < n
  number_less m n x y e g h = elim (three_ways m n) [
    | inl a ↦ a
    | inr b ↦ elim b [
      | inl q ↦ absurd (true≢false (sym h ∙ ap (lt x) (sym (same_Some x y (sym e ∙ ap (slice_get xs) q ∙ g))) ∙ o.irreflexive x))
      | inr a ↦ absurd (true≢false (sym (o.transitive x y x h (rising_at lt xs r n m y x g e a)) ∙ o.irreflexive x))
    ]
  ]

  -- a member has one number
  pub number_once : (m n : ℕ) (x : A) → slice_get xs m ≡ Some x → slice_get xs n ≡ Some x → m ≡ n
  number_once m n x e g = elim (three_ways m n) [
    | inl a ↦ absurd (true≢false (sym (rising_at lt xs r m n x x e g a) ∙ o.irreflexive x))
    | inr b ↦ elim b [ inl q ↦ q | inr a ↦ absurd (true≢false (sym (rising_at lt xs r n m x x g e a) ∙ o.irreflexive x)) ]
  ]

  pub at_once : {is js : List ℕ} {ys : List A} → At xs is ys → At xs js ys → is ≡ js
  at_once at_none at_none = refl
  at_once (at_more {n = m} {y = y} e a) (at_more {n = n} f b) = ap₂ ◌∷◌ (number_once m n y e f) (at_once a b)

-- where a node that is kept stands
pub record KeptAt {A : Type 0} (c n : ℕ) (m : List Bool) (xs : List A) (x : A) : Type 0 where
  pub place : ℕ
  pub number : slice_index (numbers_from c m) n ≡ c + place
  pub there : slice_get (marked_of m xs) place ≡ Some x

pub kept_at : {A : Type 0} (c n : ℕ) (m : List Bool) (xs : List A) (x : A) → is_marked m n ≡ true → slice_get xs n ≡ Some x → KeptAt c n m xs x
unfolding numbers_from marked_of
kept_at c n [] xs x h e = absurd (true≢false (sym h))
kept_at c n (b ∷ m) [] x h e = absurd (none-some x e)
kept_at c zero (true ∷ m) (y ∷ xs) x h e = record { place = 0; number = omega arith; there = e }
kept_at c zero (false ∷ m) (y ∷ xs) x h e = absurd (true≢false (sym h))
kept_at c (suc n) (true ∷ m) (y ∷ xs) x h e = let k = kept_at (c + 1) n m xs x h e in record { place = suc k.place; number = k.number ∙ omega arith; there = k.there }
kept_at c (suc n) (false ∷ m) (y ∷ xs) x h e = let k = kept_at (c + 0) n m xs x h e in record { place = k.place; number = k.number ∙ omega arith; there = k.there }

pub from_kept : {A : Type 0} (m : List Bool) (xs : List A) (j : ℕ) (x : A) → slice_get (marked_of m xs) j ≡ Some x → (n : ℕ) × (slice_get xs n ≡ Some x) × (is_marked m n ≡ true)
unfolding marked_of
from_kept [] xs j x e = absurd (none-some x e)
from_kept (b ∷ m) [] j x e = absurd (none-some x e)
from_kept (true ∷ m) (y ∷ xs) zero x e = (zero, e, refl)
from_kept (true ∷ m) (y ∷ xs) (suc j) x e = let r = from_kept m xs j x e in (suc r.0, r.1, r.2)
from_kept (false ∷ m) (y ∷ xs) j x e = let r = from_kept m xs j x e in (suc r.0, r.1, r.2)

in_kept : {A : Type 0} (m : List Bool) (xs : List A) (x : A) → In x (marked_of m xs) → In x xs
unfolding marked_of
in_kept [] xs x i = absurd i
in_kept (b ∷ m) [] x i = absurd i
in_kept (true ∷ m) (y ∷ xs) x (inl e) = inl e
in_kept (true ∷ m) (y ∷ xs) x (inr i) = inr (in_kept m xs x i)
in_kept (false ∷ m) (y ∷ xs) x i = inr (in_kept m xs x i)

before_some : {A : Type 0} (lt : A → A → Bool) (x : A) (xs ys : List A) → ((y : A) → In y ys → In y xs) → BeforeAll lt x xs → BeforeAll lt x ys
before_some lt x xs [] h b = tt
before_some {A} lt x xs (y ∷ ys) h b = (of xs (h y (inl refl)) b, before_some lt x xs ys (λ z i. h z (inr i)) b)
  where
    of : (xs : List A) → In y xs → BeforeAll lt x xs → lt x y ≡ true
    of [] i b = absurd i
    of (z ∷ xs) (inl e) b = ap (lt x) e ∙ b.0
    of (z ∷ xs) (inr i) b = of xs i b.1

pub rising_kept : {A : Type 0} (lt : A → A → Bool) (m : List Bool) (xs : List A) → Rising lt xs → Rising lt (marked_of m xs)
unfolding marked_of
rising_kept lt [] xs r = tt
rising_kept lt (b ∷ m) [] r = tt
rising_kept lt (true ∷ m) (x ∷ xs) r = (before_some lt x xs (marked_of m xs) (λ y i. in_kept m xs y i) r.0, rising_kept lt m xs r.1)
rising_kept lt (false ∷ m) (x ∷ xs) r = rising_kept lt m xs r.1

pub rising_filter : {A : Type 0} (lt : A → A → Bool) (q : A → Bool) (xs : List A) → Rising lt xs → Rising lt (filter q xs)
rising_filter lt q [] r = tt
rising_filter {A} lt q (x ∷ xs) r = by (q x) (rising_filter lt q xs r.1)
  where
    by : (b : Bool) → Rising lt (filter q xs) → Rising lt (cond b (x ∷ filter q xs) (filter q xs))
    by true ih = (before_some lt x xs (filter q xs) (λ y i. ((in_filter q y xs).0 i).0) r.0, ih)
    by false ih = ih

-- a map that keeps the order of the members
pub rising_mapped : {A B : Type 0} (lt : A → A → Bool) (before : B → B → Bool) (f : A → B) (xs : List A) → ((x y : A) → In x xs → In y xs → lt x y ≡ true → before (f x) (f y) ≡ true) → Rising lt xs → Rising before (map f xs)
rising_mapped lt before f [] h r = tt
rising_mapped {A} lt before f (x ∷ xs) h r = (each xs (λ y i. h x y (inl refl) (inr i)) r.0, rising_mapped lt before f xs (λ y z i j. h y z (inr i) (inr j)) r.1)
  where
    each : (ys : List A) → ((y : A) → In y ys → lt x y ≡ true → before (f x) (f y) ≡ true) → BeforeAll lt x ys → BeforeAll before (f x) (map f ys)
    each [] g b = tt
    each (y ∷ ys) g b = (g y (inl refl) b.0, each ys (λ z i. g z (inr i)) b.1)

pub numbers_cases : (a b : ℕ) (xs ys : List ℕ) → numbers_lt (a ∷ xs) (b ∷ ys) ≡ true → (a < b) ⊎ ((a ≡ b) × (numbers_lt xs ys ≡ true))
unfolding numbers_lt
numbers_cases a b xs ys h = by (ltb a b) (ltb b a) refl refl h
  where
    by : (s t : Bool) → ltb a b ≡ s → ltb b a ≡ t → cond s true (cond t false (numbers_lt xs ys)) ≡ true → (a < b) ⊎ ((a ≡ b) × (numbers_lt xs ys ≡ true))
    by true t e g h = inl (grind (arith, nat_tests))
    by false true e g h = absurd (true≢false (sym h))
    by false false e g h = inr (grind (arith, nat_tests), h)

pub numbers_first : (a b : ℕ) (xs ys : List ℕ) → a < b → numbers_lt (a ∷ xs) (b ∷ ys) ≡ true
unfolding numbers_lt
numbers_first a b xs ys h = ap (λ t. cond t true (cond (ltb b a) false (numbers_lt xs ys))) (lt-ltb a b h)

pub numbers_rest : (a b : ℕ) (xs ys : List ℕ) → a ≡ b → numbers_lt xs ys ≡ true → numbers_lt (a ∷ xs) (b ∷ ys) ≡ true
unfolding numbers_lt
numbers_rest a b xs ys e h = grind (arith, nat_tests)

pub numbers_map : (f : ℕ → ℕ) (xs ys : List ℕ) → ((a b : ℕ) → In a xs → In b ys → a < b → f a < f b) → numbers_lt xs ys ≡ true → numbers_lt (map f xs) (map f ys) ≡ true
unfolding numbers_lt
numbers_map f xs [] h e = absurd (true≢false (sym e))
numbers_map f [] (y ∷ ys) h e = refl
numbers_map f (x ∷ xs) (y ∷ ys) h e = elim (numbers_cases x y xs ys e) [
  | inl l ↦ numbers_first (f x) (f y) (map f xs) (map f ys) (h x y (inl refl) (inl refl) l)
  | inr q ↦ numbers_rest (f x) (f y) (map f xs) (map f ys) (ap f q.0) (numbers_map f xs ys (λ a b i j. h a b (inr i) (inr j)) q.1)
]

-- the keys of numbers, as they are read one by one
pub keys_are : {A : Type 0} {xs : List A} {is : List ℕ} {ks : List A} → At xs is ks → keys_at xs is ≡ ks
unfolding keys_at
keys_are at_none = refl
keys_are {xs = xs} (at_more {n = n} {ns = ns} {y = y} {ys = ys} e a) = ap₂ (λ u us. one_or_none u ++ us) e (keys_are a)
