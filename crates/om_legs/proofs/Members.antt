-- The tie of members of lists to `Contains` and `AllPairs`, which go by index, and lists that rise.
use Rattle.std.proofs.Common.{ℕ, zero, suc, ◌<◌, List, [], ◌∷◌, ◌++◌, map, length, get_or, inl, inr, ⊎_elim, refl, sym, subst, arith}
use Rattle.std.specs.List.{Contains, AllPairs, flat_map}
use Rattle.om_ring.specs.Members.{In}
use Rattle.om_ring.proofs.Members.{in_either, in_mapped, from_flat_map}

pub In-get_or : {A : Type 0} (xs : List A) (k : ℕ) (d : A) → k < length xs → In (get_or xs k d) xs
In-get_or [] k d h = absurd (omega arith)
In-get_or (x ∷ xs) zero d h = inl refl
In-get_or (x ∷ xs) (suc k) d h = inr (In-get_or xs k d (omega arith))

pub Contains-from_In : {A : Type 0} (xs : List A) (x : A) → In x xs → Contains xs x
Contains-from_In [] x h = absurd h
Contains-from_In (y ∷ ys) x (inl e) = (0, omega arith, sym e)
Contains-from_In (y ∷ ys) x (inr i) = let c = Contains-from_In ys x i in (suc c.0, (let l = c.1 in omega arith), c.2)

pub In-from_Contains : {A : Type 0} (xs : List A) (x : A) → Contains xs x → In x xs
In-from_Contains xs x c = subst (λ y. In y xs) c.2 (In-get_or xs c.0 x c.1)

-- each member stands before all later ones
abbrev pub Rising : {A : Type 0} → (A → A → Type 0) → List A → Type 0
Rising R [] = Unit {0}
Rising {A} R (x ∷ xs) = ((y : A) → In y xs → R x y) × Rising R xs

pub AllPairs-from_Rising : {A : Type 0} (R : A → A → Type 0) (xs : List A) → Rising R xs → AllPairs R xs
AllPairs-from_Rising R [] h i j d l m = absurd (omega arith)
AllPairs-from_Rising R (x ∷ xs) h zero zero d l m = absurd (omega arith)
AllPairs-from_Rising R (x ∷ xs) h zero (suc j) d l m = h.0 (get_or xs j d) (In-get_or xs j d (omega arith))
AllPairs-from_Rising R (x ∷ xs) h (suc i) zero d l m = absurd (omega arith)
AllPairs-from_Rising R (x ∷ xs) h (suc i) (suc j) d l m = AllPairs-from_Rising R xs h.1 i j d (omega arith) (omega arith)

pub Rising-from_AllPairs : {A : Type 0} (R : A → A → Type 0) (xs : List A) → AllPairs R xs → Rising R xs
Rising-from_AllPairs R [] h = tt
Rising-from_AllPairs R (x ∷ xs) h = (
  (λ y i. (let c = Contains-from_In xs y i in subst (R x) c.2 (h 0 (suc c.0) y (omega arith) (let l = c.1 in omega arith)))),
  Rising-from_AllPairs R xs (λ i j d l m. h (suc i) (suc j) d (omega arith) (omega arith)),
)

pub Rising-append : {A : Type 0} (R : A → A → Type 0) (xs ys : List A) → Rising R xs → Rising R ys → ((x y : A) → In x xs → In y ys → R x y) → Rising R (xs ++ ys)
Rising-append R [] ys p q h = q
Rising-append R (x ∷ xs) ys p q h = (
  (λ y i. ⊎_elim (λ j. p.0 y j) (λ j. h x y (inl refl) j) (in_either y xs ys i)),
  Rising-append R xs ys p.1 q (λ z y i j. h z y (inr i) j),
)

pub Rising-weaker : {A : Type 0} (R S : A → A → Type 0) (xs : List A) → ((x y : A) → In x xs → In y xs → R x y → S x y) → Rising R xs → Rising S xs
Rising-weaker R S [] h r = tt
Rising-weaker R S (x ∷ xs) h r = ((λ y i. h x y (inl refl) (inr i) (r.0 y i)), Rising-weaker R S xs (λ y z i j. h y z (inr i) (inr j)) r.1)

-- where f keeps the order
pub Rising-map : {A B : Type 0} (R : A → A → Type 0) (S : B → B → Type 0) (f : A → B) (xs : List A) → ((x y : A) → In x xs → In y xs → R x y → S (f x) (f y)) → Rising R xs → Rising S (map f xs)
Rising-map R S f [] h r = tt
Rising-map R S f (x ∷ xs) h r = (
  (λ y i. (let s = in_mapped f y xs i in subst (S (f x)) (sym s.2) (h x s.0 (inl refl) (inr s.1) (r.0 s.0 s.1)))),
  Rising-map R S f xs (λ z y i j. h z y (inr i) (inr j)) r.1,
)

-- where each list rises, and the lists of rising members follow one another
pub Rising-flat_map : {A B : Type 0} (R : A → A → Type 0) (S : B → B → Type 0) (f : A → List B) (xs : List A) → ((x : A) → In x xs → Rising S (f x)) → ((x y : A) (u v : B) → In x xs → In y xs → R x y → In u (f x) → In v (f y) → S u v) → Rising R xs → Rising S (flat_map f xs)
Rising-flat_map R S f [] each between r = tt
Rising-flat_map R S f (x ∷ xs) each between r = Rising-append S (f x) (flat_map f xs) (each x (inl refl))
    (Rising-flat_map R S f xs (λ y i. each y (inr i)) (λ y z u v i j. between y z u v (inr i) (inr j)) r.1)
    (λ u v i j. (let s = from_flat_map f v xs j in between x s.0 u v (inl refl) (inr s.1) (r.0 s.0 s.1) i s.2))
