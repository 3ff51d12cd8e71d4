-- Nodes that are chosen one by one.
use Rattle.std.proofs.Common.{◌≡◌, ℕ, suc, ◌<◌, ◌≤◌, ◌+◌, ◌-◌, List, [], ◌∷◌, ◌++◌, flat_map, map, length, get_or, take, drop, inl, refl, ap, sym, subst, ◌∙◌, arith, Some, append-nil, append_assoc}
use Rattle.om_ring.specs.Members.{In}
use Rattle.om_graph.specs.declared.Key.{Key}
use Rattle.om_graph.specs.declared.nodes.Range.{Range}
use Rattle.om_graph.specs.Caches.{AllBelow, in_range, counts_from}
use Rattle.om_graph.specs.Graph.{at_numbers}
use Rattle.om_graph.specs.Loops.{AllFrom}
use Rattle.om_graph.specs.Tuples.{tuples, numbers_over, met, met_from}
use Rattle.om_ring.proofs.Members.{in_map, in_flat_map}
use Rattle.om_graph.proofs.Steps.{in_from}

pub below_more : (n : ℕ) (ks : List ℕ) (k : ℕ) → AllBelow n ks → k < n → AllBelow n (ks ++ k ∷ [])
below_more n [] k h l = (l, tt)
below_more n (x ∷ ks) k h l = (h.0, below_more n ks k h.1 l)

-- what holds of the nodes that may be chosen, with nothing more to choose and with one node more
pub none_more : (May : List Key → Type 0) (ns : List Key) (is : List ℕ) → AllFrom May ns is [] → (ks : List Key) → at_numbers ns is ≡ Some ks → May ks
unfolding tuples
none_more May ns is h ks e = h [] ks (inl refl) (ap (at_numbers ns) (append-nil is) ∙ e)

pub one_more : (May : List Key → Type 0) (ns : List Key) (is js : List ℕ) (part : ℕ) (more : List ℕ) (x : Range) (n : ℕ) → AllFrom May ns is (part ∷ more) → in_range x ≡ numbers_over (λ (k : Key). k.legs) ns part → x.first ≤ n → n < x.end → js ≡ is ++ n ∷ [] → AllFrom May ns js more
unfolding tuples
one_more May ns is js part more x n h e l g q ts ks i a =
    h (n ∷ ts) ks
    (in_flat_map (λ m. map (λ us. m ∷ us) (tuples (λ (k : Key). k.legs) ns more)) n (n ∷ ts) (numbers_over (λ (k : Key). k.legs) ns part)
    (subst (In n) e (in_from x.first (x.end - x.first) n l (omega arith)))
    (in_map (λ us. n ∷ us) ts (tuples (λ (k : Key). k.legs) ns more) i))
    (ap (at_numbers ns) (sym (append_assoc is (n ∷ []) ts)) ∙ ap (λ (us : List ℕ). at_numbers ns (us ++ ts)) (sym q) ∙ a)

pub empty_is : {A : Type 0} (xs : List A) → length xs < 1 → xs ≡ []
empty_is [] l = refl
empty_is (x ∷ xs) l = absurd (omega arith)

-- the members behind the first, as a part of the list
all_of : {A : Type 0} (xs : List A) → take (length xs) xs ≡ xs
all_of [] = refl
all_of (x ∷ xs) = ap (λ ys. x ∷ ys) (all_of xs)

pub first_and_rest : {A : Type 0} (xs : List A) (x : A) → 1 ≤ length xs → x ≡ get_or xs 0 x → xs ≡ x ∷ take (length xs - 1) (drop 1 xs)
first_and_rest [] x l e = absurd (omega arith)
first_and_rest (y ∷ xs) x l e = ap (λ z. z ∷ xs) (sym e) ∙ ap (λ zs. x ∷ zs) (sym (all_of xs) ∙ ap (λ n. take n xs) (behind xs))
  where
    behind : {A : Type 0} (xs : List A) → length xs ≡ suc (length xs) - 1
    behind xs = omega arith

pub rest_length : {A : Type 0} (xs : List A) → 1 ≤ length xs → length (take (length xs - 1) (drop 1 xs)) + 1 ≡ length xs
rest_length [] l = absurd (omega arith)
rest_length (y ∷ xs) l = let e : take (length (y ∷ xs) - 1) xs ≡ xs = ap (λ n. take n xs) (behind xs) ∙ all_of xs in let n : length (take (length (y ∷ xs) - 1) xs) ≡ length xs = ap length e in omega arith
  where
    behind : {A : Type 0} (xs : List A) → suc (length xs) - 1 ≡ length xs
    behind xs = omega arith

pub from_none : {K X : Type 0} (set : K → ℕ) (meet : List ℕ → List K → List X) (ns : List K) (is parts : List ℕ) → length parts < 1 → met_from set meet ns is parts ≡ met meet ns is
unfolding met_from
from_none set meet ns is parts l = ap (met_from set meet ns is) (empty_is parts l)

pub from_first : {K X : Type 0} (set : K → ℕ) (meet : List ℕ → List K → List X) (ns : List K) (is parts more : List ℕ) (part : ℕ) (x : Range) → parts ≡ part ∷ more → in_range x ≡ numbers_over set ns part
    → met_from set meet ns is parts ≡ flat_map (λ n. met_from set meet ns (is ++ n ∷ []) more) (counts_from x.first (x.end - x.first))
unfolding met_from
from_first set meet ns is parts more part x e g = ap (met_from set meet ns is) e ∙ ap (flat_map (λ n. met_from set meet ns (is ++ n ∷ []) more)) (sym g)
