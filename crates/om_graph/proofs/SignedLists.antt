-- What the loops find, without its signs, is what the search finds; and of each that is found, the nodes that make it.
use Rattle.std.proofs.Common.{◌≡◌, ℕ, zero, suc, ◌≤◌, List, [], ◌∷◌, ◌++◌, flat_map, length, take, get_or, Bool, true, false, cond, ◌⊎◌, inl, inr, refl, ap, sym, subst, ◌∙◌, arith, Option, Some, None, slice_get}
use Rattle.std.specs.List.{filter}
use Rattle.std.specs.Prelude.{All}
use Rattle.std.proofs.lemmas.List.Concat.{flat_map-append}
use Rattle.std.proofs.lemmas.Option.{same_Some}
use Rattle.om_ring.specs.OptionSteps.{◌>>=◌}
use Rattle.om_ring.specs.Members.{In}
use Rattle.om_legs.proofs.Members.{In-get_or}
use Rattle.om_graph.specs.declared.Key.{Key}
use Rattle.om_graph.specs.Graph.{Found, at_numbers}
use Rattle.om_graph.specs.Loops.{Signed}
use Rattle.om_graph.specs.SetSearch.{found_in}
use Rattle.om_graph.specs.Tuples.{met, met_by, met_from, met_over, met_over_all, tuples}
use Rattle.om_ring.proofs.Members.{in_either, from_flat_map}
use Rattle.om_graph.proofs.SetNodes.{then_some}
use Rattle.om_graph.proofs.Tuples.{flat_map-same, one_by_one}
use Rattle.om_graph.proofs.VertexChoices.{map-flat_map}

filtered : {A B : Type 0} (t : A → Bool) (f : A → List B) (xs : List A) → flat_map (λ x. cond (t x) (f x) []) xs ≡ flat_map f (filter t xs)
filtered t f [] = refl
filtered t f (x ∷ xs) = by (t x) (filtered t f xs)
  where
    by : (b : Bool) → flat_map (λ x. cond (t x) (f x) []) xs ≡ flat_map f (filter t xs) → cond b (f x) [] ++ flat_map (λ x. cond (t x) (f x) []) xs ≡ flat_map f (cond b (x ∷ filter t xs) (filter t xs))
    by true e = ap (λ ys. f x ++ ys) e
    by false e = e

pub length_at_numbers : {A : Type 0} (xs : List A) (is : List ℕ) (ks : List A) → at_numbers xs is ≡ Some ks → length is ≡ length ks
length_at_numbers xs [] ks e = ap length (same_Some [] ks e)
length_at_numbers xs (i ∷ is) ks e =
    let a = then_some (slice_get xs i) (λ x. at_numbers xs is >>= λ zs. Some (x ∷ zs)) ks e in
    let b = then_some (at_numbers xs is) (λ zs. Some (a.0 ∷ zs)) ks a.2 in
    ap suc (length_at_numbers xs is b.0 b.1) ∙ ap length (same_Some (a.0 ∷ b.0) ks b.2)

-- each of a list, by its members
pub all_of_members : {A : Type 0} (P : A → Type 0) (xs : List A) → ((x : A) → In x xs → P x) → All P xs
all_of_members P xs h k d l = h (get_or xs k d) (In-get_or xs k d l)

pub take_shorter : {A : Type 0} (n : ℕ) (xs : List A) → length (take n xs) ≤ n
take_shorter zero xs = omega arith
take_shorter (suc n) [] = omega arith
take_shorter (suc n) (x ∷ xs) = let l = take_shorter n xs in omega (arith, l)

module _ {M : Type 0} (meet : List ℕ → List Key → List (Signed M)) (ns : List Key) where
  abbrev pub without_signs : List ℕ → List Key → List (Found M)
  without_signs is ks = found_in (meet is ks)

  met_found : (is : List ℕ) → found_in (met meet ns is) ≡ met without_signs ns is
  unfolding met
  met_found is = by (at_numbers ns is)
    where
      by : (o : Option (List Key)) → found_in (met_by meet is o) ≡ met_by without_signs is o
      by None = refl
      by (Some ks) = refl

  over_found : (parts : List ℕ) → found_in (met_from (λ (k : Key). k.legs) meet ns [] parts) ≡ met_over (λ (k : Key). k.legs) without_signs ns parts
  unfolding met_over
  over_found parts =
      ap found_in (one_by_one (λ (k : Key). k.legs) meet ns parts)
      ∙ map-flat_map (λ (x : Signed M). x.found) (met meet ns) (tuples (λ (k : Key). k.legs) ns parts)
      ∙ flat_map-same (λ is. found_in (met meet ns is)) (met without_signs ns) (tuples (λ (k : Key). k.legs) ns parts) met_found

  -- what nodes of parts that pass a test make
  abbrev pub met_where : (List ℕ → Bool) → List ℕ → List (Signed M)
  met_where t parts = cond (t parts) (met_from (λ (k : Key). k.legs) meet ns [] parts) []

  where_found : (t : List ℕ → Bool) (parts : List ℕ) → found_in (met_where t parts) ≡ cond (t parts) (met_over (λ (k : Key). k.legs) without_signs ns parts) []
  where_found t parts = by (t parts)
    where
      by : (b : Bool) → found_in (cond b (met_from (λ (k : Key). k.legs) meet ns [] parts) []) ≡ cond b (met_over (λ (k : Key). k.legs) without_signs ns parts) []
      by true = over_found parts
      by false = refl

  pub found_where : (t : List ℕ → Bool) (xs ys : List (List ℕ)) → found_in (flat_map (met_where t) xs ++ flat_map (met_where t) ys) ≡ met_over_all (λ (k : Key). k.legs) without_signs ns (filter t (xs ++ ys))
  unfolding met_over_all
  found_where t xs ys =
      ap found_in (sym (flat_map-append (met_where t) xs ys))
      ∙ map-flat_map (λ (x : Signed M). x.found) (met_where t) (xs ++ ys)
      ∙ flat_map-same (λ parts. found_in (met_where t parts)) (λ parts. cond (t parts) (met_over (λ (k : Key). k.legs) without_signs ns parts) []) (xs ++ ys) (where_found t)
      ∙ filtered t (met_over (λ (k : Key). k.legs) without_signs ns) (xs ++ ys)

  -- nodes that make what was found
  pub record MadeBy (x : Signed M) : Type 0 where
    pub numbers : List ℕ
    pub keys : List Key
    pub are : at_numbers ns numbers ≡ Some keys
    pub met_now : In x (meet numbers keys)

  made_met : (is : List ℕ) (x : Signed M) → In x (met meet ns is) → MadeBy x
  unfolding met
  made_met is x i = by (at_numbers ns is) refl i
    where
      by : (o : Option (List Key)) → at_numbers ns is ≡ o → In x (met_by meet is o) → MadeBy x
      by None e i = absurd i
      by (Some ks) e i = record { numbers = is; keys = ks; are = e; met_now = i }

  made_over : (parts : List ℕ) (x : Signed M) → In x (met_over (λ (k : Key). k.legs) meet ns parts) → MadeBy x
  unfolding met_over
  made_over parts x i = let f = from_flat_map (met meet ns) x (tuples (λ (k : Key). k.legs) ns parts) i in made_met f.0 x f.2

  made_where : (t : List ℕ → Bool) (xs : List (List ℕ)) (x : Signed M) → In x (flat_map (met_where t) xs) → MadeBy x
  made_where t xs x i = let f = from_flat_map (met_where t) x xs i in by f.0 (t f.0) f.2
    where
      by : (parts : List ℕ) (b : Bool) → In x (cond b (met_from (λ (k : Key). k.legs) meet ns [] parts) []) → MadeBy x
      by parts true i = made_over parts x (subst (In x) (one_by_one (λ (k : Key). k.legs) meet ns parts) i)
      by parts false i = absurd i

  pub made_by : (t : List ℕ → Bool) (xs ys : List (List ℕ)) (x : Signed M) → In x (flat_map (met_where t) xs ++ flat_map (met_where t) ys) → MadeBy x
  made_by t xs ys x i = by (in_either x (flat_map (met_where t) xs) (flat_map (met_where t) ys) i)
    where
      by : In x (flat_map (met_where t) xs) ⊎ In x (flat_map (met_where t) ys) → MadeBy x
      by (inl j) = made_where t xs x j
      by (inr j) = made_where t ys x j
