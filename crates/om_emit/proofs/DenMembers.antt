-- Each inner node's edge is among the dens, and there are at most as many dens as nodes.
use Rattle.std.proofs.Common.{◌≡◌, ℕ, suc, ◌+◌, ◌≤◌, List, [], ◌∷◌, ◌⊎◌, inl, inr, length, Bool, true, false, cond, ◌||◌, refl, sym, ◌∙◌, ap, subst, arith}
use Rattle.std.specs.Prelude.{All}
use Rattle.std.specs.List.{list_any, fold, filter}
use Rattle.std.specs.Ordering.{match_ordering, ordering_reverse, is_eq}
use Rattle.std.specs.declared.cmp.Ordering.{Ordering}
use Rattle.std.specs.declared.cmp.Ordering.TheVariants.{Less, Equal, Greater}
use Rattle.std.specs.BTreeMap.{is_at}
use Rattle.std.specs.BTreeSet.{insert_key}
use Rattle.std.specs.Cmp.{IsTotalOrder}
use Rattle.std.proofs.lemmas.Bool.{or_left, or_right, or_cases}
use Rattle.std.proofs.lemmas.List.Elements.{All-cons, All-nil}
use Rattle.om_graph.specs.declared.Key.{Key}
use Rattle.om_code.specs.declared.code.Den.{Den}
use Rattle.om_keystone.specs.Built.{is_inner}
use Rattle.om_code.specs.DenOrder.{den_order}
use Rattle.om_emit.specs.GraphCode.{den_of, dens_of}
use Rattle.om_emit.specs.GraphWalk.{HasDen}
use Rattle.om_emit.proofs.DensInOrder.{dens_total}

module _ {K : Type 0} {R : K → K → Ordering} (o : IsTotalOrder R) where
  same_key : (k : K) (a : Ordering) → R k k ≡ a → is_eq (R k k) ≡ true
  same_key k Equal e = ap is_eq e
  same_key k Less e = absurd (let g : Less ≡ Greater = sym e ∙ o.antisymm k k ∙ ap ordering_reverse e in cc)
  same_key k Greater e = absurd (let g : Greater ≡ Less = sym e ∙ o.antisymm k k ∙ ap ordering_reverse e in cc)

  -- an insertion keeps what is there, and brings the key
  insert_new : (xs : List K) (k : K) → list_any (is_at (R k)) (insert_key R xs k) ≡ true
  insert_new [] k = or_left (is_eq (R k k)) false (same_key k (R k k) refl)
  insert_new (x ∷ xs) k = by (R k x) refl (insert_new xs k)
    where
      by : (a : Ordering) → R k x ≡ a → list_any (is_at (R k)) (insert_key R xs k) ≡ true → list_any (is_at (R k)) (match_ordering a (k ∷ x ∷ xs) (x ∷ xs) (x ∷ insert_key R xs k)) ≡ true
      by Less e h = or_left (is_eq (R k k)) (list_any (is_at (R k)) (x ∷ xs)) (same_key k (R k k) refl)
      by Equal e h = or_left (is_eq (R k x)) (list_any (is_at (R k)) xs) (ap is_eq e)
      by Greater e h = or_right (is_eq (R k x)) (list_any (is_at (R k)) (insert_key R xs k)) h

  insert_old : (p : K → Bool) (xs : List K) (k : K) → list_any p xs ≡ true → list_any p (insert_key R xs k) ≡ true
  insert_old p [] k h = or_right (p k) false h
  insert_old p (x ∷ xs) k h = by (R k x) (λ i. insert_old p xs k i) (or_cases (p x) (list_any p xs) h)
    where
      by : (a : Ordering) → (list_any p xs ≡ true → list_any p (insert_key R xs k) ≡ true) → (p x ≡ true) ⊎ (list_any p xs ≡ true) → list_any p (match_ordering a (k ∷ x ∷ xs) (x ∷ xs) (x ∷ insert_key R xs k)) ≡ true
      by Less ih c = or_right (p k) (p x || list_any p xs) h
      by Equal ih c = h
      by Greater ih (inl t) = or_left (p x) (list_any p (insert_key R xs k)) t
      by Greater ih (inr t) = or_right (p x) (list_any p (insert_key R xs k)) (ih t)

  insert_long : (xs : List K) (k : K) → length (insert_key R xs k) ≤ suc (length xs)
  insert_long [] k = omega arith
  insert_long (x ∷ xs) k = by (R k x) (insert_long xs k)
    where
      by : (a : Ordering) → length (insert_key R xs k) ≤ suc (length xs) → length (match_ordering a (k ∷ x ∷ xs) (x ∷ xs) (x ∷ insert_key R xs k)) ≤ suc (suc (length xs))
      by Less h = omega arith
      by Equal h = omega arith
      by Greater h = omega arith

module _ (anti : ℕ → ℕ) (n : ℕ) where
  abbrev step : List Den → Key → List Den
  step dens node = insert_key den_order dens (den_of anti n node)

  -- the first node
  first_node : (x : Key) (xs : List Key) (dens : List Den) → fold step dens (filter is_inner (x ∷ xs)) ≡ fold step (cond (is_inner x) (step dens x) dens) (filter is_inner xs)
  first_node x xs dens = by (is_inner x)
    where
      by : (b : Bool) → fold step dens (cond b (x ∷ filter is_inner xs) (filter is_inner xs)) ≡ fold step (cond b (step dens x) dens) (filter is_inner xs)
      by true = refl
      by false = refl

  kept : (p : Den → Bool) (nodes : List Key) (dens : List Den) → list_any p dens ≡ true → list_any p (fold step dens (filter is_inner nodes)) ≡ true
  kept p [] dens h = h
  kept p (x ∷ xs) dens h = ap (list_any p) (first_node x xs dens) ∙ kept p xs (cond (is_inner x) (step dens x) dens) (by (is_inner x))
    where
      by : (b : Bool) → list_any p (cond b (step dens x) dens) ≡ true
      by true = insert_old dens_total p dens (den_of anti n x) h
      by false = h

  all_there : (nodes : List Key) (dens : List Den) → All (HasDen anti n (fold step dens (filter is_inner nodes))) nodes
  all_there [] dens = All-nil (HasDen anti n dens)
  all_there (x ∷ xs) dens =
      let end = fold step dens (filter is_inner (x ∷ xs)) in
      let P : List Den → Type 0 = λ ds. All (HasDen anti n ds) xs in
      All-cons (HasDen anti n end) x xs
      (λ e. ap (list_any (is_at (den_order (den_of anti n x)))) (first_node x xs dens ∙ ap (λ b. fold step (cond b (step dens x) dens) (filter is_inner xs)) e)
      ∙ kept (is_at (den_order (den_of anti n x))) xs (step dens x) (insert_new dens_total dens (den_of anti n x)))
      (subst P (sym (first_node x xs dens)) (all_there xs (cond (is_inner x) (step dens x) dens)))

  pub has_dens : (nodes : List Key) → All (HasDen anti n (dens_of anti n nodes)) nodes
  unfolding dens_of
  has_dens nodes = all_there nodes []

  long : (nodes : List Key) (dens : List Den) → length (fold step dens (filter is_inner nodes)) ≤ length dens + length nodes
  long [] dens = omega arith
  long (x ∷ xs) dens =
      let r = long xs (cond (is_inner x) (step dens x) dens) in
      let e : length (fold step dens (filter is_inner (x ∷ xs))) ≡ length (fold step (cond (is_inner x) (step dens x) dens) (filter is_inner xs)) = ap length (first_node x xs dens) in
      let l : length (cond (is_inner x) (step dens x) dens) ≤ suc (length dens) = by (is_inner x) in
      omega arith
    where
      by : (b : Bool) → length (cond b (step dens x) dens) ≤ suc (length dens)
      by true = insert_long dens_total dens (den_of anti n x)
      by false = omega arith

  pub few_dens : (nodes : List Key) → length (dens_of anti n nodes) ≤ length nodes
  unfolding dens_of
  few_dens nodes = let r = long nodes [] in omega arith
