-- The dens of a graph are the names of the edges above its inner nodes.
use Rattle.std.proofs.Common.{◌≡◌, ℕ, List, [], ◌∷◌, ◌⊎◌, inl, inr, ⊎_elim, refl, sym, ◌∙◌, ap, subst}
use Rattle.std.specs.List.{fold, filter, AllByRecursion}
use Rattle.std.specs.List.Sorted.{IsStrictlySortedBy}
use Rattle.std.specs.Ordering.{nat_cmp, match_ordering, ordering_reverse}
use Rattle.std.specs.declared.cmp.Ordering.{Ordering}
use Rattle.std.specs.declared.cmp.Ordering.TheVariants.{Less, Equal, Greater}
use Rattle.std.specs.BTreeSet.{insert_key}
use Rattle.std.proofs.lemmas.Map.Lookups.{exact_pairs, exact_unsigned}
use Rattle.om_ring.specs.Members.{In}
use Rattle.om_graph.specs.declared.Key.{Key}
use Rattle.om_code.specs.declared.code.Den.{Den}
use Rattle.om_keystone.specs.Built.{is_inner}
use Rattle.om_code.specs.DenOrder.{den_order}
use Rattle.om_emit.specs.GraphCode.{den_of, dens_of}
use Rattle.om_emit.specs.EdgesAbove.{DensAreEdgesAbove}
use Rattle.om_ring.proofs.Members.{in_filter}
use Rattle.om_emit.proofs.DensInOrder.{dens_total}

-- dens that compare alike are one
pub same_den : (a b : Den) → den_order a b ≡ Equal → a ≡ b
same_den a b h = ap (λ (p : ℕ × ℕ). let d : Den = record { legs = p.0; field = p.1 } in d) (exact_pairs nat_cmp nat_cmp exact_unsigned exact_unsigned (a.legs, a.field) (b.legs, b.field) h)

-- an insertion
below_all : (a x : Den) (xs : List Den) → den_order a x ≡ Less → AllByRecursion (λ y. den_order x y ≡ Less) xs → AllByRecursion (λ y. den_order a y ≡ Less) xs
below_all a x [] e h = tt
below_all a x (y ∷ ys) e h = (dens_total.trans a x y e h.0, below_all a x ys e h.1)

insert_above : (x : Den) (xs : List Den) (k : Den) → den_order x k ≡ Less → AllByRecursion (λ y. den_order x y ≡ Less) xs → AllByRecursion (λ y. den_order x y ≡ Less) (insert_key den_order xs k)
insert_above x [] k e h = (e, tt)
insert_above x (y ∷ ys) k e h = by (den_order k y) (insert_above x ys k e h.1)
  where
    by : (a : Ordering) → AllByRecursion (λ y. den_order x y ≡ Less) (insert_key den_order ys k) → AllByRecursion (λ y. den_order x y ≡ Less) (match_ordering a (k ∷ y ∷ ys) (y ∷ ys) (y ∷ insert_key den_order ys k))
    by Less ih = (e, h)
    by Equal ih = h
    by Greater ih = (h.0, ih)

insert_ordered : (xs : List Den) (k : Den) → IsStrictlySortedBy den_order xs → IsStrictlySortedBy den_order (insert_key den_order xs k)
unfolding IsStrictlySortedBy
insert_ordered [] k s = (tt, tt)
insert_ordered (x ∷ xs) k s = by (den_order k x) refl (insert_ordered xs k s.1)
  where
    by : (a : Ordering) → den_order k x ≡ a → IsStrictlySortedBy den_order (insert_key den_order xs k) → IsStrictlySortedBy den_order (match_ordering a (k ∷ x ∷ xs) (x ∷ xs) (x ∷ insert_key den_order xs k))
    by Less e ih = ((e, below_all k x xs e s.0), s)
    by Equal e ih = s
    by Greater e ih = (insert_above x xs k (dens_total.antisymm x k ∙ ap ordering_reverse e) s.0, ih)

in_inserted : (xs : List Den) (k q : Den) → In q (insert_key den_order xs k) → (q ≡ k) ⊎ In q xs
in_inserted [] k q i = ⊎_elim inl (λ z. absurd z) i
in_inserted (x ∷ xs) k q i = by (den_order k x) (in_inserted xs k q) i
  where
    by : (a : Ordering) → (In q (insert_key den_order xs k) → (q ≡ k) ⊎ In q xs) → In q (match_ordering a (k ∷ x ∷ xs) (x ∷ xs) (x ∷ insert_key den_order xs k)) → (q ≡ k) ⊎ In q (x ∷ xs)
    by Less ih j = j
    by Equal ih j = inr j
    by Greater ih (inl e) = inr (inl e)
    by Greater ih (inr j) = ⊎_elim inl (λ z. inr (inr z)) (ih j)

inserted_in : (xs : List Den) (k q : Den) → (q ≡ k) ⊎ In q xs → In q (insert_key den_order xs k)
inserted_in [] k q i = ⊎_elim inl (λ z. absurd z) i
inserted_in (x ∷ xs) k q i = by (den_order k x) refl (inserted_in xs k q) i
  where
    by : (a : Ordering) → den_order k x ≡ a → ((q ≡ k) ⊎ In q xs → In q (insert_key den_order xs k)) → (q ≡ k) ⊎ In q (x ∷ xs) → In q (match_ordering a (k ∷ x ∷ xs) (x ∷ xs) (x ∷ insert_key den_order xs k))
    by Less e ih (inl s) = inl s
    by Less e ih (inr j) = inr j
    by Equal e ih (inl s) = inl (s ∙ same_den k x e)
    by Equal e ih (inr j) = j
    by Greater e ih (inl s) = inr (ih (inl s))
    by Greater e ih (inr (inl s)) = inl s
    by Greater e ih (inr (inr j)) = inr (ih (inr j))

module _ (anti : ℕ → ℕ) (n : ℕ) where
  abbrev put_den : List Den → Key → List Den
  put_den dens node = insert_key den_order dens (den_of anti n node)

  fold_ordered : (nodes : List Key) (dens : List Den) → IsStrictlySortedBy den_order dens → IsStrictlySortedBy den_order (fold put_den dens nodes)
  fold_ordered [] dens s = s
  fold_ordered (x ∷ xs) dens s = fold_ordered xs (put_den dens x) (insert_ordered dens (den_of anti n x) s)

  -- where a den comes from
  record Comes (nodes : List Key) (den : Den) : Type 0 where
    node : Key
    is_node : In node nodes
    edge : den ≡ den_of anti n node

  in_fold : (nodes : List Key) (dens : List Den) (q : Den) → In q (fold put_den dens nodes) → In q dens ⊎ Comes nodes q
  in_fold [] dens q i = inl i
  in_fold (x ∷ xs) dens q i = ⊎_elim
      (λ j. ⊎_elim (λ e. inr (record { node = x; is_node = inl refl; edge = e })) inl (in_inserted dens (den_of anti n x) q j))
      (λ c. inr (record { node = c.node; is_node = inr c.is_node; edge = c.edge }))
      (in_fold xs (put_den dens x) q i)

  kept_in : (nodes : List Key) (dens : List Den) (q : Den) → In q dens → In q (fold put_den dens nodes)
  kept_in [] dens q i = i
  kept_in (x ∷ xs) dens q i = kept_in xs (put_den dens x) q (inserted_in dens (den_of anti n x) q (inr i))

  fold_in : (nodes : List Key) (dens : List Den) (node : Key) → In node nodes → In (den_of anti n node) (fold put_den dens nodes)
  fold_in [] dens node i = absurd i
  fold_in (x ∷ xs) dens node (inl e) = kept_in xs (put_den dens x) (den_of anti n node) (inserted_in dens (den_of anti n x) (den_of anti n node) (inl (ap (den_of anti n) e)))
  fold_in (x ∷ xs) dens node (inr i) = fold_in xs (put_den dens x) node i

pub dens_are_edges_above : DensAreEdgesAbove
unfolding dens_of IsStrictlySortedBy
dens_are_edges_above anti n nodes = record {
  ordered = fold_ordered anti n (filter is_inner nodes) [] tt;
  members = λ den. (
    λ i. ⊎_elim (λ z. absurd z) (λ c. let f = (in_filter is_inner c.node nodes).0 c.is_node in record { node = c.node; is_node = f.0; inner = f.1; edge = c.edge }) (in_fold anti n (filter is_inner nodes) [] den i),
    λ h. let P : Den → Type 0 = λ d. In d (fold (put_den anti n) [] (filter is_inner nodes)) in
        subst P (sym h.edge) (fold_in anti n (filter is_inner nodes) [] h.node ((in_filter is_inner h.node nodes).1 (h.is_node, h.inner))),
  );
}
