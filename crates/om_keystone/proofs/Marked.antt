-- One pass over the terms, last to first, marks all that is reached.
use Rattle.std.proofs.Common.{◌≡◌, ℕ, zero, suc, ◌<◌, ◌≤◌, List, [], ◌∷◌, length, set, replicate, Bool, true, false, cond, ◌⊎◌, inl, inr, ⊎_elim, refl, ap, sym, subst, ◌∙◌, arith, true≢false, length-set}
use Rattle.std.proofs.lemmas.List.{get_or-set_same, length-replicate}
use Rattle.om_ring.specs.Members.{In}
use Rattle.om_graph.specs.Graph.{Numbered}
use Rattle.om_legs.proofs.Marks.{length-mark_each}
use Rattle.om_legs.specs.BranchNodes.{mark_each}
use Rattle.om_keystone.specs.Pruning.{is_marked, mark_keys, mark_terms, marks_of}
use Rattle.om_keystone.proofs.Steps.{length-mark_keys, length-mark_terms}

-- reached from the first marks by terms in any order
pub data Reaches (xs : List Numbered) (m : ℕ → Type 0) : ℕ → Type 0 where
  at_first : {n : ℕ} → m n → Reaches xs m n
  along : {n : ℕ} (x : Numbered) → In x xs → Reaches xs m x.made → In n x.branches → Reaches xs m n

-- branches have lesser numbers than their node, and nodes don't fall
abbrev pub InRank : List Numbered → Type 0
InRank [] = Unit {0}
InRank (x ∷ xs) = ((k : ℕ) → In k x.branches → k < x.made) × ((y : Numbered) → In y xs → x.made ≤ y.made) × InRank xs

set_cases : (m : List Bool) (k n : ℕ) → is_marked (set m k true) n ≡ true → (n ≡ k) ⊎ (is_marked m n ≡ true)
set_cases [] k n h = inr h
set_cases (b ∷ m) zero zero h = inl refl
set_cases (b ∷ m) zero (suc n) h = inr h
set_cases (b ∷ m) (suc k) zero h = inr h
set_cases (b ∷ m) (suc k) (suc n) h = ⊎_elim (λ e. inl (ap suc e)) (λ i. inr i) (set_cases m k n h)

set_kept : (m : List Bool) (k n : ℕ) → is_marked m n ≡ true → is_marked (set m k true) n ≡ true
set_kept [] k n h = h
set_kept (b ∷ m) zero zero h = refl
set_kept (b ∷ m) zero (suc n) h = h
set_kept (b ∷ m) (suc k) zero h = h
set_kept (b ∷ m) (suc k) (suc n) h = set_kept m k n h

all_cases : (m : List Bool) (ns : List ℕ) (n : ℕ) → is_marked (mark_each true m ns) n ≡ true → In n ns ⊎ (is_marked m n ≡ true)
unfolding mark_each
all_cases m [] n h = inr h
all_cases m (k ∷ ns) n h = ⊎_elim (λ i. inl (inr i)) (λ g. ⊎_elim (λ e. inl (inl e)) (λ i. inr i) (set_cases m k n g)) (all_cases (set m k true) ns n h)

all_kept : (m : List Bool) (ns : List ℕ) (n : ℕ) → is_marked m n ≡ true → is_marked (mark_each true m ns) n ≡ true
unfolding mark_each
all_kept m [] n h = h
all_kept m (k ∷ ns) n h = all_kept (set m k true) ns n (set_kept m k n h)

all_marked : (m : List Bool) (ns : List ℕ) (n : ℕ) → n < length m → In n ns → is_marked (mark_each true m ns) n ≡ true
unfolding mark_each
all_marked m [] n l i = absurd i
all_marked m (k ∷ ns) n l (inl e) = all_kept (set m k true) ns n (subst (λ j. is_marked (set m k true) j ≡ true) (sym e) (get_or-set_same m k true false (subst (λ j. j < length m) e l)))
all_marked m (k ∷ ns) n l (inr i) = all_marked (set m k true) ns n (subst (λ j. n < j) (sym (length-set m k true)) l) i

-- a branch of one of the keystone terms
abbrev pub InSome : List Numbered → ℕ → Type 0
InSome ys n = (y : Numbered) × In y ys × In n y.branches

keys_cases : (m : List Bool) (ys : List Numbered) (n : ℕ) → is_marked (mark_keys m ys) n ≡ true → InSome ys n ⊎ (is_marked m n ≡ true)
unfolding mark_keys
keys_cases m [] n h = inr h
keys_cases m (y ∷ ys) n h = ⊎_elim (λ i. inl (i.0, inr i.1, i.2)) (λ g. ⊎_elim (λ i. inl (y, inl refl, i)) (λ i. inr i) (all_cases m y.branches n g)) (keys_cases (mark_each true m y.branches) ys n h)

keys_kept : (m : List Bool) (ys : List Numbered) (n : ℕ) → is_marked m n ≡ true → is_marked (mark_keys m ys) n ≡ true
unfolding mark_keys
keys_kept m [] n h = h
keys_kept m (y ∷ ys) n h = keys_kept (mark_each true m y.branches) ys n (all_kept m y.branches n h)

keys_marked : (m : List Bool) (ys : List Numbered) (n : ℕ) → n < length m → (y : Numbered) → In y ys → In n y.branches → is_marked (mark_keys m ys) n ≡ true
unfolding mark_keys
keys_marked m [] n l y i j = absurd i
keys_marked m (z ∷ ys) n l y (inl e) j = keys_kept (mark_each true m z.branches) ys n (all_marked m z.branches n l (subst (λ (x : Numbered). In n x.branches) e j))
keys_marked m (z ∷ ys) n l y (inr i) j = keys_marked (mark_each true m z.branches) ys n (subst (λ k. n < k) (sym (length-mark_each true m z.branches)) l) y i j

module _ (m : ℕ → Type 0) where
  wider : (x : Numbered) (xs : List Numbered) (k : ℕ) → Reaches xs m k → Reaches (x ∷ xs) m k
  wider x xs k (at_first e) = at_first e
  wider x xs k (along y i r j) = along y (inr i) (wider x xs y.made r) j

  -- the first term is of use only as the last step
  last : (x : Numbered) (xs : List Numbered) → ((k : ℕ) → In k x.branches → k < x.made) → ((y : Numbered) → In y xs → x.made ≤ y.made) → (k : ℕ) → Reaches (x ∷ xs) m k → Reaches xs m k ⊎ (Reaches xs m x.made × In k x.branches)
  last x xs low up k (at_first e) = inl (at_first e)
  last x xs low up k (along y (inl e) r j) =
      let R : ℕ → Type 0 = λ n. Reaches xs m n in
      let there : Reaches xs m y.made = ⊎_elim (λ s. s) (λ s. subst R (sym (ap (λ (z : Numbered). z.made) e)) s.0) (last x xs low up y.made r) in
      inr (subst R (ap (λ (z : Numbered). z.made) e) there, subst (λ (z : Numbered). In k z.branches) e j)
  last x xs low up k (along y (inr i) r j) =
      ⊎_elim (λ s. inl (along y i s j)) (λ s. absurd (let a = low y.made s.1 in let b = up y i in omega arith)) (last x xs low up y.made r)

-- marks before the terms are gone over, as a list and as what they mean
module _ (marks : List Bool) (m : ℕ → Type 0) where
  to_reaches : ((n : ℕ) → is_marked marks n ≡ true → m n) → (xs : List Numbered) (k : ℕ) → is_marked (mark_terms marks xs) k ≡ true → Reaches xs m k
  unfolding mark_terms
  to_reaches first [] k h = at_first (first k h)
  to_reaches first (x ∷ xs) k h = by (is_marked (mark_terms marks xs) x.made) refl (λ n. to_reaches first xs n) h
    where
      by : (b : Bool) → is_marked (mark_terms marks xs) x.made ≡ b → ((n : ℕ) → is_marked (mark_terms marks xs) n ≡ true → Reaches xs m n) → is_marked (cond b (mark_each true (mark_terms marks xs) x.branches) (mark_terms marks xs)) k ≡ true → Reaches (x ∷ xs) m k
      by false e ih h = wider m x xs k (ih k h)
      by true e ih h = ⊎_elim (λ i. along x (inl refl) (wider m x xs x.made (ih x.made e)) i) (λ g. wider m x xs k (ih k g)) (all_cases (mark_terms marks xs) x.branches k h)

  from_reaches : ((n : ℕ) → n < length marks → m n → is_marked marks n ≡ true) → (xs : List Numbered) → InRank xs → ((x : Numbered) → In x xs → x.made < length marks) → (k : ℕ) → k < length marks → Reaches xs m k → is_marked (mark_terms marks xs) k ≡ true
  unfolding mark_terms
  from_reaches first [] r w k l (at_first e) = first k l e
  from_reaches first [] r w k l (along y i s j) = absurd i
  from_reaches first (x ∷ xs) r w k l s = by (is_marked (mark_terms marks xs) x.made) refl (last m x xs r.0 r.1 k s) (λ n a. from_reaches first xs r.2 (λ y i. w y (inr i)) n a)
    where
      by : (b : Bool) → is_marked (mark_terms marks xs) x.made ≡ b → Reaches xs m k ⊎ (Reaches xs m x.made × In k x.branches) → ((n : ℕ) → n < length marks → Reaches xs m n → is_marked (mark_terms marks xs) n ≡ true) → is_marked (cond b (mark_each true (mark_terms marks xs) x.branches) (mark_terms marks xs)) k ≡ true
      by false e (inl t) ih = ih k l t
      by false e (inr t) ih = absurd (true≢false (sym (ih x.made (w x (inl refl)) t.0) ∙ e))
      by true e (inl t) ih = all_kept (mark_terms marks xs) x.branches k (ih k l t)
      by true e (inr t) ih = all_marked (mark_terms marks xs) x.branches k (subst (λ j. k < j) (sym (length-mark_terms marks xs)) l) t.1

no_marks : (c n : ℕ) → is_marked (replicate c false) n ≡ true → ⊥
no_marks zero n h = true≢false (sym h)
no_marks (suc c) zero h = true≢false (sym h)
no_marks (suc c) (suc n) h = no_marks c n h

pub marked_is_reached : (count : ℕ) (xs ys : List Numbered) (n : ℕ) → is_marked (marks_of count xs ys) n ≡ true → Reaches xs (InSome ys) n
unfolding marks_of
marked_is_reached count xs ys n h =
    to_reaches (mark_keys (replicate count false) ys) (InSome ys) (λ k g. ⊎_elim (λ i. i) (λ i. absurd (no_marks count k i)) (keys_cases (replicate count false) ys k g)) xs n h

pub reached_is_marked : (count : ℕ) (xs ys : List Numbered) (n : ℕ) → InRank xs → ((x : Numbered) → In x xs → x.made < count) → n < count → Reaches xs (InSome ys) n → is_marked (marks_of count xs ys) n ≡ true
unfolding marks_of
reached_is_marked count xs ys n r w l h =
    let c : length (mark_keys (replicate count false) ys) ≡ count = length-mark_keys (replicate count false) ys ∙ length-replicate count false in
    from_reaches (mark_keys (replicate count false) ys) (InSome ys)
    (λ k g i. keys_marked (replicate count false) ys k (subst (λ j. k < j) (length-mark_keys (replicate count false) ys) g) i.0 i.1 i.2)
    xs r (λ x i. subst (λ j. x.made < j) (sym c) (w x i)) n (subst (λ j. n < j) (sym c) l) h
