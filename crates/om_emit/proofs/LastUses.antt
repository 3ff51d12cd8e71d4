-- The last instruction that names a register.
use Rattle.std.proofs.Common.{◌≡◌, ℕ, zero, suc, ◌+◌, ◌<◌, ◌≤◌, List, [], ◌∷◌, ◌++◌, ◌⊎◌, inl, inr, ⊎_elim, length, set, get_or, refl, sym, ◌∙◌, ap, subst, arith, add-one}
use Rattle.std.specs.List.{concat}
use Rattle.std.proofs.lemmas.Bool.{cases_eq, cases_lt}
use Rattle.std.proofs.lemmas.List.{get_or-set_same, get_or-set_other, length-set, length-replicate, take_all}
use Rattle.om_ring.specs.Members.{In}
use Rattle.om_emit.specs.Planning.{last_uses}
use Rattle.om_legs.proofs.Marks.{length-mark_each}
use Rattle.om_legs.specs.BranchNodes.{mark_each}
use Rattle.om_ring.proofs.Members.{in_either}
use Rattle.om_code.proofs.SpanFacts.{Before, After, before_line, line_after, after_shrinks}

-- a register that isn't marked keeps its mark
mark_each-other : (i : ℕ) (last rs : List ℕ) (q : ℕ) → (In q rs → ⊥) → get_or (mark_each i last rs) q 0 ≡ get_or last q 0
unfolding mark_each
mark_each-other i last [] q n = refl
mark_each-other i last (r ∷ rs) q n = mark_each-other i (set last r i) rs q (λ j. n (inr j)) ∙ get_or-set_other last r q i 0 (λ e. n (inl e))

-- one that has the mark keeps it
mark_each-kept : (i : ℕ) (last rs : List ℕ) (q : ℕ) → q < length last → get_or last q 0 ≡ i → get_or (mark_each i last rs) q 0 ≡ i
unfolding mark_each
mark_each-kept i last [] q l e = e
mark_each-kept i last (r ∷ rs) q l e = mark_each-kept i (set last r i) rs q (let s : length (set last r i) ≡ length last = length-set last r i in omega arith)
    (⊎_elim (λ s. ap (λ x. get_or (set last r i) x 0) s ∙ get_or-set_same last r i 0 (omega arith)) (λ n. get_or-set_other last r q i 0 n ∙ e) (cases_eq q r))

mark_each-here : (i : ℕ) (last rs : List ℕ) (q : ℕ) → q < length last → In q rs → get_or (mark_each i last rs) q 0 ≡ i
unfolding mark_each
mark_each-here i last [] q l h = absurd h
mark_each-here i last (r ∷ rs) q l (inl e) = mark_each-kept i (set last r i) rs q (let s : length (set last r i) ≡ length last = length-set last r i in omega arith) (ap (λ x. get_or (set last r i) x 0) e ∙ get_or-set_same last r i 0 (omega arith))
mark_each-here i last (r ∷ rs) q l (inr h) = mark_each-here i (set last r i) rs q (let s : length (set last r i) ≡ length last = length-set last r i in omega arith) h

pub length-last_uses : (count : ℕ) (lines : List (List ℕ)) (n : ℕ) → length (last_uses count lines n) ≡ count
unfolding last_uses
length-last_uses count lines zero = length-replicate count 0
length-last_uses count lines (suc n) = length-mark_each n (last_uses count lines n) (get_or lines n []) ∙ length-last_uses count lines n

-- the last of the first m lines that names a register
record IsLast (lines : List (List ℕ)) (m r k : ℕ) : Type 0 where
  earlier : k < m
  named : In r (get_or lines k [])
  none_later : (j : ℕ) → k < j → j < m → In r (get_or lines j []) → ⊥

decided_line : (xs : List ℕ) (q : ℕ) → In q xs ⊎ (In q xs → ⊥)
decided_line [] q = inr (λ i. i)
decided_line (x ∷ xs) q = ⊎_elim (λ e. inl (inl e)) (λ n. ⊎_elim (λ i. inl (inr i)) (λ m. inr (λ i. ⊎_elim n m i)) (decided_line xs q)) (cases_eq q x)

last_uses-last : (count : ℕ) (lines : List (List ℕ)) (m r : ℕ) → m ≤ length lines → r < count → Before lines m r → IsLast lines m r (get_or (last_uses count lines m) r 0)
unfolding last_uses
last_uses-last count lines zero r l s h = absurd h
last_uses-last count lines (suc m) r l s h = ⊎_elim
    (λ (here : In r (get_or lines m [])).
    let e : get_or (mark_each m (last_uses count lines m) (get_or lines m [])) r 0 ≡ m = mark_each-here m (last_uses count lines m) (get_or lines m []) r (let z = length-last_uses count lines m in omega arith) here in
    let P : ℕ → Type 0 = λ k. IsLast lines (suc m) r k in
    subst P (sym e) (record { earlier = omega arith; named = here; none_later = λ j a b. absurd (omega arith) }))
    (λ n.
    let before : Before lines m r = ⊎_elim (λ b. b) (λ i. absurd (n i)) (before_line lines m r (omega arith) (let Q : ℕ → Type 0 = λ k. Before lines k r in subst Q (sym (add-one m)) h)) in
    let w = last_uses-last count lines m r (omega arith) s before in
    let e : get_or (mark_each m (last_uses count lines m) (get_or lines m [])) r 0 ≡ get_or (last_uses count lines m) r 0 = mark_each-other m (last_uses count lines m) (get_or lines m []) r n in
    let P : ℕ → Type 0 = λ k. IsLast lines (suc m) r k in
    let a = w.earlier in
    subst P (sym e) (record {
      earlier = omega arith;
      named = w.named;
      none_later = λ j b c i. ⊎_elim (λ (lt : j < m). w.none_later j b lt i) (λ (le : m ≤ j). let same : j ≡ m = omega arith in let Q : ℕ → Type 0 = λ k. In r (get_or lines k []) in n (subst Q same i)) (cases_lt j m);
    }))
    (decided_line (get_or lines m []) r)

-- where a later line names a register
record IsLater (lines : List (List ℕ)) (i r : ℕ) : Type 0 where
  place : ℕ
  late : i ≤ place
  within : place < length lines
  named : In r (get_or lines place [])

in_lines : (lines : List (List ℕ)) (r : ℕ) → In r (concat lines) → IsLater lines 0 r
in_lines [] r h = absurd h
in_lines (x ∷ xs) r h = ⊎_elim
    (λ i. record { place = 0; late = omega arith; within = omega arith; named = i })
    (λ i. let w = in_lines xs r i in let a = w.within in record { place = suc w.place; late = omega arith; within = omega arith; named = w.named })
    (in_either r x (concat xs) h)

after_place : (lines : List (List ℕ)) (i r : ℕ) → After lines i r → IsLater lines i r
after_place lines zero r h = in_lines lines r h
after_place [] (suc i) r h = absurd h
after_place (x ∷ xs) (suc i) r h = let w = after_place xs i r h in let a = w.within in let b = w.late in record { place = suc w.place; late = omega arith; within = omega arith; named = w.named }

-- the mark says whether a later line names the register
module _ (count : ℕ) (lines : List (List ℕ)) (i r : ℕ) (l : i < length lines) (s : r < count) (here : In r (get_or lines i [])) where
  the_last : IsLast lines (length lines) r (get_or (last_uses count lines (length lines)) r 0)
  the_last = last_uses-last count lines (length lines) r (omega arith) s
      (let P : List (List ℕ) → Type 0 = λ xs. In r (concat xs) in subst P (sym (take_all (length lines) lines (omega arith))) (named_somewhere lines i l here))
    where
      named_somewhere : (ls : List (List ℕ)) (k : ℕ) → k < length ls → In r (get_or ls k []) → In r (concat ls)
      named_somewhere [] k m h = absurd h
      named_somewhere (x ∷ xs) zero m h = in_front x (concat xs) h
        where
          in_front : (ys zs : List ℕ) → In r ys → In r (ys ++ zs)
          in_front [] zs h = absurd h
          in_front (y ∷ ys) zs (inl e) = inl e
          in_front (y ∷ ys) zs (inr j) = inr (in_front ys zs j)
      named_somewhere (x ∷ xs) (suc k) m h = behind x (concat xs) (named_somewhere xs k (omega arith) h)
        where
          behind : (ys zs : List ℕ) → In r zs → In r (ys ++ zs)
          behind [] zs h = h
          behind (y ∷ ys) zs h = inr (behind ys zs h)

  pub last_here : get_or (last_uses count lines (length lines)) r 0 ≡ i → After lines (i + 1) r → ⊥
  last_here e h =
      let w = after_place lines (i + 1) r h in
      let a = w.late in
      the_last.none_later w.place (omega arith) w.within w.named

  pub last_later : (get_or (last_uses count lines (length lines)) r 0 ≡ i → ⊥) → After lines (i + 1) r
  last_later n =
      let k = get_or (last_uses count lines (length lines)) r 0 in
      ⊎_elim
      (λ (lt : k < i). absurd (the_last.none_later i lt l here))
      (λ (le : i ≤ k). let m : i + 1 ≤ k = omega (arith, n) in after_shrinks lines (i + 1) k r m (line_after lines k r the_last.earlier (inl the_last.named)))
      (cases_lt k i)
