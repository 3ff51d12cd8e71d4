-- Members that are written one after the other, each with its number.
use Rattle.std.proofs.Common.{◌≡◌, ℕ, ◌+◌, ◌<◌, ◌≤◌, List, [], ◌∷◌, length, get_or, take, flat_map, sym, ap, subst, ◌∙◌, arith}
use Rattle.std.specs.List.{enumerate_from, AllByRecursion}
use Rattle.std.proofs.lemmas.List.{take_all}
use Rattle.std.proofs.lemmas.List.FromFn.{length-enumerate_from, get_or-enumerate_from}
use Rattle.om_io.specs.Writing.{Outlet, Takes, Breaks}
use Rattle.om_io.proofs.Outlets.{row_more, row_breaks}

module _ {A : Type 0} (text : ℕ × A → List ℕ) (xs : List A) where
  within : (i : ℕ) → i < length xs → i < length (enumerate_from 0 xs)
  within i lt = omega (arith, length-enumerate_from 0 xs)

  with_number : (i : ℕ) (x d : A) → i < length xs → x ≡ get_or xs i d → (i, x) ≡ get_or (enumerate_from 0 xs) i (0, d)
  with_number i x d lt at = let e : i ≡ 0 + i = omega arith in ap (λ y. (i, y)) at ∙ ap (λ k. (k, get_or xs i d)) e ∙ sym (get_or-enumerate_from 0 xs i (0, d) lt)

  pub numbered_more : (a b c : Outlet) (i : ℕ) (x d : A) → i < length xs → x ≡ get_or xs i d → Takes a b (flat_map text (take i (enumerate_from 0 xs))) → Takes b c (text (i, x))
      → Takes a c (flat_map text (take (i + 1) (enumerate_from 0 xs)))
  numbered_more a b c i x d lt at p q = row_more text (enumerate_from 0 xs) a b c i (0, d) (i, x) (within i lt) (with_number i x d lt at) p q

  pub numbered_breaks : (a b c : Outlet) (i : ℕ) (x d : A) → i < length xs → x ≡ get_or xs i d → Takes a b (flat_map text (take i (enumerate_from 0 xs))) → Breaks b c (text (i, x))
      → Breaks a c (flat_map text (enumerate_from 0 xs))
  numbered_breaks a b c i x d lt at p q = row_breaks text (enumerate_from 0 xs) a b c i (0, d) (i, x) (within i lt) (with_number i x d lt at) p q

  pub numbered_all : (a b : Outlet) (i : ℕ) → length xs ≤ i → Takes a b (flat_map text (take i (enumerate_from 0 xs))) → Takes a b (flat_map text (enumerate_from 0 xs))
  numbered_all a b i h p = rw (← take_all i (enumerate_from 0 xs) (omega (arith, length-enumerate_from 0 xs))) p

pub all_have_texts : {A : Type 0} (xs : List A) → AllByRecursion (λ _. Unit {0}) xs
all_have_texts [] = tt
all_have_texts (x ∷ xs) = (tt, all_have_texts xs)

-- the same text under another name
pub takes_same : (a b : Outlet) {x y : List ℕ} → x ≡ y → Takes a b x → Takes a b y
takes_same a b e p = subst (Takes a b) e p

pub breaks_same : (a b : Outlet) {x y : List ℕ} → x ≡ y → Breaks a b x → Breaks a b y
breaks_same a b e p = subst (Breaks a b) e p
