-- Sums over the indices of several things, one inside the other, and their order.
use Rattle.std.proofs.Common.{◌≡◌, ℕ, suc, List, [], ◌∷◌, length, map, Bool, true, false, inl, inr, refl, ap, sym, ◌∙◌, arith}
use Rattle.std.specs.Prelude.{◌==◌}
use Rattle.std.proofs.lemmas.Bool.Decides.{nat_tests}
use mathlib.Core.Path.{fun_ext}
use Rattle.om_ring.specs.Members.{In, Different}
use Rattle.om_ring.specs.Ops.{Ops, Laws}
use Rattle.om_ring.specs.Sums.{sum_over}
use Rattle.om_ring.proofs.RingLemmas.{times_left_comm}
use Rattle.om_ring.proofs.SumLemmas.{sum_over-ext, times-sum_over, sums_exchange}
use Rattle.om_model.specs.Reordered.{Reordered}
use Rattle.om_model.specs.Reordered.Reordered.{same, keep, turn, chain}
use Rattle.om_model.proofs.Reordering.{reordered-map, different-reordered}
use Rattle.om_code.specs.Registers.{put}
use Rattle.om_code.proofs.PlacedRuns.{put_here, put_elsewhere}

put-swap : (f : ℕ → ℕ) (a b i j : ℕ) → (a ≡ b → ⊥) → put (put f a i) b j ≡ put (put f b j) a i
put-swap f a b i j n = fun_ext (λ k. by k (k == a) (k == b) refl refl)
  where
    apart : (k : ℕ) → (k == a) ≡ true → (k == b) ≡ true → a ≡ b
    apart k p q = grind (arith, nat_tests)

    by : (k : ℕ) (p q : Bool) → (k == a) ≡ p → (k == b) ≡ q → put (put f a i) b j k ≡ put (put f b j) a i k
    by k true true e g = absurd (n (apart k e g))
    by k true false e g = rw (e, g) refl
    by k false true e g = rw (e, g) refl
    by k false false e g = rw (e, g) refl

module _ {E : Type 0} (o : Ops E) (l : Laws o) {X : Type 0} (key : X → ℕ) (indices : X → List ℕ) (weight : X → ℕ → E) where
  -- the sum over the indices of each, of what the list of indices gives times the weights
  abbrev pub nest : List X → (List ℕ → E) → E
  nest [] f = f []
  nest (x ∷ xs) f = sum_over o (indices x) (λ i. o.times (weight x i) (nest xs (λ is. f (i ∷ is))))

  -- the same where each index is kept by the key
  abbrev assigned : List X → (ℕ → ℕ) → ((ℕ → ℕ) → E) → E
  assigned [] g f = f g
  assigned (x ∷ xs) g f = sum_over o (indices x) (λ i. o.times (weight x i) (assigned xs (put g (key x) i) f))

  -- what was kept before stays
  assigned-kept : (xs : List X) (g : ℕ → ℕ) (f f' : (ℕ → ℕ) → E) (k i : ℕ) → (In k (map key xs) → ⊥) → g k ≡ i → ((h : ℕ → ℕ) → h k ≡ i → f h ≡ f' h) → assigned xs g f ≡ assigned xs g f'
  assigned-kept [] g f f' k i n e h = h g e
  assigned-kept (x ∷ xs) g f f' k i n e h =
      sum_over-ext o (indices x) _ _ (λ j. ap (o.times (weight x j))
      (assigned-kept xs (put g (key x) j) f f' k i (λ m. n (inr m)) (put_elsewhere g (key x) j k (λ q. n (inl q)) ∙ e) h))

  nest-assigned : (xs : List X) (g : ℕ → ℕ) (f : List ℕ → E) → Different (map key xs) → nest xs f ≡ assigned xs g (λ h. f (map (λ x. h (key x)) xs))
  nest-assigned [] g f d = refl
  nest-assigned (x ∷ xs) g f d =
      sum_over-ext o (indices x) _ _ (λ i. ap (o.times (weight x i))
      (nest-assigned xs (put g (key x) i) (λ is. f (i ∷ is)) d.1
      ∙ assigned-kept xs (put g (key x) i) (λ h. f (i ∷ map (λ y. h (key y)) xs)) (λ h. f (h (key x) ∷ map (λ y. h (key y)) xs)) (key x) i d.0 (put_here g (key x) i (key x) refl)
      (λ h e. ap (λ j. f (j ∷ map (λ y. h (key y)) xs)) (sym e))))

  assigned-reordered : {xs ys : List X} → Reordered xs ys → (g : ℕ → ℕ) (f : (ℕ → ℕ) → E) → Different (map key xs) → assigned xs g f ≡ assigned ys g f
  assigned-reordered same g f d = refl
  assigned-reordered (keep {x = x} m) g f d = sum_over-ext o (indices x) _ _ (λ i. ap (o.times (weight x i)) (assigned-reordered m (put g (key x) i) f d.1))
  assigned-reordered (chain {xs = xs} {ys = ys} m n) g f d =
      assigned-reordered m g f d ∙ assigned-reordered n g f (different-reordered (map key xs) (map key ys) (reordered-map key m) d)
  assigned-reordered (turn {x = x} {y = y} {xs = xs}) g f d =
      sum_over-ext o (indices x) _ _ (λ i. times-sum_over o l (weight x i) (indices y) _)
      ∙ sums_exchange o l (indices x) (indices y) _
      ∙ sum_over-ext o (indices y) _ _ (λ j.
      sum_over-ext o (indices x) _ _ (λ i. times_left_comm o l _ _ _ ∙ ap (λ h. o.times (weight y j) (o.times (weight x i) (assigned xs h f))) (put-swap g (key x) (key y) i j (λ q. d.0 (inl q))))
      ∙ sym (times-sum_over o l (weight y j) (indices x) _))

  -- the order doesn't matter
  pub nest-reordered : {xs ys : List X} → Reordered xs ys → Different (map key xs) → (f f' : List ℕ → E) → ((h : ℕ → ℕ) → f (map (λ x. h (key x)) xs) ≡ f' (map (λ x. h (key x)) ys)) → nest xs f ≡ nest ys f'
  nest-reordered {xs} {ys} m d f f' e =
      nest-assigned xs (λ k. k) f d
      ∙ ap (assigned xs (λ k. k)) (fun_ext e)
      ∙ assigned-reordered m (λ k. k) (λ h. f' (map (λ x. h (key x)) ys)) d
      ∙ sym (nest-assigned ys (λ k. k) f' (different-reordered (map key xs) (map key ys) (reordered-map key m) d))

  -- what is summed is asked for lists of so many indices alone
  pub nest-ext : (xs : List X) (f f' : List ℕ → E) → ((is : List ℕ) → length is ≡ length xs → f is ≡ f' is) → nest xs f ≡ nest xs f'
  nest-ext [] f f' e = e [] refl
  nest-ext (x ∷ xs) f f' e = sum_over-ext o (indices x) _ _ (λ i. ap (o.times (weight x i)) (nest-ext xs (λ is. f (i ∷ is)) (λ is. f' (i ∷ is)) (λ is h. e (i ∷ is) (ap suc h))))

  -- a factor goes inside
  pub times-nest : (a : E) (xs : List X) (f : List ℕ → E) → o.times a (nest xs f) ≡ nest xs (λ is. o.times a (f is))
  times-nest a [] f = refl
  times-nest a (x ∷ xs) f =
      times-sum_over o l a (indices x) _
      ∙ sum_over-ext o (indices x) _ _ (λ i. times_left_comm o l _ _ _ ∙ ap (o.times (weight x i)) (times-nest a xs (λ is. f (i ∷ is))))
