-- The sum over the indices of four slots, in another order of the slots and with one slot taken out.
use Rattle.std.proofs.Common.{◌≡◌, ℕ, [], ◌∷◌, refl, sym, ◌∙◌, ap}
use Rattle.om_ring.specs.Ops.{Ops, Laws}
use Rattle.om_ring.specs.Sums.{sum_over}
use Rattle.om_ring.proofs.RingLemmas.{times_left_comm}
use Rattle.om_ring.proofs.SumLemmas.{sum_over-ext, sums_exchange, times-sum_over}
use Rattle.om_lorentz.specs.Structures.{index}
use Rattle.om_kernel.specs.IndexSums.{Summand, fixed, sum_slots}

module _ {E : Type 0} (o : Ops E) where
  -- equal summands give equal sums
  pub sum_slots-ext : (p q r s : Summand E) (F G : ℕ → ℕ → ℕ → ℕ → E) → ((i j k m : ℕ) → F i j k m ≡ G i j k m) → sum_slots o F p q r s ≡ sum_slots o G p q r s
  sum_slots-ext p q r s F G e =
      sum_over-ext o p.indices _ _ (λ i. sum_over-ext o q.indices _ _ (λ j. sum_over-ext o r.indices _ _ (λ k. sum_over-ext o s.indices _ _ (λ m.
      ap (λ y. o.times y (o.times (p.weight i) (o.times (q.weight j) (o.times (r.weight k) (s.weight m))))) (e i j k m)))))

  -- the same where the slots bring equal things
  pub sum_slots-same : (F : ℕ → ℕ → ℕ → ℕ → E) (p q r s p' q' r' s' : Summand E) → p ≡ p' → q ≡ q' → r ≡ r' → s ≡ s' → sum_slots o F p q r s ≡ sum_slots o F p' q' r' s'
  sum_slots-same F p q r s p' q' r' s' a b c d =
      ap (λ u. sum_slots o F u q r s) a ∙ ap (λ u. sum_slots o F p' u r s) b ∙ ap (λ u. sum_slots o F p' q' u s) c ∙ ap (λ u. sum_slots o F p' q' r' u) d

  -- the sum in the written order of the slots is the sum in the order a, b, c, d
  abbrev pub Ordered : ℕ → ℕ → ℕ → ℕ → Type 0
  Ordered a b c d = (at : ℕ → Summand E) (G : ℕ → ℕ → ℕ → ℕ → E) →
      sum_slots o (λ i j k m. let is = i ∷ j ∷ k ∷ m ∷ [] in G (index is a) (index is b) (index is c) (index is d)) (at 1) (at 2) (at 3) (at 4)
      ≡ sum_slots o G (at a) (at b) (at c) (at d)

module _ {E : Type 0} (o : Ops E) (l : Laws o) where
  pub swap12 : (p q r s : Summand E) (F : ℕ → ℕ → ℕ → ℕ → E) → sum_slots o F p q r s ≡ sum_slots o (λ i j k m. F j i k m) q p r s
  swap12 p q r s F =
      sums_exchange o l p.indices q.indices (λ i j. sum_over o r.indices (λ k. sum_over o s.indices (λ m.
      o.times (F i j k m) (o.times (p.weight i) (o.times (q.weight j) (o.times (r.weight k) (s.weight m))))))) ∙
      sum_over-ext o q.indices _ _ (λ j. sum_over-ext o p.indices _ _ (λ i. sum_over-ext o r.indices _ _ (λ k. sum_over-ext o s.indices _ _ (λ m.
      ap (o.times (F i j k m)) (times_left_comm o l (p.weight i) (q.weight j) (o.times (r.weight k) (s.weight m)))))))

  pub swap23 : (p q r s : Summand E) (F : ℕ → ℕ → ℕ → ℕ → E) → sum_slots o F p q r s ≡ sum_slots o (λ i j k m. F i k j m) p r q s
  swap23 p q r s F =
      sum_over-ext o p.indices _ _ (λ i.
      sums_exchange o l q.indices r.indices (λ j k. sum_over o s.indices (λ m.
      o.times (F i j k m) (o.times (p.weight i) (o.times (q.weight j) (o.times (r.weight k) (s.weight m)))))) ∙
      sum_over-ext o r.indices _ _ (λ k. sum_over-ext o q.indices _ _ (λ j. sum_over-ext o s.indices _ _ (λ m.
      ap (λ y. o.times (F i j k m) (o.times (p.weight i) y)) (times_left_comm o l (q.weight j) (r.weight k) (s.weight m))))))

  pub swap34 : (p q r s : Summand E) (F : ℕ → ℕ → ℕ → ℕ → E) → sum_slots o F p q r s ≡ sum_slots o (λ i j k m. F i j m k) p q s r
  swap34 p q r s F =
      sum_over-ext o p.indices _ _ (λ i. sum_over-ext o q.indices _ _ (λ j.
      sums_exchange o l r.indices s.indices (λ k m.
      o.times (F i j k m) (o.times (p.weight i) (o.times (q.weight j) (o.times (r.weight k) (s.weight m))))) ∙
      sum_over-ext o s.indices _ _ (λ m. sum_over-ext o r.indices _ _ (λ k.
      ap (λ y. o.times (F i j k m) (o.times (p.weight i) (o.times (q.weight j) y))) (l.times_comm (r.weight k) (s.weight m))))))

  -- two slots that stand side by side change places
  pub exchange12 : (a b c d : ℕ) → Ordered o a b c d → Ordered o b a c d
  exchange12 a b c d h at G = h at (λ i j k m. G j i k m) ∙ swap12 (at a) (at b) (at c) (at d) (λ i j k m. G j i k m)

  pub exchange23 : (a b c d : ℕ) → Ordered o a b c d → Ordered o a c b d
  exchange23 a b c d h at G = h at (λ i j k m. G i k j m) ∙ swap23 (at a) (at b) (at c) (at d) (λ i j k m. G i k j m)

  pub exchange34 : (a b c d : ℕ) → Ordered o a b c d → Ordered o a b d c
  exchange34 a b c d h at G = h at (λ i j k m. G i j m k) ∙ swap34 (at a) (at b) (at c) (at d) (λ i j k m. G i j m k)

  -- the first slot goes to the third or the fourth place
  pub rotated3 : (p q r s : Summand E) (F G : ℕ → ℕ → ℕ → ℕ → E) → ((i j k m : ℕ) → F k i j m ≡ G i j k m) → sum_slots o F p q r s ≡ sum_slots o G q r p s
  rotated3 p q r s F G e = swap12 p q r s F ∙ swap23 q p r s (λ i j k m. F j i k m) ∙ sum_slots-ext o q r p s _ G e

  pub rotated4 : (p q r s : Summand E) (F G : ℕ → ℕ → ℕ → ℕ → E) → ((i j k m : ℕ) → F m i j k ≡ G i j k m) → sum_slots o F p q r s ≡ sum_slots o G q r s p
  rotated4 p q r s F G e = rotated3 p q r s F (λ i j k m. F k i j m) (λ i j k m. refl) ∙ swap34 q r p s (λ i j k m. F k i j m) ∙ sum_slots-ext o q r s p _ G e

  -- the sum over the index of the first slot goes to the front
  pub opened1 : (p q r s : Summand E) (F : ℕ → ℕ → ℕ → ℕ → E) → sum_slots o F p q r s ≡ sum_over o p.indices (λ n. o.times (p.weight n) (sum_slots o F (fixed o n) q r s))
  opened1 p q r s F = sum_over-ext o p.indices _ _ (λ n. sym (
      let part : E → ℕ → ℕ → ℕ → E = λ x j k m. o.times (F n j k m) (o.times x (o.times (q.weight j) (o.times (r.weight k) (s.weight m)))) in
      let at_one : (j k m : ℕ) → o.times (p.weight n) (part o.one j k m) ≡ part (p.weight n) j k m = λ j k m.
      times_left_comm o l (p.weight n) (F n j k m) _ ∙ ap (o.times (F n j k m)) (ap (o.times (p.weight n)) (l.times_comm o.one _ ∙ l.times_one _)) in
      ap (o.times (p.weight n)) (l.plus_zero _) ∙
      times-sum_over o l (p.weight n) q.indices _ ∙ sum_over-ext o q.indices _ _ (λ j.
      times-sum_over o l (p.weight n) r.indices _ ∙ sum_over-ext o r.indices _ _ (λ k.
      times-sum_over o l (p.weight n) s.indices _ ∙ sum_over-ext o s.indices _ _ (λ m. at_one j k m)))))

  -- that of the third slot, and of the fourth
  pub opened3 : (p q r s : Summand E) (F : ℕ → ℕ → ℕ → ℕ → E) → sum_slots o F p q r s ≡ sum_over o r.indices (λ n. o.times (r.weight n) (sum_slots o F p q (fixed o n) s))
  opened3 p q r s F =
      let G : ℕ → ℕ → ℕ → ℕ → E = λ i j k m. F j k i m in
      let back : (u : Summand E) → sum_slots o G u p q s ≡ sum_slots o F p q u s = λ u. rotated3 u p q s G F (λ i j k m. refl) in
      sym (back r) ∙ opened1 r p q s G ∙ sum_over-ext o r.indices _ _ (λ n. ap (o.times (r.weight n)) (back (fixed o n)))

  pub opened4 : (p q r s : Summand E) (F : ℕ → ℕ → ℕ → ℕ → E) → sum_slots o F p q r s ≡ sum_over o s.indices (λ n. o.times (s.weight n) (sum_slots o F p q r (fixed o n)))
  opened4 p q r s F =
      let G : ℕ → ℕ → ℕ → ℕ → E = λ i j k m. F j k m i in
      let back : (u : Summand E) → sum_slots o G u p q r ≡ sum_slots o F p q r u = λ u. rotated4 u p q r G F (λ i j k m. refl) in
      sym (back s) ∙ opened1 s p q r G ∙ sum_over-ext o s.indices _ _ (λ n. ap (o.times (s.weight n)) (back (fixed o n)))
