-- A line within a side, and beyond it.
use Rattle.std.proofs.Common.{◌≡◌, ◌≢◌, ℕ, ◌<◌, Bool, true, false, cond, eqb, ◌⊎◌, inl, inr, refl, arith}
use Rattle.om_colour.specs.Lines.{Side, Ends, with_slot, Goes, outside, IsInner}
use Rattle.om_colour.specs.declared.Colour.{Colour}
use Rattle.om_colour.specs.Lines.Side.{leg, vertex}

pub inner_ends : (t : Side) (e : ℕ) → IsInner t → Ends t e → e < 13
inner_ends (leg k c) e i (q, p) = omega arith
inner_ends (vertex to h f) e i (p, q) = inner_ends (f (to h)) e (i (to h)) q

-- it ends within the side, or it leaves it and ends beyond
abbrev pub Parts : ℕ → Side → Side → ℕ → Type 0
Parts k t u e = (Goes k t outside e × (e ≢ 13)) ⊎ (Goes k t outside 13 × Ends u e)

abbrev Splits : Side → Type 0
Splits t = (u : Side) (k e : ℕ) → (Goes k t u e → Parts k t u e) × (Parts k t u e → Goes k t u e)

splits_leg : (j : ℕ) (c : Colour) → IsInner (leg j c) → Splits (leg j c)
splits_leg j c i u k e = ((λ (a, b, d). inr ((a, b, (refl, refl)), d)), back)
  where
    back : Parts k (leg j c) u e → Goes k (leg j c) u e
    back (inl ((a, b, (d, q)), m)) = absurd (m d)
    back (inr ((a, b, d), g)) = (a, b, g)

module _ (to : ℕ → ℕ) (h : ℕ) (f : ℕ → Side) (i : (s : ℕ) → IsInner (f s)) (ih : (s : ℕ) → Splits (f s)) where
  -- out of slot s, whatever lies above
  inside : (s k e : ℕ) (u : Side) → Goes k (f s) outside e → e ≢ 13 → Goes k (f s) (vertex to s (with_slot f h u)) e
  inside s k e u g m = (ih s (vertex to s (with_slot f h u)) k e).1 (inl (g, m))

  across : (s k e : ℕ) (u : Side) → Goes k (f s) outside 13 → 0 < to s → Ends (with_slot f h u (to s)) e → Goes k (f s) (vertex to s (with_slot f h u)) e
  across s k e u g p q = (ih s (vertex to s (with_slot f h u)) k e).1 (inr (g, (p, q)))

  forth : (u : Side) (k e : ℕ) → Goes k (vertex to h f) u e → Parts k (vertex to h f) u e
  forth u k e (s, is, n, g) = by ((ih s (vertex to s (with_slot f h u)) k e).0 g)
    where
      on : (b : Bool) → eqb (to s) h ≡ b → 0 < to s → Goes k (f s) outside 13 → Ends (cond b u (f (to s))) e → Parts k (vertex to h f) u e
      on true t p g q = inr ((s, is, n, across s k 13 outside g p (rw t (refl, refl))), q)
      on false t p g q = inl ((s, is, n, across s k e outside g p (rw t q)), let l = inner_ends (f (to s)) e (i (to s)) q in omega arith)

      by : Parts k (f s) (vertex to s (with_slot f h u)) e → Parts k (vertex to h f) u e
      by (inl (g, m)) = inl ((s, is, n, inside s k e outside g m), m)
      by (inr (g, (p, q))) = on (eqb (to s) h) refl p g q

  back : (u : Side) (k e : ℕ) → Parts k (vertex to h f) u e → Goes k (vertex to h f) u e
  back u k e (inl ((s, is, n, g), m)) = (s, is, n, by ((ih s (vertex to s (with_slot f h outside)) k e).0 g))
    where
      on : (b : Bool) → eqb (to s) h ≡ b → 0 < to s → Goes k (f s) outside 13 → Ends (cond b outside (f (to s))) e → Goes k (f s) (vertex to s (with_slot f h u)) e
      on true t p g q = absurd (m q.0)
      on false t p g q = across s k e u g p (rw t q)

      by : Parts k (f s) (vertex to s (with_slot f h outside)) e → Goes k (f s) (vertex to s (with_slot f h u)) e
      by (inl (g, m)) = inside s k e u g m
      by (inr (g, (p, q))) = on (eqb (to s) h) refl p g q
  back u k e (inr ((s, is, n, g), q)) = (s, is, n, by ((ih s (vertex to s (with_slot f h outside)) k 13).0 g))
    where
      on : (b : Bool) → eqb (to s) h ≡ b → 0 < to s → Goes k (f s) outside 13 → Ends (cond b outside (f (to s))) 13 → Goes k (f s) (vertex to s (with_slot f h u)) e
      on true t p g r = across s k e u g p (rw t q)
      on false t p g r = let l = inner_ends (f (to s)) 13 (i (to s)) r in absurd (omega arith)

      by : Parts k (f s) (vertex to s (with_slot f h outside)) 13 → Goes k (f s) (vertex to s (with_slot f h u)) e
      by (inl (g, m)) = absurd (m refl)
      by (inr (g, (p, r))) = on (eqb (to s) h) refl p g r

pub splits : (t : Side) → IsInner t → Splits t
splits (leg j c) i = splits_leg j c i
splits (vertex to h f) i = λ u k e. (forth to h f i (λ s. splits (f s) (i s)) u k e, back to h f i (λ s. splits (f s) (i s)) u k e)
