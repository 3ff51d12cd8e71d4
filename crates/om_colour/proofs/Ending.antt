-- Each line ends_line, at one leg.
use Rattle.std.proofs.Common.{◌≡◌, ◌≢◌, ℕ, ◌<◌, ◌⊎◌, inl, inr, refl, ap, sym, subst, ◌∙◌, ◌↔◌}
use Rattle.om_colour.specs.Lines.{Side, Ends, with_slot, IsSlot, Goes}
use Rattle.om_colour.specs.Lines.Side.{leg, vertex}
use Rattle.om_colour.specs.Ending.{TakesLine, GivesLine, IsMatched, StartsIn}
use Rattle.om_colour.specs.Laws.{EachLineEnds, LinesEndOnce, LinesEndOnceAt}
use Rattle.om_colour.proofs.Following.{either, with_slot_same, with_slot_other}

ends_in : (t : Side) → IsMatched t → TakesLine t → (e : ℕ) × Ends t e
ends_in (leg k c) m p = (k, (refl, p))
ends_in (vertex to h f) m p =
    let l = m.1 h m.0 in
    let w = m.2 (to h) (p, l.0) l.1 in
    let r = ends_in (f (to h)) w.0 (w.2.1 (h, m.0, refl)) in
    (r.0, (p, r.1))

ends_from : (t u : Side) → IsMatched t → (GivesLine t → (e : ℕ) × Ends u e) → (k : ℕ) → StartsIn k t → (e : ℕ) × Goes k t u e
ends_from (leg j c) u m g k (p, q) = let r = g q in (r.0, (p, q, r.1))
ends_from (vertex to h f) u m g k (s, i, n, q) = let r = ends_from (f s) (vertex to s (with_slot f h u)) w.0 onwards k q in (r.0, (s, i, n, r.1))
  where
    w : IsMatched (f s) × (GivesLine (f s) ↔ 0 < to s) × (TakesLine (f s) ↔ ((r : ℕ) × IsSlot r × (to r ≡ s)))
    w = m.2 s i n

    onwards : GivesLine (f s) → (e : ℕ) × Ends (vertex to s (with_slot f h u)) e
    onwards x = by (either (to s) h)
      where
        p : 0 < to s
        p = w.1.0 x

        by : (to s ≡ h) ⊎ (to s ≢ h) → (e : ℕ) × Ends (vertex to s (with_slot f h u)) e
        by (inl z) = let r = g (s, i, z) in (r.0, (p, subst (λ t. Ends t r.0) (ap (with_slot f h u) (sym z)) (subst (λ t. Ends t r.0) (sym (with_slot_same f h u)) r.1)))
        by (inr z) =
            let v = m.2 (to s) (p, (m.1 s i).0) z in
            let r = ends_in (f (to s)) v.0 (v.2.1 (s, i, refl)) in
            (r.0, (p, subst (λ t. Ends t r.0) (sym (with_slot_other f h (to s) u z)) r.1))

pub each_ends : EachLineEnds
each_ends t u m n g k s = ends_from t u m (λ x. ends_in u n (g x)) k s

one_of : (t : Side) (e d : ℕ) → Ends t e → Ends t d → e ≡ d
one_of (leg k c) e d p q = p.0 ∙ sym q.0
one_of (vertex to h f) e d p q = one_of (f (to h)) e d p.1 q.1

pub begins : (t u : Side) (k e : ℕ) → Goes k t u e → StartsIn k t
begins (leg j c) u k e (p, q, r) = (p, q)
begins (vertex to h f) u k e (s, i, n, g) = (s, i, n, begins (f s) (vertex to s (with_slot f h u)) k e g)

pub one_end : LinesEndOnce
one_end (leg j c) u a k e d p q = one_of u e d p.2 q.2
one_end (vertex to h f) u a k e d (s, i, n, p) (r, j, m, q) =
    let z = (a s i n).1 r k j m (begins (f s) _ k e p) (begins (f r) _ k d q) in
    one_end (f s) (vertex to s (with_slot f h u)) (a s i n).0 k e d p (subst (λ x. Goes k (f x) (vertex to x (with_slot f h u)) d) (sym z) q)

pub one_end_at : LinesEndOnceAt
one_end_at to beyond a k e d (s, i, p) (r, j, q) =
    let z = a.1 s r k i j (begins (beyond s) _ k e p) (begins (beyond r) _ k d q) in
    one_end (beyond s) (vertex to s beyond) (a.0 s i) k e d p (subst (λ x. Goes k (beyond x) (vertex to x beyond) d) (sym z) q)
