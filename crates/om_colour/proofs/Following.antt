-- Lines over an edge.
use Rattle.std.proofs.Common.{◌≡◌, ◌≢◌, ℕ, Bool, true, false, cond, eqb, ◌⊎◌, inl, inr, refl, sym, subst, ◌∙◌, arith}
use mathlib.Core.Path.{fun_ext}
use Rattle.std.proofs.lemmas.Bool.Decides.{nat_tests}
use Rattle.om_colour.specs.Lines.{Side, Ends, with_slot, IsSlot, Goes, Line}
use Rattle.om_colour.specs.Laws.{SameLinesOverVertex}
use Rattle.om_colour.specs.Lines.Side.{leg, vertex}

-- where two sides end the same lines
abbrev pub Like : Side → Side → Type 0
Like u w = (e : ℕ) → Ends u e → Ends w e

like_with_slot : (to : ℕ → ℕ) (h s : ℕ) (f : ℕ → Side) (u w : Side) → Like u w → Like (vertex to s (with_slot f h u)) (vertex to s (with_slot f h w))
like_with_slot to h s f u w l e (p, q) = (p, by (eqb (to s) h) q)
  where
    by : (b : Bool) → Ends (cond b u (f (to s))) e → Ends (cond b w (f (to s))) e
    by true q = l e q
    by false q = q

pub like_goes : (t u w : Side) (k e : ℕ) → Like u w → Goes k t u e → Goes k t w e
like_goes (leg j c) u w k e l (a, b, d) = (a, b, l e d)
like_goes (vertex to h f) u w k e l (s, i, n, g) = (s, i, n, like_goes (f s) (vertex to s (with_slot f h u)) (vertex to s (with_slot f h w)) k e (like_with_slot to h s f u w l) g)

pub with_slot_same : (f : ℕ → Side) (h : ℕ) (u : Side) → with_slot f h u h ≡ u
with_slot_same f h u = let t : eqb h h ≡ true = grind (arith, nat_tests) in rw t refl

pub with_slot_other : (f : ℕ → Side) (h s : ℕ) (u : Side) → s ≢ h → with_slot f h u s ≡ f s
with_slot_other f h s u n = let t : eqb s h ≡ false = grind (arith, nat_tests) in rw t refl

pub either : (m n : ℕ) → (m ≡ n) ⊎ (m ≢ n)
either m n = grind arith

-- seen back from slot s
with_slot_back : (f : ℕ → Side) (h s : ℕ) (u : Side) → s ≢ h → with_slot (with_slot f h u) s (f s) ≡ with_slot f h u
with_slot_back f h s u n = fun_ext (λ i. by i (either i s))
  where
    by : (i : ℕ) → (i ≡ s) ⊎ (i ≢ s) → with_slot (with_slot f h u) s (f s) i ≡ with_slot f h u i
    by i (inl e) = subst (λ j. with_slot (with_slot f h u) s (f s) j ≡ with_slot f h u j) (sym e) (with_slot_same (with_slot f h u) s (f s) ∙ sym (with_slot_other f h s u n))
    by i (inr m) = with_slot_other (with_slot f h u) s i (f s) m

-- the edge below slot s, seen from below: the vertex lies at its other end
turned_below : (to : ℕ → ℕ) (h s k e : ℕ) (f : ℕ → Side) (u : Side) → IsSlot h → s ≢ h → to h ≢ h → Goes k (vertex to h f) u e → Line (f s) (vertex to s (with_slot f h u)) k e
turned_below to h s k e f u ih n back (r, i, m, g) = by (either r s)
  where
    by : (r ≡ s) ⊎ (r ≢ s) → Line (f s) (vertex to s (with_slot f h u)) k e
    by (inl q) = inl (subst (λ j. Goes k (f j) (vertex to j (with_slot f h u)) e) q g)
    by (inr q) = inr (r, i, q, rw (with_slot_other f h r u m, with_slot_back f h s u n) g)

turned_above : (to : ℕ → ℕ) (h s k e : ℕ) (f : ℕ → Side) (u : Side) → IsSlot h → s ≢ h → to h ≢ h → Goes k u (vertex to h f) e → Line (f s) (vertex to s (with_slot f h u)) k e
turned_above to h s k e f u ih n back g =
    inr (h, ih, (λ q. n (sym q)), rw (with_slot_same f h u, with_slot_back f h s u n) (like_goes u (vertex to h f) (vertex to h (with_slot f h u)) k e (λ e (p, q). (p, rw (with_slot_other f h (to h) u back) q)) g))

pub turned : (to : ℕ → ℕ) (h s k e : ℕ) (f : ℕ → Side) (u : Side) → IsSlot h → s ≢ h → to h ≢ h → Line (vertex to h f) u k e → Line (f s) (vertex to s (with_slot f h u)) k e
turned to h s k e f u ih n back (inl g) = turned_below to h s k e f u ih n back g
turned to h s k e f u ih n back (inr g) = turned_above to h s k e f u ih n back g

-- a vertex whose unused side is another
like_unused : (to : ℕ → ℕ) (h : ℕ) (f : ℕ → Side) (x : Side) → to h ≢ h → Like (vertex to h (with_slot f h x)) (vertex to h f)
like_unused to h f x n e (p, q) = (p, subst (λ t. Ends t e) (with_slot_other f h (to h) x n) q)

-- and turned back
pub turned_back : (to : ℕ → ℕ) (h s k e : ℕ) (f : ℕ → Side) (u : Side) → IsSlot s → s ≢ h → to h ≢ h → Line (f s) (vertex to s (with_slot f h u)) k e → Line (vertex to h f) u k e
turned_back to h s k e f u is n back (inl g) = inl (s, is, n, g)
turned_back to h s k e f u is n back (inr (r, i, m, g)) = by (either r h)
  where
    seen : Goes k (with_slot f h u r) (vertex to r (with_slot f h u)) e
    seen = rw (← with_slot_back f h s u n) g

    by : (r ≡ h) ⊎ (r ≢ h) → Line (vertex to h f) u k e
    by (inl q) =
        let g' : Goes k (with_slot f h u h) (vertex to h (with_slot f h u)) e = subst (λ j. Goes k (with_slot f h u j) (vertex to j (with_slot f h u)) e) q seen in
        inr (like_goes u (vertex to h (with_slot f h u)) (vertex to h f) k e (like_unused to h f u back) (subst (λ t. Goes k t (vertex to h (with_slot f h u)) e) (with_slot_same f h u) g'))
    by (inr q) = inl (r, i, q, subst (λ t. Goes k t (vertex to r (with_slot f h u)) e) (with_slot_other f h r u q) seen)

pub same_lines_over_vertex : SameLinesOverVertex
same_lines_over_vertex to h s k e f u ih is n back = ((λ l. turned to h s k e f u ih n back l), (λ l. turned_back to h s k e f u is n back l))

-- a slot to which the line doesn't go may hold anything
pub like_with_slot_other : (to : ℕ → ℕ) (h s : ℕ) (f : ℕ → Side) (u : Side) → to s ≢ h → Like (vertex to s (with_slot f h u)) (vertex to s f)
like_with_slot_other to h s f u n e (p, q) = (p, subst (λ t. Ends t e) (with_slot_other f h (to s) u n) q)

pub like_with_slot_other_back : (to : ℕ → ℕ) (h s : ℕ) (f : ℕ → Side) (u : Side) → to s ≢ h → Like (vertex to s f) (vertex to s (with_slot f h u))
like_with_slot_other_back to h s f u n e (p, q) = (p, subst (λ t. Ends t e) (sym (with_slot_other f h (to s) u n)) q)
