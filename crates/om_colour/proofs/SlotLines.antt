-- The lines of a side, from those of its parts.
use Rattle.std.proofs.Common.{◌≡◌, ◌≢◌, ℕ, ◌<◌, ◌≤◌, Bool, true, false, cond, eqb, ◌⊎◌, inl, inr, refl, sym, subst, ◌∙◌, arith, lit<, lit≤}
use Rattle.std.proofs.lemmas.Bool.Decides.{nat_tests}
use Rattle.om_colour.specs.Lines.{Side, Ends, with_slot, IsSlot, Goes, outside, IsInner}
use Rattle.om_colour.specs.Lines.Side.{vertex}
use Rattle.om_colour.specs.Partials.{end_through, first_of, first_at_slots, IsEnd}
use Rattle.om_colour.proofs.Beyond.{splits, Parts}
use Rattle.om_colour.proofs.Following.{either}

pub one_of : (s : ℕ) → IsSlot s → (s ≡ 1) ⊎ (s ≡ 2) ⊎ (s ≡ 3) ⊎ (s ≡ 4)
one_of s (a, b) = grind arith

-- what holds of each of the four slots
pub by_slots : (P : ℕ → Type 0) → P 1 → P 2 → P 3 → P 4 → (s : ℕ) → IsSlot s → P s
by_slots P a b c d s i = by (one_of s i)
  where
    by : (s ≡ 1) ⊎ (s ≡ 2) ⊎ (s ≡ 3) ⊎ (s ≡ 4) → P s
    by (inl e) = subst P (sym e) a
    by (inr (inl e)) = subst P (sym e) b
    by (inr (inr (inl e))) = subst P (sym e) c
    by (inr (inr (inr e))) = subst P (sym e) d

abbrev First : (a b c d : ℕ) → ℕ
First a b c d = first_of a (first_of b (first_of c (first_of d 0)))

at_1 : (a b c d e : ℕ) → a ≡ e → b ≡ 0 → c ≡ 0 → d ≡ 0 → First a b c d ≡ e
at_1 a b c d e p q r s = grind (arith, nat_tests)

at_2 : (a b c d e : ℕ) → a ≡ 0 → b ≡ e → c ≡ 0 → d ≡ 0 → First a b c d ≡ e
at_2 a b c d e p q r s = grind (arith, nat_tests)

at_3 : (a b c d e : ℕ) → a ≡ 0 → b ≡ 0 → c ≡ e → d ≡ 0 → First a b c d ≡ e
at_3 a b c d e p q r s = grind (arith, nat_tests)

at_4 : (a b c d e : ℕ) → a ≡ 0 → b ≡ 0 → c ≡ 0 → d ≡ e → First a b c d ≡ e
at_4 a b c d e p q r s = grind (arith, nat_tests)

some_of : (a b c d e : ℕ) → 0 < e → First a b c d ≡ e → (a ≡ e) ⊎ (b ≡ e) ⊎ (c ≡ e) ⊎ (d ≡ e)
some_of a b c d e p q = grind (arith, nat_tests)

abbrev Only : (ℕ → ℕ) → ℕ → Type 0
Only x s = (r : ℕ) → IsSlot r → r ≢ s → x r ≡ 0

pub first_at_slots_one : (x : ℕ → ℕ) (s e : ℕ) → IsSlot s → x s ≡ e → Only x s → first_at_slots x ≡ e
first_at_slots_one x s e i p o = by (one_of s i)
  where
    zero_at : (r t : ℕ) → s ≡ t → IsSlot r → (r ≡ t → ⊥) → x r ≡ 0
    zero_at r t q i n = o r i (λ e. n (e ∙ q))

    here : (t : ℕ) → s ≡ t → x t ≡ e
    here t q = subst (λ r. x r ≡ e) q p

    by : (s ≡ 1) ⊎ (s ≡ 2) ⊎ (s ≡ 3) ⊎ (s ≡ 4) → first_at_slots x ≡ e
    by (inl q) = at_1 _ _ _ _ e (here 1 q) (zero_at 2 1 q (lit< tt, lit≤ tt) (λ e. cc)) (zero_at 3 1 q (lit< tt, lit≤ tt) (λ e. cc)) (zero_at 4 1 q (lit< tt, lit≤ tt) (λ e. cc))
    by (inr (inl q)) = at_2 _ _ _ _ e (zero_at 1 2 q (lit< tt, lit≤ tt) (λ e. cc)) (here 2 q) (zero_at 3 2 q (lit< tt, lit≤ tt) (λ e. cc)) (zero_at 4 2 q (lit< tt, lit≤ tt) (λ e. cc))
    by (inr (inr (inl q))) = at_3 _ _ _ _ e (zero_at 1 3 q (lit< tt, lit≤ tt) (λ e. cc)) (zero_at 2 3 q (lit< tt, lit≤ tt) (λ e. cc)) (here 3 q) (zero_at 4 3 q (lit< tt, lit≤ tt) (λ e. cc))
    by (inr (inr (inr q))) = at_4 _ _ _ _ e (zero_at 1 4 q (lit< tt, lit≤ tt) (λ e. cc)) (zero_at 2 4 q (lit< tt, lit≤ tt) (λ e. cc)) (zero_at 3 4 q (lit< tt, lit≤ tt) (λ e. cc)) (here 4 q)

pub first_at_slots_some : (x : ℕ → ℕ) (e : ℕ) → IsEnd (first_at_slots x) e → (s : ℕ) × IsSlot s × (x s ≡ e)
first_at_slots_some x e i = by (some_of (x 1) (x 2) (x 3) (x 4) e i.0 i.1)
  where
    by : (x 1 ≡ e) ⊎ (x 2 ≡ e) ⊎ (x 3 ≡ e) ⊎ (x 4 ≡ e) → (s : ℕ) × IsSlot s × (x s ≡ e)
    by (inl q) = (1, (lit< tt, lit≤ tt), q)
    by (inr (inl q)) = (2, (lit< tt, lit≤ tt), q)
    by (inr (inr (inl q))) = (3, (lit< tt, lit≤ tt), q)
    by (inr (inr (inr q))) = (4, (lit< tt, lit≤ tt), q)

module _ (to : ℕ → ℕ) (h : ℕ) (f : ℕ → Side) (line into : ℕ → ℕ) (k : ℕ)
    (inner : (s : ℕ) → IsInner (f s))
    (lines : (s e : ℕ) → IsSlot s → s ≢ h → (Goes k (f s) outside e → IsEnd (line s) e) × (IsEnd (line s) e → Goes k (f s) outside e))
    (intos : (s e : ℕ) → IsSlot s → s ≢ h → (Ends (f s) e → IsEnd (into s) e) × (IsEnd (into s) e → Ends (f s) e))
    (open_slot : line h ≡ 0)
    (slots : (s : ℕ) → IsSlot s → to s ≤ 4)
    (alone : (s r : ℕ) → IsSlot s → IsSlot r → r ≢ s → 0 < line s → line r ≡ 0)
    (leaves : (s : ℕ) → IsSlot s → line s ≡ 13 → 0 < to s) where
  abbrev x : ℕ → ℕ
  x s = end_through (line s) (cond (eqb (to s) h) 13 (into (to s)))

  within_side : (s e : ℕ) → line s ≡ e → e ≢ 13 → x s ≡ e
  within_side s e p n = let t : eqb (line s) 13 ≡ false = grind (arith, nat_tests) in rw t p

  leaves_side : (s : ℕ) → line s ≡ 13 → x s ≡ cond (eqb (to s) h) 13 (into (to s))
  leaves_side s p = let t : eqb (line s) 13 ≡ true = grind (arith, nat_tests) in rw t refl

  others : (s r : ℕ) → IsSlot s → 0 < line s → IsSlot r → r ≢ s → x r ≡ 0
  others s r is p ir n = within_side r 0 (alone s r is ir n p) (omega arith)

  joined : (e : ℕ) → Goes k (vertex to h f) outside e → IsEnd (first_at_slots x) e
  joined e (s, is, n, g) = by ((splits (f s) (inner s) (vertex to s (with_slot f h outside)) k e).0 g)
    where
      on : (b : Bool) → eqb (to s) h ≡ b → IsEnd (line s) 13 → 0 < to s → Ends (cond b outside (f (to s))) e → IsEnd (first_at_slots x) e
      on true t l p q = (omega arith, first_at_slots_one x s e is (leaves_side s l.1 ∙ rw t (sym q.0)) (λ r. others s r is (omega arith)))
      on false t l p q =
          let ne : to s ≢ h = grind (arith, nat_tests) in
          let i = (intos (to s) e (p, slots s is) ne).0 q in
          (i.0, first_at_slots_one x s e is (leaves_side s l.1 ∙ rw t i.1) (λ r. others s r is (omega arith)))

      by : Parts k (f s) (vertex to s (with_slot f h outside)) e → IsEnd (first_at_slots x) e
      by (inl (g, m)) = let l = (lines s e is n).0 g in (l.0, first_at_slots_one x s e is (within_side s e l.1 m) (λ r. others s r is (omega arith)))
      by (inr (g, (p, q))) = on (eqb (to s) h) refl ((lines s 13 is n).0 g) p q

  split : (e : ℕ) → IsEnd (first_at_slots x) e → Goes k (vertex to h f) outside e
  split e i = let w = first_at_slots_some x e i in from w.0 w.1 w.2 (either (line w.0) 13)
    where
      not_open : (s m : ℕ) → line s ≡ m → 0 < m → s ≢ h
      not_open s m l p q = let z : line s ≡ 0 = subst (λ r. line r ≡ 0) (sym q) open_slot in omega arith

      out : (s : ℕ) → IsSlot s → line s ≡ 13 → (b : Bool) → eqb (to s) h ≡ b → cond b 13 (into (to s)) ≡ e → Ends (cond b outside (f (to s))) e
      out s is l true t p = (sym p, refl)
      out s is l false t p = (intos (to s) e (leaves s is l, slots s is) (grind (arith, nat_tests))).1 (i.0, p)

      from : (s : ℕ) → IsSlot s → x s ≡ e → (line s ≡ 13) ⊎ (line s ≢ 13) → Goes k (vertex to h f) outside e
      from s is p (inl l) =
          let n = not_open s 13 l (lit< tt) in (
            s,
            is,
            n,
            (splits (f s) (inner s) (vertex to s (with_slot f h outside)) k e).1
                (inr ((lines s 13 is n).1 (lit< tt, l), (leaves s is l, out s is l (eqb (to s) h) refl (sym (leaves_side s l) ∙ p)))),
          )
      from s is p (inr l) =
          let q : line s ≡ e = sym (within_side s (line s) refl l) ∙ p in
          let n = not_open s e q i.0 in
          (s, is, n, (splits (f s) (inner s) (vertex to s (with_slot f h outside)) k e).1 (inl ((lines s e is n).1 (i.0, q), λ m. l (q ∙ m))))

  pub joined_is : (e : ℕ) → (Goes k (vertex to h f) outside e → IsEnd (first_at_slots x) e) × (IsEnd (first_at_slots x) e → Goes k (vertex to h f) outside e)
  joined_is e = (joined e, split e)
