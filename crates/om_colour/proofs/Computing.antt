-- `follow` computes the ends of lines, and `partial_of` the partial flow of a side.
use Rattle.std.proofs.Common.{◌↔◌, ap, subst, ◌≡◌, ◌≢◌, ℕ, zero, suc, ◌+◌, ◌<◌, Bool, true, false, cond, eqb, ◌&&◌, refl, sym, ◌∙◌, arith, lit<, Some, get_or, length, ap₂}
use Rattle.std.proofs.lemmas.Bool.Decides.{nat_tests}
use Rattle.std.proofs.lemmas.Grind.{same_number_lists}
use Rattle.om_colour.specs.declared.Colour.TheVariants.{One, Eight}
use Rattle.om_colour.specs.Lines.{LineAt, Side, with_slot, starts_line, ends_line, Goes, Ends, IsSlot, outside}
use Rattle.om_colour.specs.Lines.Side.{leg, vertex}
use Rattle.om_colour.specs.Ending.{StartsIn, IsApart, AreApart, IsNumbered}
use Rattle.om_colour.specs.Partials.{IsFlowOf, first_at_slots, IsEnd, end_at}
use Rattle.om_colour.specs.Follow.{end_of, follow, partial_of, flow_of}
use Rattle.om_colour.specs.Laws.{FollowsLines, ComputesPartial, OnePartial, ComputesFlow, OneFlow}
use Rattle.om_colour.proofs.SlotLines.{first_at_slots_one, first_at_slots_some}
use Rattle.om_colour.proofs.Ending.{begins}
use Rattle.om_colour.proofs.JoinedLines.{each_leg-at}

-- a chain of two vertices of three octets, with legs 1, 2 and 3, 4
abbrev cycle : ℕ → ℕ
cycle s = cond (eqb s 1) 2 (cond (eqb s 2) 3 (cond (eqb s 3) 1 0))

abbrev three_sides : Side → Side → Side → ℕ → Side
three_sides a b c s = cond (eqb s 1) a (cond (eqb s 2) b (cond (eqb s 3) c (leg 0 One)))

abbrev chain : Side
chain = vertex cycle 1 (three_sides (leg 0 One) (leg 1 Eight) (vertex cycle 1 (three_sides (leg 0 One) (leg 2 Eight) (leg 3 Eight))))

chain-lines : (follow 1 chain (leg 4 Eight) ≡ 2) × (follow 2 chain (leg 4 Eight) ≡ 3) × (follow 3 chain (leg 4 Eight) ≡ 4) × (follow 4 (leg 4 Eight) chain ≡ 1)
chain-lines = (refl, refl, refl, refl)

end_of-ends : (t : Side) (e : ℕ) → IsEnd (end_of t) e → Ends t e
end_of-ends (leg k c) e (p, q) = by (ends_line c) refl q
  where
    by : (b : Bool) → ends_line c ≡ b → cond b k 0 ≡ e → (e ≡ k) × (ends_line c ≡ true)
    by true r q = (sym q, r)
    by false r q = absurd (omega arith)
end_of-ends (vertex to h f) e (p, q) = by (eqb (to h) 0) refl q (end_of-ends (f (to h)) e)
  where
    by : (b : Bool) → eqb (to h) 0 ≡ b → cond b 0 (end_of (f (to h))) ≡ e → (IsEnd (end_of (f (to h))) e → Ends (f (to h)) e) → (0 < to h) × Ends (f (to h)) e
    by true r q ih = absurd (omega arith)
    by false r q ih = (grind (arith, nat_tests), ih (p, q))

ends-end_of : (t : Side) (e : ℕ) → Ends t e → end_of t ≡ e
ends-end_of (leg k c) e (p, q) = rw q (sym p)
ends-end_of (vertex to h f) e (p, q) = let n : eqb (to h) 0 ≡ false = grind (arith, nat_tests) in rw n (ends-end_of (f (to h)) e q)

follow-goes : (t u : Side) (k e : ℕ) → IsEnd (follow k t u) e → Goes k t u e
follow-goes (leg j c) u k e (p, q) = by (eqb k j) (starts_line c) refl refl q
  where
    by : (b d : Bool) → eqb k j ≡ b → starts_line c ≡ d → cond (b && d) (end_of u) 0 ≡ e → (k ≡ j) × (starts_line c ≡ true) × Ends u e
    by true true r s q = (grind (arith, nat_tests), s, end_of-ends u e (p, q))
    by true false r s q = absurd (omega arith)
    by false d r s q = absurd (omega arith)
follow-goes (vertex to h f) u k e i =
    let x : ℕ → ℕ = λ s. cond (eqb s h) 0 (follow k (f s) (vertex to s (with_slot f h u))) in
    let w = first_at_slots_some x e i in
    by w.0 w.1 (eqb w.0 h) refl w.2 (follow-goes (f w.0) (vertex to w.0 (with_slot f h u)) k e)
  where
    by : (s : ℕ) → IsSlot s → (b : Bool) → eqb s h ≡ b → cond b 0 (follow k (f s) (vertex to s (with_slot f h u))) ≡ e → (IsEnd (follow k (f s) (vertex to s (with_slot f h u))) e → Goes k (f s) (vertex to s (with_slot f h u)) e) → Goes k (vertex to h f) u e
    by s is true r q ih = absurd (let l = i.0 in omega arith)
    by s is false r q ih = (s, is, grind (arith, nat_tests), ih (i.0, q))

-- no line starts at leg k behind another slot
none_else : (to : ℕ → ℕ) (h s r k : ℕ) (f : ℕ → Side) (u : Side) → IsApart (vertex to h f) → IsSlot s → s ≢ h → StartsIn k (f s) → IsSlot r → r ≢ s → (b : Bool) → eqb r h ≡ b
    → (n : ℕ) → follow k (f r) (vertex to r (with_slot f h u)) ≡ n → cond b 0 n ≡ 0
none_else to h s r k f u a i m p j n true t e q = refl
none_else to h s r k f u a i m p j n false t zero q = refl
none_else to h s r k f u a i m p j n false t (suc e) q =
    let g = follow-goes (f r) (vertex to r (with_slot f h u)) k (suc e) (omega arith, q) in
    let z = (a s i m).1 r k j (grind (arith, nat_tests)) p (begins (f r) (vertex to r (with_slot f h u)) k (suc e) g) in
    absurd (n (sym z))

goes-follow : (t u : Side) (k e : ℕ) → IsApart t → Goes k t u e → follow k t u ≡ e
goes-follow (leg j c) u k e a (p, q, r) = let n : eqb k j ≡ true = grind (arith, nat_tests) in rw (n, q) (ends-end_of u e r)
goes-follow (vertex to h f) u k e a (s, i, n, g) =
    first_at_slots_one (λ r. cond (eqb r h) 0 (follow k (f r) (vertex to r (with_slot f h u)))) s e i
    (let m : eqb s h ≡ false = grind (arith, nat_tests) in rw m (goes-follow (f s) (vertex to s (with_slot f h u)) k e (a s i n).0 g))
    (λ r j m. none_else to h s r k f u a i n (begins (f s) (vertex to s (with_slot f h u)) k e g) j m (eqb r h) refl _ refl)

pub follows_lines : FollowsLines
follows_lines t u k e a l = ((λ g. goes-follow t u k e a g), (λ p. follow-goes t u k e (l, p)))

ends-positive : (t : Side) → IsNumbered t → (e : ℕ) → Ends t e → 0 < e
ends-positive (leg k c) n e (p, q) = let l = n q in omega arith
ends-positive (vertex to h f) n e (p, q) = ends-positive (f (to h)) (n (to h)) e q

with_slot-numbered : (f : ℕ → Side) (h : ℕ) (u : Side) → ((s : ℕ) → IsNumbered (f s)) → IsNumbered u → (s : ℕ) → IsNumbered (with_slot f h u s)
with_slot-numbered f h u n m s = by (eqb s h)
  where
    by : (b : Bool) → IsNumbered (cond b u (f s))
    by true = m
    by false = n s

goes-positive : (t u : Side) → IsNumbered t → IsNumbered u → (k e : ℕ) → Goes k t u e → 0 < e
goes-positive (leg j c) u n m k e (p, q, r) = ends-positive u m e r
goes-positive (vertex to h f) u n m k e (s, i, d, g) = goes-positive (f s) (vertex to s (with_slot f h u)) (n s) (with_slot-numbered f h u n m) k e g

pub computes_partial : ComputesPartial
computes_partial t a n = record {
  line = λ k e l. ((λ g. (goes-positive t outside n (λ p. lit< tt) (k + 1) e g, at k l ∙ goes-follow t outside (k + 1) e a g)), (λ (p, q). follow-goes t outside (k + 1) e (p, sym (at k l) ∙ q)));
  into = λ e. ((λ g. (ends-positive t n e g, ends-end_of t e g)), (λ i. end_of-ends t e i));
}
  where
    at : (k : ℕ) → k < 12 → end_at (Some (partial_of t)) k ≡ follow (k + 1) t outside
    at k l = each_leg-at (λ k. follow (k + 1) t outside) k l

-- numbers that are the same ends
same_end : (x y : ℕ) → ((e : ℕ) → IsEnd x e → IsEnd y e) → ((e : ℕ) → IsEnd y e → IsEnd x e) → x ≡ y
same_end zero zero f g = refl
same_end zero (suc y) f g = let w = g (suc y) (omega arith, refl) in absurd (omega arith)
same_end (suc x) y f g = sym (f (suc x) (omega arith, refl)).1

pub one_partial : OnePartial
one_partial t p q l m a b = ap₂ (λ es i. record { ends = es; into = i }) (same_number_lists p.ends q.ends (l ∙ sym m) ends_at) (same_end p.into q.into (λ e i. (b.into e).0 ((a.into e).1 i)) (λ e i. (a.into e).0 ((b.into e).1 i)))
  where
    ends_at : (k : ℕ) → k < length p.ends → get_or p.ends k 0 ≡ get_or q.ends k 0
    ends_at k d = let c : k < 12 = omega arith in same_end (get_or p.ends k 0) (get_or q.ends k 0) (λ e i. (b.line k e c).0 ((a.line k e c).1 i)) (λ e i. (a.line k e c).0 ((b.line k e c).1 i))

pub one_flow : OneFlow
one_flow to beyond v w l m a b = ap (λ es. record { ends = es }) (same_number_lists v.ends w.ends (l ∙ sym m) ends_at)
  where
    ends_at : (k : ℕ) → k < length v.ends → get_or v.ends k 0 ≡ get_or w.ends k 0
    ends_at k d = let c : k < 12 = omega arith in same_end (get_or v.ends k 0) (get_or w.ends k 0) (λ e i. (b k e c).0 ((a k e c).1 i)) (λ e i. (a k e c).0 ((b k e c).1 i))

module _ (to : ℕ → ℕ) (beyond : ℕ → Side) (apart : AreApart beyond) (numbered : (s : ℕ) → IsNumbered (beyond s)) where
  abbrev around : ℕ → Side
  around s = vertex to s beyond

  lone : (s r k : ℕ) → IsSlot s → IsSlot r → r ≢ s → StartsIn k (beyond s) → (n : ℕ) → follow k (beyond r) (around r) ≡ n → n ≡ 0
  lone s r k i j m p zero q = refl
  lone s r k i j m p (suc e) q =
      let g = follow-goes (beyond r) (around r) k (suc e) (omega arith, q) in
      absurd (m (apart.1 r s k j i (begins (beyond r) (around r) k (suc e) g) p))

  line-flow : (k e : ℕ) → LineAt to beyond k e → IsEnd (first_at_slots (λ s. follow k (beyond s) (around s))) e
  line-flow k e (s, i, g) = (
    goes-positive (beyond s) (around s) (numbered s) numbered k e g,
    first_at_slots_one (λ s. follow k (beyond s) (around s)) s e i (goes-follow (beyond s) (around s) k e (apart.0 s i) g)
        (λ r j m. lone s r k i j m (begins (beyond s) (around s) k e g) _ refl),
  )

  flow-line : (k e : ℕ) → IsEnd (first_at_slots (λ s. follow k (beyond s) (around s))) e → LineAt to beyond k e
  flow-line k e i =
      let w = first_at_slots_some (λ s. follow k (beyond s) (around s)) e i in
      (w.0, w.1, follow-goes (beyond w.0) (around w.0) k e (i.0, w.2))

  flow_of-lines : IsFlowOf to beyond (flow_of to beyond)
  flow_of-lines k e l =
      subst (λ x. LineAt to beyond (k + 1) e ↔ IsEnd x e) (sym (each_leg-at (λ k. first_at_slots (λ s. follow (k + 1) (beyond s) (around s))) k l))
      ((λ g. line-flow (k + 1) e g), (λ i. flow-line (k + 1) e i))

pub computes_flow : ComputesFlow
computes_flow to beyond apart numbered = flow_of-lines to beyond apart numbered
