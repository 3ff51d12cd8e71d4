-- In what a join makes, nothing is an end twice.
use Rattle.std.proofs.Common.{◌≡◌, ◌≢◌, ℕ, zero, suc, ◌-◌, ◌<◌, ◌≤◌, true, false, eqb, ◌⊎◌, inl, inr, refl, ap, sym, subst, ◌∙◌, arith, Some, None}
use Rattle.std.proofs.lemmas.Bool.Decides.{nat_tests}
use Rattle.om_colour.specs.declared.Choice.{Choice}
use Rattle.om_colour.specs.declared.SlotPartials.{SlotPartials}
use Rattle.om_colour.specs.Lines.{IsSlot}
use Rattle.om_colour.specs.Choices.{goes_to}
use Rattle.om_colour.specs.Partials.{joined, end_through, part_at, end_at, into_at, target_end, end_by_slot, Fits, IsSound, joined_end, StandsIn}
use Rattle.om_colour.proofs.Following.{either}
use Rattle.om_colour.proofs.SlotLines.{first_at_slots_some}
use Rattle.om_colour.proofs.JoinedLines.{each_leg-at, leaves, free_line}

-- what comes of an end: nothing, what ends here, or what ends beyond
through_is : (a b e : ℕ) → 0 < e → end_through a b ≡ e → ((a ≡ 13) × (b ≡ e)) ⊎ ((a ≡ e) × (e ≢ 13))
through_is a b e l p = by (either a 13)
  where
    by : (a ≡ 13) ⊎ (a ≢ 13) → ((a ≡ 13) × (b ≡ e)) ⊎ ((a ≡ e) × (e ≢ 13))
    by (inl q) = let t : eqb a 13 ≡ true = grind (arith, nat_tests) in inl (q, (rw t at p))
    by (inr q) = let t : eqb a 13 ≡ false = grind (arith, nat_tests) in let r : a ≡ e = rw t at p in inr (r, λ z. q (r ∙ z))

pub equal : (a b : ℕ) → a ≡ b → eqb a b ≡ true
equal a b e = grind (arith, nat_tests)

module _ (q : SlotPartials) (c : Choice) (h : ℕ) (free : part_at q h ≡ None) (fit : Fits q c h) where
  abbrev pub line : ℕ → ℕ → ℕ
  line s k = end_at (part_at q s) k

  abbrev pub into : ℕ → ℕ
  into s = into_at (part_at q s)

  abbrev pub to : ℕ → ℕ
  to s = goes_to c s

  -- the way of the line from leg k + 1 to e
  pub record Way (k e : ℕ) : Type 0 where
    pub slot : ℕ
    pub is_slot : IsSlot slot
    pub way : ((line slot k ≡ 13) × (target_end q h (to slot) ≡ e)) ⊎ ((line slot k ≡ e) × (e ≢ 13))

  pub way : (k e : ℕ) → 0 < e → joined_end q c h k ≡ e → Way k e
  way k e l p = let w = first_at_slots_some (end_by_slot q c (target_end q h) k) e (l, p) in record { slot = w.0; is_slot = w.1; way = through_is (line w.0 k) (target_end q h (to w.0)) e l w.2 }

  abbrev EndsIn : ℕ → ℕ → Type 0
  EndsIn s e = ((j : ℕ) × (j < 12) × (line s j ≡ e)) ⊎ (into s ≡ e)

  stands : (s e : ℕ) → 0 < e → EndsIn s e → StandsIn (part_at q s) (e - 1)
  stands s e l (inl (j, m, p)) = inr (inl (j, m, omega arith))
  stands s e l (inr p) = inr (inr (omega arith))

  same_slot : (s r e : ℕ) → IsSlot s → IsSlot r → 0 < e → e ≤ 12 → EndsIn s e → EndsIn r e → s ≡ r
  same_slot s r e is ir l m a b = by (either r s)
    where
      by : (r ≡ s) ⊎ (r ≢ s) → s ≡ r
      by (inl p) = sym p
      by (inr n) = absurd (fit.apart s r (e - 1) is ir n (omega arith) (stands s e l a) (stands r e l b))

  same_start : (s r k : ℕ) → IsSlot s → IsSlot r → k < 12 → 0 < line s k → 0 < line r k → s ≡ r
  same_start s r k is ir l a b = by (either r s)
    where
      by : (r ≡ s) ⊎ (r ≢ s) → s ≡ r
      by (inl p) = sym p
      by (inr n) = absurd (fit.apart s r k is ir n l (inl a) (inl b))

  -- a target_end beyond the hole
  pub target_is : (s e : ℕ) → target_end q h s ≡ e → ((s ≡ h) × (e ≡ 13)) ⊎ ((s ≢ h) × (into s ≡ e))
  target_is s e p = by (either s h)
    where
      by : (s ≡ h) ⊎ (s ≢ h) → ((s ≡ h) × (e ≡ 13)) ⊎ ((s ≢ h) × (into s ≡ e))
      by (inl q) = let t : eqb s h ≡ true = grind (arith, nat_tests) in inl (q, sym (rw t at p))
      by (inr q) = let t : eqb s h ≡ false = grind (arith, nat_tests) in inr (q, (rw t at p))

  pub into_slot : (s : ℕ) → s ≤ 4 → 0 < into s → IsSlot s
  into_slot s m l = by s m l
    where
      by : (s : ℕ) → s ≤ 4 → 0 < into s → IsSlot s
      by zero m l = absurd (none 0 refl l)
        where
          none : (n : ℕ) → into 0 ≡ n → 0 < into 0 → ⊥
          none n e l = omega arith
      by (suc s) m l = (omega arith, m)

  small : (s : ℕ) → IsSlot s → into s ≤ 12
  small s is = (fit.sound s is).into

  once : (k j e : ℕ) → k < 12 → j < 12 → 0 < e → joined_end q c h k ≡ e → joined_end q c h j ≡ e → k ≡ j
  once k j e lk lj l p r = by (way k e l p) (way j e l r)
    where
      same_line : (s t : ℕ) → IsSlot s → s ≡ t → 0 < line s k → line s k ≡ line t j → k ≡ j
      same_line s t is e a b = (fit.sound s is).once k j lk lj a (b ∙ ap (λ x. line x j) (sym e))

      into_small : (s : ℕ) → IsSlot s → into (to s) ≡ e → e ≤ 12
      into_small s is i = let z : 0 < into (to s) = omega arith in let m = small (to s) (into_slot (to s) (fit.choice.slots s is) z) in omega arith

      both_out : (s t : ℕ) → IsSlot s → IsSlot t → line s k ≡ 13 → line t j ≡ 13 → target_end q h (to s) ≡ e → target_end q h (to t) ≡ e → k ≡ j
      both_out s t is it a b x y = go (target_is (to s) e x) (target_is (to t) e y)
        where
          meet : to s ≡ to t → k ≡ j
          meet p = same_line s t is (fit.choice.once s t is it (leaves q c h free fit k lk s is a) p) (omega arith) (a ∙ sym b)

          go : ((to s ≡ h) × (e ≡ 13)) ⊎ ((to s ≢ h) × (into (to s) ≡ e)) → ((to t ≡ h) × (e ≡ 13)) ⊎ ((to t ≢ h) × (into (to t) ≡ e)) → k ≡ j
          go (inl u) (inl v) = meet (u.0 ∙ sym v.0)
          go (inl u) (inr v) = let m = into_small t it v.1 in absurd (omega arith)
          go (inr u) (inl v) = let m = into_small s is u.1 in absurd (omega arith)
          go (inr u) (inr v) =
              let z : 0 < into (to s) = omega arith in
              let w : 0 < into (to t) = omega arith in
              meet (same_slot (to s) (to t) e (into_slot (to s) (fit.choice.slots s is) z) (into_slot (to t) (fit.choice.slots t it) w) l (into_small s is u.1) (inr u.1) (inr v.1))

      one_out : (s t i : ℕ) → IsSlot s → IsSlot t → i < 12 → target_end q h (to s) ≡ e → line t i ≡ e → e ≢ 13 → ⊥
      one_out s t i is it li x y n = go (target_is (to s) e x)
        where
          go : ((to s ≡ h) × (e ≡ 13)) ⊎ ((to s ≢ h) × (into (to s) ≡ e)) → ⊥
          go (inl u) = n u.1
          go (inr u) =
              let z : 0 < into (to s) = omega arith in
              let m = same_slot (to s) t e (into_slot (to s) (fit.choice.slots s is) z) it l (into_small s is u.1) (inr u.1) (inl (i, li, y)) in
              let v : into t ≡ e = subst (λ r. into r ≡ e) m u.1 in
              (fit.sound t it).not_into i li (omega arith) (y ∙ sym v)

      by : Way k e → Way j e → k ≡ j
      by a b = cases a.way b.way
        where
          cases : ((line a.slot k ≡ 13) × (target_end q h (to a.slot) ≡ e)) ⊎ ((line a.slot k ≡ e) × (e ≢ 13)) → ((line b.slot j ≡ 13) × (target_end q h (to b.slot) ≡ e)) ⊎ ((line b.slot j ≡ e) × (e ≢ 13)) → k ≡ j
          cases (inl u) (inl v) = both_out a.slot b.slot a.is_slot b.is_slot u.0 v.0 u.1 v.1
          cases (inl u) (inr v) = absurd (one_out a.slot b.slot j a.is_slot b.is_slot lj u.1 v.0 v.1)
          cases (inr u) (inl v) = absurd (one_out b.slot a.slot k b.is_slot a.is_slot lk v.1 u.0 u.1)
          cases (inr u) (inr v) =
              let m = (fit.sound a.slot a.is_slot).ends k lk in
              let n = u.1 in
              same_line a.slot b.slot a.is_slot (same_slot a.slot b.slot e a.is_slot b.is_slot l (omega arith) (inl (k, lk, u.0)) (inl (j, lj, v.0))) (omega arith) (u.0 ∙ sym v.0)

  pub once_joined : (k j : ℕ) → k < 12 → j < 12 → 0 < joined_end q c h k → joined_end q c h k ≡ joined_end q c h j → k ≡ j
  once_joined k j lk lj l p = once k j (joined_end q c h k) lk lj l refl (sym p)

  at_most : (k : ℕ) → k < 12 → joined_end q c h k ≤ 13
  at_most k l = by (joined_end q c h k) refl
    where
      by : (e : ℕ) → joined_end q c h k ≡ e → joined_end q c h k ≤ 13
      by zero p = omega arith
      by (suc e) p = cases w.way
        where
          w : Way k (suc e)
          w = way k (suc e) (omega arith) p

          beyond : ((to w.slot ≡ h) × (suc e ≡ 13)) ⊎ ((to w.slot ≢ h) × (into (to w.slot) ≡ suc e)) → joined_end q c h k ≤ 13
          beyond (inl u) = omega arith
          beyond (inr u) = let m = small (to w.slot) (into_slot (to w.slot) (fit.choice.slots w.slot w.is_slot) (omega arith)) in omega arith

          cases : ((line w.slot k ≡ 13) × (target_end q h (to w.slot) ≡ suc e)) ⊎ ((line w.slot k ≡ suc e) × (suc e ≢ 13)) → joined_end q c h k ≤ 13
          cases (inl u) = beyond (target_is (to w.slot) (suc e) u.1)
          cases (inr u) = let m = (fit.sound w.slot w.is_slot).ends k l in omega arith

  pub into_small : (s : ℕ) → s ≤ 4 → 0 < into s → into s ≤ 12
  into_small s m l = small s (into_slot s m l)

  module _ (ih : IsSlot h) where
    into_at_most : into (to h) ≤ 12
    into_at_most = by (into (to h)) refl
      where
        by : (n : ℕ) → into (to h) ≡ n → into (to h) ≤ 12
        by zero p = omega arith
        by (suc n) p = into_small (to h) (fit.choice.slots h ih) (omega arith)

    not_into : (k e : ℕ) → k < 12 → 0 < e → into (to h) ≡ e → joined_end q c h k ≡ e → ⊥
    not_into k e lk l p j = cases w.way
      where
        w : Way k e
        w = way k e l j

        e_small : e ≤ 12
        e_small = let m = into_at_most in omega arith

        h_slot : IsSlot (to h)
        h_slot = into_slot (to h) (fit.choice.slots h ih) (omega arith)

        not_h : line w.slot k ≡ 13 → w.slot ≢ h
        not_h a n = let z : line w.slot k ≡ 0 = subst (λ r. line r k ≡ 0) (sym n) (free_line q c h free fit k) in omega arith

        beyond : line w.slot k ≡ 13 → ((to w.slot ≡ h) × (e ≡ 13)) ⊎ ((to w.slot ≢ h) × (into (to w.slot) ≡ e)) → ⊥
        beyond a (inl u) = let m = e_small in omega arith
        beyond a (inr u) =
            let i = into_slot (to w.slot) (fit.choice.slots w.slot w.is_slot) (omega arith) in
            let m = same_slot (to w.slot) (to h) e i h_slot l e_small (inr u.1) (inr p) in
            not_h a (fit.choice.once w.slot h w.is_slot ih (i.0) m)

        cases : ((line w.slot k ≡ 13) × (target_end q h (to w.slot) ≡ e)) ⊎ ((line w.slot k ≡ e) × (e ≢ 13)) → ⊥
        cases (inl u) = beyond u.0 (target_is (to w.slot) e u.1)
        cases (inr u) =
            let m = same_slot w.slot (to h) e w.is_slot h_slot l e_small (inl (k, lk, u.0)) (inr p) in
            let v : into w.slot ≡ e = subst (λ r. into r ≡ e) (sym m) p in
            (fit.sound w.slot w.is_slot).not_into k lk (omega arith) (u.0 ∙ sym v)

    pub at : (k : ℕ) → k < 12 → end_at (Some (joined q c h)) k ≡ joined_end q c h k
    at k l = each_leg-at (joined_end q c h) k l

    pub sound_joined : IsSound (Some (joined q c h))
    sound_joined = record {
      ends = λ k l. let m = at_most k l in let a = at k l in omega arith;
      into = into_at_most;
      once = λ k j lk lj l p. let a = at k lk in once_joined k j lk lj (omega arith) (sym a ∙ p ∙ at j lj);
      not_into = λ k lk l p. not_into k (into (to h)) lk l refl (sym (at k lk) ∙ p);
    }
