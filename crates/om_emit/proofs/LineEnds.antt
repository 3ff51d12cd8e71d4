-- Where colour lines begin and end, at a vertex from what is known behind its slots.
use Rattle.std.proofs.Common.{◌≡◌, ◌≢◌, ℕ, ◌+◌, ◌<◌, ◌≤◌, Bool, true, false, cond, eqb, ◌⊎◌, inl, inr, ⊎_elim, refl, sym, ◌∙◌, ap, subst, arith, true≢false, None}
use Rattle.std.proofs.lemmas.Bool.Decides.{nat_tests}
use Rattle.om_colour.specs.declared.Choice.{Choice}
use Rattle.om_colour.specs.declared.SlotPartials.{SlotPartials}
use Rattle.om_colour.specs.Choices.{goes_to}
use Rattle.om_colour.specs.Lines.{IsSlot}
use Rattle.om_colour.specs.Partials.{Fits, end_at, end_by_slot, end_through, into_at, joined_end, part_at, target_end}
use Rattle.om_colour.proofs.Following.{either}
use Rattle.om_colour.proofs.JoinedLines.{alone, free_line, leaves}
use Rattle.om_colour.proofs.JoinedSound.{Way, into_slot, target_is, way}
use Rattle.om_colour.proofs.SlotLines.{first_at_slots_one}

-- a leg is the end of a line
abbrev pub IsEndOf : (ℕ → ℕ) → ℕ → ℕ → Type 0
IsEndOf line into e = ((j : ℕ) × (j < 12) × (line j ≡ e)) ⊎ (into ≡ e)

-- The lines behind an edge: from leg k + 1 one goes to `line k`, and one that enters ends at `into`. One begins at just those legs behind it
-- at which one has to, and just those are ends at which one has to end; none ends at its own leg.
pub record IsExact (begin end behind : ℕ → Bool) (line : ℕ → ℕ) (into : ℕ) : Type 0 where
  pub begins : (k : ℕ) → k < 12 → behind (k + 1) ≡ true → begin (k + 1) ≡ true → 0 < line k
  pub begun : (k : ℕ) → k < 12 → 0 < line k → (behind (k + 1) ≡ true) × (begin (k + 1) ≡ true)
  pub finish : (k : ℕ) → k < 12 → behind (k + 1) ≡ true → end (k + 1) ≡ true → IsEndOf line into (k + 1)
  pub finished : (e : ℕ) → 0 < e → e ≤ 12 → IsEndOf line into e → (behind e ≡ true) × (end e ≡ true)
  pub away : (k : ℕ) → k < 12 → line k ≢ k + 1

-- behind a slot past the vertex there is no line
pub nothing_exact : (begin end : ℕ → Bool) → IsExact begin end (λ l. false) (λ k. 0) 0
nothing_exact begin end = record {
  begins = λ k l e b. absurd (true≢false (sym e));
  begun = λ k l s. absurd (omega arith);
  finish = λ k l e b. absurd (true≢false (sym e));
  finished = λ e s l i. ⊎_elim (λ h. absurd (let q = h.2 in omega (arith, q, s))) (λ q. absurd (omega (arith, q, s))) i;
  away = λ k l q. omega (arith, q);
}

module _ (begin end : ℕ → Bool) (q : SlotPartials) (c : Choice) (h : ℕ) (free : part_at q h ≡ None) (fit : Fits q c h) where
  abbrev line : ℕ → ℕ → ℕ
  line s k = end_at (part_at q s) k

  abbrev into : ℕ → ℕ
  into s = into_at (part_at q s)

  abbrev to : ℕ → ℕ
  to s = goes_to c s

  not_hole : (s k : ℕ) → 0 < line s k → s ≢ h
  not_hole s k l e = let z : line s k ≡ 0 = ap (λ r. line r k) e ∙ free_line q c h free fit k in omega (arith, z, l)

  -- the end of a line by the slot behind which it begins
  line_at : (s k : ℕ) → IsSlot s → k < 12 → 0 < line s k → joined_end q c h k ≡ end_through (line s k) (target_end q h (to s))
  line_at s k i l p = first_at_slots_one (end_by_slot q c (target_end q h) k) s (end_through (line s k) (target_end q h (to s))) i refl
      (λ r ir n. ap (λ a. end_through a (target_end q h (to r))) (alone q c h free fit k l s r i ir n p))

  leaves_through : (a b : ℕ) → a ≡ 13 → end_through a b ≡ b
  leaves_through a b e = let t : eqb a 13 ≡ true = grind (arith, nat_tests) in ap (λ x. cond x b a) t

  stays : (a b : ℕ) → a ≢ 13 → end_through a b ≡ a
  stays a b n = let t : eqb a 13 ≡ false = grind (arith, nat_tests) in ap (λ x. cond x b a) t

  target_other : (s : ℕ) → s ≢ h → target_end q h s ≡ into s
  target_other s n = let t : eqb s h ≡ false = grind (arith, nat_tests) in ap (λ x. cond x 13 (into s)) t

  target_hole : (s : ℕ) → s ≡ h → target_end q h s ≡ 13
  target_hole s e = let t : eqb s h ≡ true = grind (arith, nat_tests) in ap (λ x. cond x 13 (into s)) t

  module _ (all : ℕ → Bool) (behind : ℕ → ℕ → Bool) (parts : (s : ℕ) → IsSlot s → s ≢ h → IsExact begin end (behind s) (line s) (into s))
      (cover : (l : ℕ) → all l ≡ true → (s : ℕ) × IsSlot s × (s ≢ h) × (behind s l ≡ true)) (within : (s l : ℕ) → IsSlot s → s ≢ h → behind s l ≡ true → all l ≡ true)
      (x : ℕ) (at_hole : IsSlot h → x ≡ into (to h)) (from_hole : 0 < x → (t : ℕ) × IsSlot t × (t ≢ h) × (into t ≡ x)) where
    to_slot : (s : ℕ) → IsSlot s → 0 < to s → IsSlot (to s)
    to_slot s i l = (l, fit.choice.slots s i)

    -- what enters at a slot comes from another
    target_some : (s : ℕ) → IsSlot s → 0 < to s → 0 < target_end q h (to s)
    target_some s i l = by (either (to s) h)
      where
        by : (to s ≡ h) ⊎ (to s ≢ h) → 0 < target_end q h (to s)
        by (inl e) = let t = target_hole (to s) e in omega (arith, t)
        by (inr n) = let t = target_other (to s) n in let p = (fit.enters (to s) (to_slot s i l) n).1 (s, i, refl) in omega (arith, t, p)

    begins : (k : ℕ) → k < 12 → all (k + 1) ≡ true → begin (k + 1) ≡ true → 0 < joined_end q c h k
    begins k l a b =
        let s = cover (k + 1) a in
        let p = (parts s.0 s.1 s.2).begins k l s.3 b in
        by s.0 s.1 p (either (line s.0 k) 13)
      where
        by : (s : ℕ) → IsSlot s → 0 < line s k → (line s k ≡ 13) ⊎ (line s k ≢ 13) → 0 < joined_end q c h k
        by s i p (inl e) =
            let at = line_at s k i l p in
            let through = leaves_through (line s k) (target_end q h (to s)) e in
            let some = target_some s i (leaves q c h free fit k l s i e) in
            omega (arith, at, through, some)
        by s i p (inr n) = let at = line_at s k i l p in let stay = stays (line s k) (target_end q h (to s)) n in omega (arith, at, stay, p)

    begun : (k : ℕ) → k < 12 → 0 < joined_end q c h k → (all (k + 1) ≡ true) × (begin (k + 1) ≡ true)
    begun k l p =
        let w = way q c h free fit k (joined_end q c h k) p refl in
        let some : 0 < line w.slot k = ⊎_elim (λ a. let e : line w.slot k ≡ 13 = a.0 in omega (arith, e)) (λ a. let e : line w.slot k ≡ joined_end q c h k = a.0 in omega (arith, e, p)) w.way in
        let n = not_hole w.slot k some in
        let b = (parts w.slot w.is_slot n).begun k l some in
        (within w.slot (k + 1) w.is_slot n b.0, b.1)

    finish : (k : ℕ) → k < 12 → all (k + 1) ≡ true → end (k + 1) ≡ true → IsEndOf (joined_end q c h) x (k + 1)
    finish k l a b = let s = cover (k + 1) a in by s.0 s.1 s.2 ((parts s.0 s.1 s.2).finish k l s.3 b)
      where
        comes : (s : ℕ) → IsSlot s → s ≢ h → into s ≡ k + 1 → (r : ℕ) → IsSlot r → to r ≡ s → (r ≡ h) ⊎ (r ≢ h) → IsEndOf (joined_end q c h) x (k + 1)
        comes s i n e r ir g (inl m) = inr (at_hole (subst IsSlot m ir) ∙ ap (λ z. into (to z)) (sym m) ∙ ap into g ∙ e)
        comes s i n e r ir g (inr m) =
            let out = (fit.leaves r ir m).1 (let w = i.0 in omega (arith, g, w)) in
            let line_out : line r out.0 ≡ 13 = out.2 in
            inl (
              out.0,
              out.1,
              line_at r out.0 ir out.1 (omega (arith, line_out)) ∙ leaves_through (line r out.0) (target_end q h (to r)) line_out ∙ ap (target_end q h) g ∙ target_other s n ∙ e,
            )

        by : (s : ℕ) → IsSlot s → s ≢ h → IsEndOf (line s) (into s) (k + 1) → IsEndOf (joined_end q c h) x (k + 1)
        by s i n (inl j) =
            let e : line s j.0 ≡ k + 1 = j.2 in
            inl (j.0, j.1, line_at s j.0 i j.1 (omega (arith, e)) ∙ stays (line s j.0) (target_end q h (to s)) (λ t. omega (arith, e, t, l)) ∙ e)
        by s i n (inr e) = let r = (fit.enters s i n).0 (omega (arith, e)) in comes s i n e r.0 r.1 r.2 (either r.0 h)

    finished : (e : ℕ) → 0 < e → e ≤ 12 → IsEndOf (joined_end q c h) x e → (all e ≡ true) × (end e ≡ true)
    finished e s l i = ⊎_elim (λ j. by_way j.0 j.1 (way q c h free fit j.0 e s j.2)) (λ g. entered (from_hole (omega (arith, g, s))) g) i
      where
        at_part : (t : ℕ) → IsSlot t → t ≢ h → IsEndOf (line t) (into t) e → (all e ≡ true) × (end e ≡ true)
        at_part t it n d = let f = (parts t it n).finished e s l d in (within t e it n f.0, f.1)

        entered : ((t : ℕ) × IsSlot t × (t ≢ h) × (into t ≡ x)) → x ≡ e → (all e ≡ true) × (end e ≡ true)
        entered t g = at_part t.0 t.1 t.2 (inr (t.3 ∙ g))

        by_way : (j : ℕ) → j < 12 → Way q c h free fit j e → (all e ≡ true) × (end e ≡ true)
        by_way j lj w = ⊎_elim
            (λ a. ⊎_elim
            (λ b. absurd (let t : e ≡ 13 = b.1 in omega (arith, t, l)))
            (λ b. let t : into (to w.slot) ≡ e = b.1 in at_part (to w.slot) (into_slot q c h free fit (to w.slot) (fit.choice.slots w.slot w.is_slot) (omega (arith, t, s))) b.0 (inr t))
            (target_is q c h free fit (to w.slot) e a.1))
            (λ a. let t : line w.slot j ≡ e = a.0 in at_part w.slot w.is_slot (not_hole w.slot j (omega (arith, t, s))) (inl (j, lj, t)))
            w.way

    away : (k : ℕ) → k < 12 → joined_end q c h k ≢ k + 1
    away k l e = by (way q c h free fit k (k + 1) (omega arith) e)
      where
        by : Way q c h free fit k (k + 1) → ⊥
        by w = ⊎_elim
            (λ a. ⊎_elim
            (λ b. let t : k + 1 ≡ 13 = b.1 in omega (arith, t, l))
            (λ b.
            let t : into (to w.slot) ≡ k + 1 = b.1 in
            let out : line w.slot k ≡ 13 = a.0 in
            let i = into_slot q c h free fit (to w.slot) (fit.choice.slots w.slot w.is_slot) (omega (arith, t)) in
            fit.apart w.slot (to w.slot) k w.is_slot i (fit.choice.away w.slot w.is_slot) l (inl (omega (arith, out))) (inr (inr t)))
            (target_is q c h free fit (to w.slot) (k + 1) a.1))
            (λ a. let t : line w.slot k ≡ k + 1 = a.0 in (parts w.slot w.is_slot (not_hole w.slot k (omega (arith, t)))).away k l t)
            w.way

    pub vertex_exact : IsExact begin end all (joined_end q c h) x
    vertex_exact = record { begins = begins; begun = begun; finish = finish; finished = finished; away = away }
