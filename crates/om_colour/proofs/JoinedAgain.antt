-- What join gives can be joined again.
use Rattle.std.proofs.Common.{◌≡◌, ◌≢◌, ℕ, ◌+◌, ◌<◌, ◌≤◌, ◌⊎◌, inl, inr, refl, sym, ◌∙◌, arith, ◌↔◌, lit<, Some, None}
use Rattle.om_colour.specs.declared.Choice.{Choice}
use Rattle.om_colour.specs.declared.SlotPartials.{SlotPartials}
use Rattle.om_colour.specs.Lines.{IsSlot}
use Rattle.om_colour.specs.Choices.{goes_to}
use Rattle.om_colour.specs.Partials.{joined, part_at, end_at, into_at, target_end, end_by_slot, Fits, joined_end, StandsIn, LeavesUpwards, FitsOnwards}
use Rattle.om_colour.proofs.SlotLines.{first_at_slots_one}
use Rattle.om_colour.proofs.JoinedSound.{Way, equal}
use Rattle.om_colour.proofs.JoinedSound as sound
use Rattle.om_colour.proofs.JoinedLines.{alone}

module _ (q : SlotPartials) (c : Choice) (h : ℕ) (free : part_at q h ≡ None) (fit : Fits q c h) (ih : IsSlot h) where
  abbrev line : ℕ → ℕ → ℕ
  line s k = end_at (part_at q s) k

  abbrev into : ℕ → ℕ
  into s = into_at (part_at q s)

  abbrev to : ℕ → ℕ
  to s = goes_to c s

  abbrev WayTo : ℕ → ℕ → Type 0
  WayTo k e = Way q c h free fit k e

  way : (k e : ℕ) → 0 < e → joined_end q c h k ≡ e → WayTo k e
  way k e l p = sound.way q c h free fit k e l p

  target_is : (s e : ℕ) → target_end q h s ≡ e → ((s ≡ h) × (e ≡ 13)) ⊎ ((s ≢ h) × (into s ≡ e))
  target_is s e p = sound.target_is q c h free fit s e p

  into_slot : (s : ℕ) → s ≤ 4 → 0 < into s → IsSlot s
  into_slot s m l = sound.into_slot q c h free fit s m l

  into_small : (s : ℕ) → s ≤ 4 → 0 < into s → into s ≤ 12
  into_small s m l = sound.into_small q c h free fit s m l

  at : (k : ℕ) → k < 12 → end_at (Some (joined q c h)) k ≡ joined_end q c h k
  at k l = sound.at q c h free fit ih k l

  -- a line leaves upwards exactly where some slot goes to the hole
  pub leaves_joined : LeavesUpwards (Some (joined q c h)) ↔ ((s : ℕ) × IsSlot s × (goes_to c s ≡ h))
  leaves_joined = (there, back)
    where
      out : (s k : ℕ) → IsSlot s → ((to s ≡ h) × (◌≡◌ {A = ℕ} 13 13)) ⊎ ((to s ≢ h) × (into (to s) ≡ 13)) → (s : ℕ) × IsSlot s × (to s ≡ h)
      out s k i (inl u) = (s, i, u.0)
      out s k i (inr u) = let m = into_small (to s) (fit.choice.slots s i) (omega arith) in absurd (omega arith)

      there : LeavesUpwards (Some (joined q c h)) → (s : ℕ) × IsSlot s × (to s ≡ h)
      there (k, l, e) = let w = way k 13 (lit< tt) (sym (at k l) ∙ e) in cases k w w.way
        where
          cases : (k : ℕ) (w : WayTo k 13) → ((line w.slot k ≡ 13) × (target_end q h (to w.slot) ≡ 13)) ⊎ ((line w.slot k ≡ 13) × (◌≢◌ {A = ℕ} 13 13)) → (s : ℕ) × IsSlot s × (to s ≡ h)
          cases k w (inl u) = out w.slot k w.is_slot (target_is (to w.slot) 13 u.1)
          cases k w (inr u) = absurd (u.1 refl)

      back : ((s : ℕ) × IsSlot s × (to s ≡ h)) → LeavesUpwards (Some (joined q c h))
      back (s, i, e) =
          let n : s ≢ h = λ z. fit.choice.away s i (e ∙ sym z) in
          let r = (fit.leaves s i n).1 (positive (to s) h e ih) in
          let k = r.0 in let l : k < 12 = r.1 in let a : line s k ≡ 13 = r.2 in
          (k, l, at k l ∙ first_at_slots_one (λ s. end_by_slot q c (target_end q h) k s) s 13 i (through_out s k a e) (λ t it m. nothing t k (alone q c h free fit k l s t i it m (omega arith))))
        where
          positive : (m h : ℕ) → m ≡ h → IsSlot h → 0 < m
          positive m h e i = omega arith

          through_out : (s k : ℕ) → line s k ≡ 13 → to s ≡ h → end_by_slot q c (target_end q h) k s ≡ 13
          through_out s k a b = rw (equal (line s k) 13 a, equal (to s) h b) refl

          nothing : (t k : ℕ) → line t k ≡ 0 → end_by_slot q c (target_end q h) k t ≡ 0
          nothing t k z = rw z refl

  -- a line enters from above exactly where the hole goes to a slot
  pub enters_joined : (0 < into (to h)) ↔ (0 < goes_to c h)
  enters_joined = (there, back)
    where
      there : 0 < into (to h) → 0 < to h
      there l = (into_slot (to h) (fit.choice.slots h ih) (omega arith)).0

      back : 0 < to h → 0 < into (to h)
      back l = let r = (fit.enters (to h) (l, fit.choice.slots h ih) (fit.choice.away h ih)).1 (h, ih, refl) in omega arith

  -- each leg of the whole is one of a part
  pub within_joined : (k : ℕ) → k < 12 → StandsIn (Some (joined q c h)) k → (s : ℕ) × IsSlot s × StandsIn (part_at q s) k
  within_joined k l (inl s) = starts_in (joined_end q c h k) refl (omega (arith, at k l))
    where
      starts_in : (e : ℕ) → joined_end q c h k ≡ e → 0 < e → (s : ℕ) × IsSlot s × StandsIn (part_at q s) k
      starts_in e j g = let w = way k e g j in (w.slot, w.is_slot, inl (cases w w.way))
        where
          cases : (w : WayTo k e) → ((line w.slot k ≡ 13) × (target_end q h (to w.slot) ≡ e)) ⊎ ((line w.slot k ≡ e) × (e ≢ 13)) → 0 < line w.slot k
          cases w (inl u) = omega arith
          cases w (inr u) = omega arith
  within_joined k l (inr (inr i)) = (to h, into_slot (to h) (fit.choice.slots h ih) (omega arith), inr (inr (i)))
  within_joined k l (inr (inl (j, m, e))) = let w = way j (k + 1) (omega arith) (sym (at j m) ∙ e) in cases w w.way
    where
      cases : (w : WayTo j (k + 1)) → ((line w.slot j ≡ 13) × (target_end q h (to w.slot) ≡ k + 1)) ⊎ ((line w.slot j ≡ k + 1) × (k + 1 ≢ 13)) → (s : ℕ) × IsSlot s × StandsIn (part_at q s) k
      cases w (inr u) = (w.slot, w.is_slot, inr (inl (j, m, u.0)))
      cases w (inl u) = on (to w.slot) (fit.choice.slots w.slot w.is_slot) (target_is (to w.slot) (k + 1) u.1)
        where
          on : (t : ℕ) → t ≤ 4 → ((t ≡ h) × (k + 1 ≡ 13)) ⊎ ((t ≢ h) × (into t ≡ k + 1)) → (s : ℕ) × IsSlot s × StandsIn (part_at q s) k
          on t f (inl v) = absurd (omega arith)
          on t f (inr v) = (t, into_slot t f (omega arith), inr (inr v.1))

  pub joined-onwards : FitsOnwards q c h (joined q c h)
  joined-onwards = record { sound = sound.sound_joined q c h free fit ih; leaves = leaves_joined; enters = enters_joined; within = within_joined }
