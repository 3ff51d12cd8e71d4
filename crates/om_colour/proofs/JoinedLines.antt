-- What join and close promise.
use Rattle.std.proofs.Common.{◌≡◌, ◌≢◌, ℕ, zero, suc, ◌+◌, ◌-◌, ◌<◌, false, eqb, inl, refl, sym, subst, arith, ◌↔◌, slice_index, None}
use Rattle.std.proofs.lemmas.Bool.Decides.{nat_tests}
use Rattle.om_colour.specs.declared.Choice.{Choice}
use Rattle.om_colour.specs.declared.SlotPartials.{SlotPartials}
use Rattle.om_colour.specs.Lines.{Side, Ends, with_slot, IsSlot, Goes, LineAt, outside}
use Rattle.om_colour.specs.Lines.Side.{vertex}
use Rattle.om_colour.specs.Choices.{goes_to}
use Rattle.om_colour.specs.Partials.{joined, closed, IsEnd, part_at, end_at, into_at, Fits, ArePartials, Joins, Closes, no_hole, joined_end, each_leg}
use Rattle.om_colour.proofs.SlotLines.{joined_is}
use Rattle.om_colour.proofs.Following.{like_goes, like_with_slot_other, like_with_slot_other_back}

pub each_leg-at : (f : ℕ → ℕ) (k : ℕ) → k < 12 → slice_index (each_leg f) k ≡ f k
each_leg-at f zero l = refl
each_leg-at f (suc zero) l = refl
each_leg-at f (suc (suc zero)) l = refl
each_leg-at f (suc (suc (suc zero))) l = refl
each_leg-at f (suc (suc (suc (suc zero)))) l = refl
each_leg-at f (suc (suc (suc (suc (suc zero))))) l = refl
each_leg-at f (suc (suc (suc (suc (suc (suc zero)))))) l = refl
each_leg-at f (suc (suc (suc (suc (suc (suc (suc zero))))))) l = refl
each_leg-at f (suc (suc (suc (suc (suc (suc (suc (suc zero)))))))) l = refl
each_leg-at f (suc (suc (suc (suc (suc (suc (suc (suc (suc zero))))))))) l = refl
each_leg-at f (suc (suc (suc (suc (suc (suc (suc (suc (suc (suc zero)))))))))) l = refl
each_leg-at f (suc (suc (suc (suc (suc (suc (suc (suc (suc (suc (suc zero))))))))))) l = refl
each_leg-at f (suc (suc (suc (suc (suc (suc (suc (suc (suc (suc (suc (suc n)))))))))))) l = absurd (omega arith)

module _ (q : SlotPartials) (c : Choice) (h : ℕ) (free : part_at q h ≡ None) (fit : Fits q c h) where
  pub free_line : (k : ℕ) → end_at (part_at q h) k ≡ 0
  free_line k = rw free refl

  pub alone : (k : ℕ) → k < 12 → (s r : ℕ) → IsSlot s → IsSlot r → r ≢ s → 0 < end_at (part_at q s) k → end_at (part_at q r) k ≡ 0
  alone k l s r is ir n p = by (end_at (part_at q r) k) refl
    where
      by : (m : ℕ) → end_at (part_at q r) k ≡ m → end_at (part_at q r) k ≡ 0
      by zero e = e
      by (suc m) e = absurd (fit.apart s r k is ir n l (inl p) (inl (omega arith)))

  pub leaves : (k : ℕ) → k < 12 → (s : ℕ) → IsSlot s → end_at (part_at q s) k ≡ 13 → 0 < goes_to c s
  leaves k l s is p = (fit.leaves s is (λ e. absurd (let z = free_line k in let z' : end_at (part_at q s) k ≡ 0 = subst (λ r. end_at (part_at q r) k ≡ 0) (sym e) z in omega arith))).0 (k, l, p)

  pub line_is : (f : ℕ → Side) → ArePartials q h f → (k e : ℕ) → k < 12 → Goes (k + 1) (vertex (goes_to c) h f) outside e ↔ IsEnd (joined_end q c h k) e
  line_is f a k e l =
      joined_is (goes_to c) h f (λ s. end_at (part_at q s) k) (λ s. into_at (part_at q s)) (k + 1) a.0 (λ s e is n. (a.1 s is n).line k e l) (λ s e is n. (a.1 s is n).into e)
      (free_line k) fit.choice.slots (alone k l) (leaves k l) e

  pub joined-lines : IsSlot h → Joins q c h (joined q c h)
  joined-lines ih f a = record {
    line = λ k e l. subst (λ m. Goes (k + 1) (vertex (goes_to c) h f) outside e ↔ IsEnd m e) (sym (each_leg-at (joined_end q c h) k l)) (line_is f a k e l);
    into = λ e. (there e, back e);
  }
    where
      there : (e : ℕ) → Ends (vertex (goes_to c) h f) e → IsEnd (into_at (part_at q (goes_to c h))) e
      there e (g, r) = ((a.1 (goes_to c h) (g, fit.choice.slots h ih) (fit.choice.away h ih)).into e).0 r

      some_slot : (m : ℕ) → 0 < into_at (part_at q m) → 0 < m
      some_slot zero l = absurd (none (into_at (part_at q 0)) refl l)
        where
          none : (n : ℕ) → n ≡ 0 → 0 < n → ⊥
          none n e l = omega arith
      some_slot (suc m) l = omega arith

      back : (e : ℕ) → IsEnd (into_at (part_at q (goes_to c h))) e → Ends (vertex (goes_to c) h f) e
      back e (g, r) =
          let s = some_slot (goes_to c h) (omega arith) in
          (s, ((a.1 (goes_to c h) (s, fit.choice.slots h ih) (fit.choice.away h ih)).into e).1 (g, r))

pub closed-lines : (q : SlotPartials) (c : Choice) → Fits q c no_hole → Closes q c (closed q c)
closed-lines q c fit f a k e l =
    subst (λ m. LineAt (goes_to c) f (k + 1) e ↔ IsEnd m e) (sym (each_leg-at (joined_end q c no_hole) k l)) ((λ g. r.0 (there g)), (λ i. back (r.1 i)))
  where
    r : Goes (k + 1) (vertex (goes_to c) no_hole f) outside e ↔ IsEnd (joined_end q c no_hole k) e
    r = line_is q c no_hole refl fit f a k e l

    no : (s : ℕ) → IsSlot s → goes_to c s ≢ no_hole
    no s is e = let m = fit.choice.slots s is in omega arith

    there : LineAt (goes_to c) f (k + 1) e → Goes (k + 1) (vertex (goes_to c) no_hole f) outside e
    there (s, is, g) =
        (s, is, (λ e. omega arith), like_goes (f s) (vertex (goes_to c) s f) (vertex (goes_to c) s (with_slot f no_hole outside)) (k + 1) e (like_with_slot_other_back (goes_to c) no_hole s f outside (no s is)) g)

    back : Goes (k + 1) (vertex (goes_to c) no_hole f) outside e → LineAt (goes_to c) f (k + 1) e
    back (s, is, n, g) = (s, is, like_goes (f s) (vertex (goes_to c) s (with_slot f no_hole outside)) (vertex (goes_to c) s f) (k + 1) e (like_with_slot_other (goes_to c) no_hole s f outside (no s is)) g)

pub goes_to-slot : (c : Choice) (h : ℕ) → IsSlot h → slice_index c.to (h - 1) ≡ goes_to c h
goes_to-slot c h i = let t : eqb h 0 ≡ false = grind (arith, nat_tests) in rw t refl
