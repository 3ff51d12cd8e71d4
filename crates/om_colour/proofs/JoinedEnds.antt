-- The twelve ends, as the code makes them.
use Rattle.std.proofs.Common.{◌≡◌, ◌≢◌, ℕ, zero, suc, ◌-◌, ◌≤◌, true, false, eqb, ◌⊎◌, inl, inr, refl, ap, ap₂, sym, ◌∙◌, arith, List, length, get_or, set, get_or-set_same, get_or-set_other, slice_index}
use Rattle.std.proofs.lemmas.Bool.Decides.{nat_tests}
use Rattle.std.proofs.lemmas.Grind.{same_number_lists}
use Rattle.om_colour.specs.declared.Choice.{Choice}
use Rattle.om_colour.specs.declared.Partial.{Partial}
use Rattle.om_colour.specs.declared.Flow.{Flow}
use Rattle.om_colour.specs.declared.SlotPartials.{SlotPartials}
use Rattle.om_colour.specs.Lines.{IsSlot}
use Rattle.om_colour.specs.Choices.{goes_to}
use Rattle.om_colour.specs.Partials.{all_beyond, each_leg, into_at, part_at, target_end, ends_by, end_through, first_of, end_at, no_hole, joined, closed}
use Rattle.om_colour.proofs.Following.{either}
use Rattle.om_colour.proofs.JoinedLines.{each_leg-at, goes_to-slot}

-- twelve numbers are each of them
pub each_leg-same : (xs : List ℕ) → length xs ≡ 12 → xs ≡ each_leg (λ k. slice_index xs k)
each_leg-same xs l = same_number_lists xs (each_leg (λ k. slice_index xs k)) l (λ k b. sym (each_leg-at (λ k. slice_index xs k) k (omega arith)))

-- where a line ends beyond each slot
all_beyond-at : (q : SlotPartials) (s : ℕ) → s ≤ 4 → get_or (all_beyond q) s 0 ≡ into_at (part_at q s)
all_beyond-at q zero l = refl
all_beyond-at q (suc zero) l = refl
all_beyond-at q (suc (suc zero)) l = refl
all_beyond-at q (suc (suc (suc zero))) l = refl
all_beyond-at q (suc (suc (suc (suc zero)))) l = refl
all_beyond-at q (suc (suc (suc (suc (suc s))))) l = absurd (omega arith)

-- where slot h is open
all_beyond-set : (q : SlotPartials) (h s : ℕ) → h ≤ 4 → s ≤ 4 → get_or (set (all_beyond q) h 13) s 0 ≡ target_end q h s
all_beyond-set q h s m l = by (either s h)
  where
    by : (s ≡ h) ⊎ (s ≢ h) → get_or (set (all_beyond q) h 13) s 0 ≡ target_end q h s
    by (inl e) = let t : eqb s h ≡ true = grind (arith, nat_tests) in rw t (ap (λ i. get_or (set (all_beyond q) h 13) i 0) e ∙ get_or-set_same (all_beyond q) h 13 0 (omega arith))
    by (inr n) = let t : eqb s h ≡ false = grind (arith, nat_tests) in rw t (get_or-set_other (all_beyond q) h s 13 0 n ∙ all_beyond-at q s l)

-- where none is
all_beyond-none : (q : SlotPartials) (s : ℕ) → s ≤ 4 → get_or (all_beyond q) s 0 ≡ target_end q no_hole s
all_beyond-none q s l = let t : eqb s no_hole ≡ false = grind (arith, nat_tests) in rw t (all_beyond-at q s l)

-- the lines through four slots that end at these numbers
abbrev through_all : SlotPartials → (a b c d : ℕ) → ℕ → ℕ
through_all q a b c d k = first_of (end_through (end_at q.first k) a) (first_of (end_through (end_at q.second k) b) (first_of (end_through (end_at q.third k) c) (first_of (end_through (end_at q.fourth k) d) 0)))

-- the same ends beyond all slots
each_leg-ends_by : (q : SlotPartials) (c : Choice) (f g : ℕ → ℕ) → ((s : ℕ) → s ≤ 4 → f s ≡ g s) → ((s : ℕ) → IsSlot s → goes_to c s ≤ 4) → each_leg (ends_by q c f) ≡ each_leg (ends_by q c g)
each_leg-ends_by q c f g same slots =
    ap₂ (λ x y. each_leg (through_all q x y (f (goes_to c 3)) (f (goes_to c 4)))) (at 1 (omega arith, omega arith)) (at 2 (omega arith, omega arith))
    ∙ ap₂ (λ x y. each_leg (through_all q (g (goes_to c 1)) (g (goes_to c 2)) x y)) (at 3 (omega arith, omega arith)) (at 4 (omega arith, omega arith))
  where
    at : (s : ℕ) → IsSlot s → f (goes_to c s) ≡ g (goes_to c s)
    at s i = same (goes_to c s) (slots s i)

pub joined-made : (q : SlotPartials) (c : Choice) (h : ℕ) (beyond ends : List ℕ) (into : ℕ) → IsSlot h → ((s : ℕ) → IsSlot s → goes_to c s ≤ 4)
    → beyond ≡ all_beyond q → ends ≡ each_leg (ends_by q c (slice_index (set beyond h 13))) → into ≡ slice_index beyond (slice_index c.to (h - 1))
    → let made : Partial = record { ends = ends; into = into } in made ≡ joined q c h
joined-made q c h beyond ends into i slots b e n =
    ap₂ (λ es x. record { ends = es; into = x })
    (e ∙ ap (λ b. each_leg (ends_by q c (slice_index (set b h 13)))) b ∙ each_leg-ends_by q c (slice_index (set (all_beyond q) h 13)) (target_end q h) (λ s l. all_beyond-set q h s i.1 l) slots)
    (n ∙ ap₂ (λ b s. slice_index b s) b (goes_to-slot c h i) ∙ all_beyond-at q (goes_to c h) (slots h i))

pub closed-made : (q : SlotPartials) (c : Choice) (beyond ends : List ℕ) → ((s : ℕ) → IsSlot s → goes_to c s ≤ 4) → beyond ≡ all_beyond q → ends ≡ each_leg (ends_by q c (slice_index beyond))
    → let made : Flow = record { ends = ends } in made ≡ closed q c
closed-made q c beyond ends slots b e =
    ap (λ es. record { ends = es })
    (e ∙ ap (λ b. each_leg (ends_by q c (slice_index b))) b ∙ each_leg-ends_by q c (slice_index (all_beyond q)) (target_end q no_hole) (λ s l. all_beyond-none q s l) slots)
