-- The partial flow of a leg.
use Rattle.std.proofs.Common.{◌≡◌, ℕ, ◌+◌, ◌-◌, ◌<◌, ◌≤◌, Bool, true, false, cond, eqb, ◌&&◌, inl, inr, refl, ap₂, sym, arith, ◌↔◌, Option, Some, None, List, true≢false}
use Rattle.std.proofs.lemmas.Bool.Decides.{nat_tests}
use Rattle.om_colour.specs.declared.Colour.{Colour}
use Rattle.om_colour.specs.declared.Partial.{Partial}
use Rattle.om_colour.specs.Lines.{starts_line, ends_line}
use Rattle.om_colour.specs.Lines.Side.{leg}
use Rattle.om_colour.specs.Partials.{IsEnd, IsPartialOf, IsSound, StandsIn, LeavesUpwards, each_leg, leg_partial, end_at}
use Rattle.om_colour.specs.Fitting.{IsPartialBehind}
use Rattle.om_colour.specs.Laws.{LegPartialIsBehind, NothingIsBehind}
use Rattle.om_colour.proofs.JoinedLines.{each_leg-at}

pub leg_partial-made : (n : ℕ) (c : Colour) (ends : List ℕ) (into : ℕ) → ends ≡ each_leg (λ k. cond (starts_line c && eqb (k + 1) n) 13 0) → into ≡ cond (ends_line c) n 0
    → let made : Partial = record { ends = ends; into = into } in made ≡ leg_partial n c
leg_partial-made n c ends into e i = ap₂ (λ es x. record { ends = es; into = x }) e i

module _ (n : ℕ) (c : Colour) (ge : 1 ≤ n) (le : n ≤ 12) where
  at : (k : ℕ) → k < 12 → end_at (Some (leg_partial n c)) k ≡ cond (starts_line c && eqb (k + 1) n) 13 0
  at k l = each_leg-at (λ k. cond (starts_line c && eqb (k + 1) n) 13 0) k l

  line_of : (k e a : ℕ) (b : Bool) → a ≡ cond (b && eqb (k + 1) n) 13 0 → ((k + 1 ≡ n) × (b ≡ true) × ((e ≡ 13) × (true ≡ true))) ↔ IsEnd a e
  line_of k e a true h = ((λ (x, y, (z, w)). grind (arith, nat_tests)), (λ i. (grind (arith, nat_tests), refl, (grind (arith, nat_tests), refl))))
  line_of k e a false h = ((λ (x, y, w). absurd (true≢false (sym y))), (λ i. absurd (omega arith)))

  into_of : (e a : ℕ) (b : Bool) → a ≡ cond b n 0 → ((e ≡ n) × (b ≡ true)) ↔ IsEnd a e
  into_of e a true h = ((λ (x, y). (omega arith, omega arith)), (λ i. (omega arith, refl)))
  into_of e a false h = ((λ (x, y). absurd (true≢false (sym y))), (λ i. absurd (omega arith)))

  pub leg-lines : IsPartialOf (leg n c) (Some (leg_partial n c))
  leg-lines = record { line = λ k e l. line_of k e (end_at (Some (leg_partial n c)) k) (starts_line c) (at k l); into = λ e. into_of e (cond (ends_line c) n 0) (ends_line c) refl }

  small : (k a : ℕ) (b : Bool) → a ≡ cond (b && eqb (k + 1) n) 13 0 → a ≤ 13
  small k a true h = grind (arith, nat_tests)
  small k a false h = omega arith

  at_leg : (k a : ℕ) (b : Bool) → a ≡ cond (b && eqb (k + 1) n) 13 0 → 0 < a → (k + 1 ≡ n) × (a ≡ 13) × (b ≡ true)
  at_leg k a true h l = (grind (arith, nat_tests), grind (arith, nat_tests), refl)
  at_leg k a false h l = absurd (omega arith)

  starts_at : (k : ℕ) → k < 12 → 0 < end_at (Some (leg_partial n c)) k → (k + 1 ≡ n) × (end_at (Some (leg_partial n c)) k ≡ 13) × (starts_line c ≡ true)
  starts_at k l p = at_leg k (end_at (Some (leg_partial n c)) k) (starts_line c) (at k l) p

  into_small : (a : ℕ) (b : Bool) → a ≡ cond b n 0 → a ≤ 12
  into_small a true h = omega arith
  into_small a false h = omega arith

  pub leg-sound : IsSound (Some (leg_partial n c))
  leg-sound = record {
    ends = λ k l. small k (end_at (Some (leg_partial n c)) k) (starts_line c) (at k l);
    into = into_small (cond (ends_line c) n 0) (ends_line c) refl;
    once = λ k j lk lj l e. let a = starts_at k lk l in let b = starts_at j lj (omega arith) in omega arith;
    not_into = λ k lk l e. let m = into_small (cond (ends_line c) n 0) (ends_line c) refl in let a = starts_at k lk (omega arith) in omega arith;
  }

  is_leg : (k : ℕ) → k + 1 ≡ n → eqb (k + 1) n ≡ true
  is_leg k e = grind (arith, nat_tests)

  into_is : (k : ℕ) (b : Bool) → cond b n 0 ≡ k + 1 → k + 1 ≡ n
  into_is k true e = sym e
  into_is k false e = absurd (omega arith)

  within : (k : ℕ) → k < 12 → StandsIn (Some (leg_partial n c)) k → eqb (k + 1) n ≡ true
  within k l (inl p) = is_leg k (starts_at k l p).0
  within k l (inr (inl (j, m, e))) = let a = starts_at j m (omega arith) in absurd (omega arith)
  within k l (inr (inr e)) = is_leg k (into_is k (ends_line c) e)

  leaves_at : (k a : ℕ) (b : Bool) → a ≡ cond (b && eqb (k + 1) n) 13 0 → k + 1 ≡ n → b ≡ true → a ≡ 13
  leaves_at k a true h e q = grind (arith, nat_tests)
  leaves_at k a false h e q = absurd (true≢false (sym q))

  leg_at : (k : ℕ) × (k < 12) × (k + 1 ≡ n)
  leg_at = (n - 1, omega arith, omega arith)

  leaves : LeavesUpwards (Some (leg_partial n c)) ↔ (starts_line c ≡ true)
  leaves = ((λ (k, l, e). (starts_at k l (omega arith)).2), (λ q. (leg_at.0, leg_at.1, leaves_at leg_at.0 _ (starts_line c) (at leg_at.0 leg_at.1) leg_at.2 q)))

  enters : (b : Bool) → (0 < cond b n 0) ↔ (b ≡ true)
  enters true = ((λ l. refl), (λ q. omega arith))
  enters false = ((λ l. absurd (omega arith)), (λ q. absurd (true≢false (sym q))))

  leg-behind : IsPartialBehind (λ k. eqb (k + 1) n) c (Some (leg_partial n c))
  leg-behind = record { sound = leg-sound; within = within; leaves = leaves; enters = enters (ends_line c) }

pub leg_partial-behind : LegPartialIsBehind
leg_partial-behind n c ge le = leg-behind n c ge le

pub nothing_behind : NothingIsBehind
nothing_behind behind = record {
  sound = record { ends = λ k l. omega arith; into = omega arith; once = λ k j lk lj l p. absurd (omega arith); not_into = λ k lk l p. absurd (omega arith) };
  within = λ k l s. absurd (none k s);
  leaves = ((λ (k, l, e). absurd (omega arith)), (λ q. absurd (true≢false (sym q))));
  enters = ((λ l. absurd (omega arith)), (λ q. absurd (true≢false (sym q))));
}
  where
    none : (k : ℕ) → StandsIn None k → ⊥
    none k (inl l) = omega arith
    none k (inr (inl (j, l, p))) = omega arith
    none k (inr (inr p)) = omega arith

-- behind more legs
pub behind-more : (behind more : ℕ → Bool) (c : Colour) (o : Option Partial) → ((k : ℕ) → k < 12 → behind k ≡ true → more k ≡ true) → IsPartialBehind behind c o → IsPartialBehind more c o
behind-more behind more c o whole b = record { sound = b.sound; within = λ k l s. whole k l (b.within k l s); leaves = b.leaves; enters = b.enters }
