-- The vertices of the tests: their partial flows fit.
use Rattle.std.proofs.Common.{◌≡◌, ◌≢◌, ℕ, ◌+◌, ◌<◌, true, cond, eqb, refl, sym, subst, arith, lit<, lit≤, Option, Some, None, List, [], ◌∷◌, length, ◌⊎◌}
use Rattle.std.proofs.lemmas.Bool.Decides.{nat_tests}
use Rattle.om_colour.specs.declared.Colour.{Colour}
use Rattle.om_colour.specs.declared.Colour.TheVariants.{Three, AntiThree, Eight}
use Rattle.om_colour.specs.declared.Choice.{Choice}
use Rattle.om_colour.specs.declared.Partial.{Partial}
use Rattle.om_colour.specs.declared.SlotPartials.{SlotPartials}
use Rattle.om_colour.specs.Lines.{IsSlot, anti_colour}
use Rattle.om_colour.specs.Choices.{goes_to, SendsOn, colour_at}
use Rattle.om_colour.specs.Partials.{Fits, FitsOnwards, leg_partial, no_hole, part_at}
use Rattle.om_colour.specs.Fitting.{IsPartialBehind, AreBehind, AreDisjoint}
use Rattle.om_colour.specs.Table.{Row, row_of, choice_of, choice_count}
use Rattle.om_colour.proofs.Sending.{choices_send_on}
use Rattle.om_colour.proofs.SlotLines.{by_slots}
use Rattle.om_colour.proofs.LegPartials.{leg_partial-behind, nothing_behind, behind-more}
use Rattle.om_colour.proofs.Fitting.{partials_fit, joined_partial_fits}

-- leg k + 1 stands behind slot `owner k` alone
owned_apart : (owner : ℕ → ℕ) → AreDisjoint (λ s k. eqb (owner k) s)
owned_apart owner s r k i j n p q = n (grind (arith, nat_tests))

-- leg k + 1 behind its slot
leg_owned : (owner : ℕ → ℕ) (k : ℕ) (c : Colour) (s : ℕ) → k < 12 → owner k ≡ s → IsPartialBehind (λ k. eqb (owner k) s) c (Some (leg_partial (k + 1) c))
leg_owned owner k c s l e = behind-more (λ j. eqb (j + 1) (k + 1)) (λ j. eqb (owner j) s) c (Some (leg_partial (k + 1) c)) owned (leg_partial-behind (k + 1) c (omega arith) (omega arith))
  where
    is : (m n : ℕ) → m ≡ n → eqb m n ≡ true
    is m n p = grind (arith, nat_tests)

    owned : (j : ℕ) → j < 12 → eqb (j + 1) (k + 1) ≡ true → eqb (owner j) s ≡ true
    owned j m p = let q : j ≡ k = grind (arith, nat_tests) in subst (λ i. eqb (owner i) s ≡ true) (sym q) (is (owner k) s e)

abbrev octets : Option Partial → SlotPartials
octets first = record { first = first; second = Some (leg_partial 2 Eight); third = Some (leg_partial 3 Eight); fourth = None }

abbrev octet_slot : ℕ → ℕ
octet_slot k = k + 1

module _ (c : Choice) (sends : SendsOn (goes_to c) (colour_at (Eight ∷ Eight ∷ Eight ∷ []))) where
  pub octets_behind : Fits (octets None) c 1
  octets_behind = partials_fit (octets None) c 1 (colour_at (Eight ∷ Eight ∷ Eight ∷ [])) (λ s k. eqb (octet_slot k) s) sends (record {
    free = refl;
    apart = owned_apart octet_slot;
    parts = by_slots (λ s. s ≢ 1 → IsPartialBehind (λ k. eqb (octet_slot k) s) (colour_at (Eight ∷ Eight ∷ Eight ∷ []) s) (part_at (octets None) s))
        (λ n. absurd (n refl)) (λ n. leg_owned octet_slot 1 Eight 2 (lit< tt) refl) (λ n. leg_owned octet_slot 2 Eight 3 (lit< tt) refl) (λ n. nothing_behind (λ k. eqb (octet_slot k) 4));
  })

  pub octets_around : Fits (octets (Some (leg_partial 1 Eight))) c no_hole
  octets_around = partials_fit (octets (Some (leg_partial 1 Eight))) c no_hole (colour_at (Eight ∷ Eight ∷ Eight ∷ [])) (λ s k. eqb (octet_slot k) s) sends (record {
    free = refl;
    apart = owned_apart octet_slot;
    parts = by_slots (λ s. s ≢ no_hole → IsPartialBehind (λ k. eqb (octet_slot k) s) (colour_at (Eight ∷ Eight ∷ Eight ∷ []) s) (part_at (octets (Some (leg_partial 1 Eight))) s))
        (λ n. leg_owned octet_slot 0 Eight 1 (lit< tt) refl) (λ n. leg_owned octet_slot 1 Eight 2 (lit< tt) refl) (λ n. leg_owned octet_slot 2 Eight 3 (lit< tt) refl) (λ n. nothing_behind (λ k. eqb (octet_slot k) 4));
  })

abbrev quarks : (anti three : ℕ) → Option Partial → SlotPartials
quarks a t third = record { first = Some (leg_partial a AntiThree); second = Some (leg_partial t Three); third = third; fourth = None }

-- legs 3 and 4 stand behind slots 1 and 2 of the one vertex
abbrev below_slot : ℕ → ℕ
below_slot k = cond (eqb k 2) 1 (cond (eqb k 3) 2 0)

-- legs 2 and 1 stand behind slots 1 and 2 of the other, and legs 3 and 4 behind its slot 3
abbrev above_slot : ℕ → ℕ
above_slot k = cond (eqb k 0) 2 (cond (eqb k 1) 1 (cond (eqb k 2) 3 (cond (eqb k 3) 3 0)))

module _ (c : Choice) (e : Colour) (sends : SendsOn (goes_to c) (colour_at (AntiThree ∷ Three ∷ e ∷ []))) (own : anti_colour e ≡ e) where
  pub quarks_are_behind : AreBehind (quarks 3 4 None) 3 (colour_at (AntiThree ∷ Three ∷ e ∷ [])) (λ s k. eqb (below_slot k) s)
  quarks_are_behind = record {
    free = refl;
    apart = owned_apart below_slot;
    parts = by_slots (λ s. s ≢ 3 → IsPartialBehind (λ k. eqb (below_slot k) s) (colour_at (AntiThree ∷ Three ∷ e ∷ []) s) (part_at (quarks 3 4 None) s))
        (λ n. leg_owned below_slot 2 AntiThree 1 (lit< tt) refl) (λ n. leg_owned below_slot 3 Three 2 (lit< tt) refl) (λ n. absurd (n refl)) (λ n. nothing_behind (λ k. eqb (below_slot k) 4));
  }

  pub quarks_behind : Fits (quarks 3 4 None) c 3
  quarks_behind = partials_fit (quarks 3 4 None) c 3 (colour_at (AntiThree ∷ Three ∷ e ∷ [])) (λ s k. eqb (below_slot k) s) sends quarks_are_behind

  pub quarks_around : (p : Partial) → FitsOnwards (quarks 3 4 None) c 3 p → Fits (quarks 2 1 (Some p)) c no_hole
  quarks_around p o = partials_fit (quarks 2 1 (Some p)) c no_hole (colour_at (AntiThree ∷ Three ∷ e ∷ [])) (λ s k. eqb (above_slot k) s) sends (record {
    free = refl;
    apart = owned_apart above_slot;
    parts = by_slots (λ s. s ≢ no_hole → IsPartialBehind (λ k. eqb (above_slot k) s) (colour_at (AntiThree ∷ Three ∷ e ∷ []) s) (part_at (quarks 2 1 (Some p)) s))
        (λ n. leg_owned above_slot 1 AntiThree 1 (lit< tt) refl) (λ n. leg_owned above_slot 0 Three 2 (lit< tt) refl) (λ n. joined) (λ n. nothing_behind (λ k. eqb (above_slot k) 4));
  })
    where
      whole : (s k : ℕ) → IsSlot s → s ≢ 3 → eqb (below_slot k) s ≡ true → eqb (above_slot k) 3 ≡ true
      whole s k i n q = grind (arith, nat_tests)

      joined : IsPartialBehind (λ k. eqb (above_slot k) 3) e (Some p)
      joined = subst (λ x. IsPartialBehind (λ k. eqb (above_slot k) 3) x (Some p)) own
          (joined_partial_fits (quarks 3 4 None) c 3 (colour_at (AntiThree ∷ Three ∷ e ∷ [])) (λ s k. eqb (below_slot k) s) (λ k. eqb (above_slot k) 3) p sends quarks_are_behind (lit< tt, lit≤ tt) whole o)

pub sends_by_row : (cs : List Colour) → (length cs ≡ 3) ⊎ (length cs ≡ 4) → (r : Row) (k : ℕ) (c : Choice) → Some r ≡ row_of cs → k < choice_count r → c ≡ choice_of r k → SendsOn (goes_to c) (colour_at cs)
sends_by_row cs l r k c e m q = subst (λ c. SendsOn (goes_to c) (colour_at cs)) (sym q) (choices_send_on cs l r (sym e) k m)
