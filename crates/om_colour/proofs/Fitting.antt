-- What the graph has to know of its nodes to join them.
use Rattle.std.proofs.Common.{◌≡◌, ◌≢◌, ℕ, ◌<◌, Bool, true, ◌⊎◌, inl, inr, ap, sym, subst, ◌∙◌, arith, Option, Some, None}
use Rattle.om_colour.specs.declared.Colour.{Colour}
use Rattle.om_colour.specs.declared.Choice.{Choice}
use Rattle.om_colour.specs.declared.Partial.{Partial}
use Rattle.om_colour.specs.declared.SlotPartials.{SlotPartials}
use Rattle.om_colour.specs.Lines.{IsSlot, anti_colour}
use Rattle.om_colour.specs.Choices.{goes_to, SendsOn}
use Rattle.om_colour.specs.Partials.{part_at, StandsIn, IsSound, Fits, FitsOnwards}
use Rattle.om_colour.specs.Fitting.{IsPartialBehind, AreBehind}
use Rattle.om_colour.specs.Laws.{PartialsFit, JoinedPartialFits}
use Rattle.om_colour.proofs.Following.{either}
use Rattle.om_colour.proofs.Colours.{anti_starts, anti_ends}

sound_none : (o : Option Partial) → o ≡ None → IsSound o
sound_none o e = rw e (record { ends = λ k l. omega arith; into = omega arith; once = λ k j lk lj l p. absurd (omega arith); not_into = λ k lk l p. absurd (omega arith) })

stands_none : (o : Option Partial) (k : ℕ) → o ≡ None → StandsIn o k → ⊥
stands_none o k e s = none (subst (λ o. StandsIn o k) e s)
  where
    none : StandsIn None k → ⊥
    none (inl l) = omega arith
    none (inr (inl (j, l, p))) = omega arith
    none (inr (inr p)) = omega arith

module _ (q : SlotPartials) (c : Choice) (h : ℕ) (colours : ℕ → Colour) (behind : ℕ → ℕ → Bool) (sends : SendsOn (goes_to c) colours) (are : AreBehind q h colours behind) where
  at_hole : (s : ℕ) → s ≡ h → part_at q s ≡ None
  at_hole s e = ap (part_at q) e ∙ are.free

  holds : (s k : ℕ) → IsSlot s → k < 12 → StandsIn (part_at q s) k → behind s k ≡ true
  holds s k i l x = by (either s h)
    where
      by : (s ≡ h) ⊎ (s ≢ h) → behind s k ≡ true
      by (inl e) = absurd (stands_none (part_at q s) k (at_hole s e) x)
      by (inr n) = (are.parts s i n).within k l x

  not_hole : (s k : ℕ) → StandsIn (part_at q s) k → s ≢ h
  not_hole s k x e = stands_none (part_at q s) k (at_hole s e) x

  sound_at : (s : ℕ) → IsSlot s → (s ≡ h) ⊎ (s ≢ h) → IsSound (part_at q s)
  sound_at s i (inl e) = sound_none (part_at q s) (at_hole s e)
  sound_at s i (inr n) = (are.parts s i n).sound

  fits_of : Fits q c h
  fits_of = record {
    choice = sends.choice;
    sound = λ s i. sound_at s i (either s h);
    apart = λ s r k i j n l x y. are.apart s r k i j n (holds s k i l x) (holds r k j l y);
    leaves = λ s i n. ((λ x. (sends.arrives s i).1 ((are.parts s i n).leaves.0 x)), (λ x. (are.parts s i n).leaves.1 ((sends.arrives s i).0 x)));
    enters = λ s i n. ((λ x. (sends.leaves s i).1 ((are.parts s i n).enters.0 x)), (λ x. (are.parts s i n).enters.1 ((sends.leaves s i).0 x)));
  }

  of_joined : (all : ℕ → Bool) (p : Partial) → IsSlot h → ((s k : ℕ) → IsSlot s → s ≢ h → behind s k ≡ true → all k ≡ true) → FitsOnwards q c h p → IsPartialBehind all (anti_colour (colours h)) (Some p)
  of_joined all p ih whole o = record {
    sound = o.sound;
    within = λ k l x. let w = o.within k l x in whole w.0 k w.1 (not_hole w.0 k w.2) (holds w.0 k w.1 l w.2);
    leaves = ((λ x. anti_starts (colours h) ∙ (sends.leaves h ih).0 (o.leaves.0 x)), (λ x. o.leaves.1 ((sends.leaves h ih).1 (sym (anti_starts (colours h)) ∙ x))));
    enters = ((λ x. anti_ends (colours h) ∙ (sends.arrives h ih).0 (o.enters.0 x)), (λ x. o.enters.1 ((sends.arrives h ih).1 (sym (anti_ends (colours h)) ∙ x))));
  }

pub partials_fit : PartialsFit
partials_fit q c h colours behind sends are = fits_of q c h colours behind sends are

pub joined_partial_fits : JoinedPartialFits
joined_partial_fits q c h colours behind all p sends are ih whole o = of_joined q c h colours behind sends are all p ih whole o
