-- The edges above nodes by the numbers of sets.
use Rattle.std.proofs.Common.{◌≡◌, ℕ, ◌≤◌, Bool, true, false, cond, not, ltb, ◌&&◌, refl, ap, sym, subst, ◌∙◌, arith}
use Rattle.std.specs.Prelude.{if◌then◌else◌}
use Rattle.std.proofs.lemmas.Bool.Decides.{nat_tests}
use mathlib.Core.Path.{fun_ext}
use Rattle.om_legs.specs.Legs as sets
use Rattle.om_model.specs.Diagram.{times_in, field_of}
use Rattle.om_model.specs.Event.{members}
use Rattle.om_model.specs.FermionLines.{Kinds}
use Rattle.om_model.specs.LegSets.{leg_set}
use Rattle.om_model.specs.ModelLines.{kinds_of}
use Rattle.om_model.specs.Parts.{within, others, holds}
use Rattle.om_model.specs.Propagator.{EdgeName, set_number}
use Rattle.om_model.specs.Spelled.{IsSubtree}
use Rattle.om_model.specs.Tree.{Tree, legs}
use Rattle.om_model.proofs.LegSets.{has_leg_set, same_set_number}
use Rattle.om_graph.specs.declared.Key.{Key}
use Rattle.om_graph.specs.Reactions.{reaction_of}
use Rattle.om_graph.specs.TreeKeys.{IsReaction, key_of}
use Rattle.om_graph.specs.Vertices.{Reaction}
use Rattle.om_graph.proofs.HaveReactions.{well_formed_have_reactions}
use Rattle.om_graph.proofs.KeysOfSides.{side_of}
use Rattle.om_keystone.specs.EdgeRules.{name_of}
use Rattle.om_keystone.specs.NodeWaves.{part_of}
use Rattle.om_keystone.specs.Laws.{NodesHaveNames}
use Rattle.om_keystone.specs.NodeNames.{IsNamed}

module _ (r : Reaction) (kinds : Kinds) (is : IsReaction r kinds) (t : Tree) (y : IsSubtree r.scattering t) where
  abbrev n : ℕ
  n = r.scattering.size

  held_within : (k : ℕ) → holds t k ≡ true → within n k ≡ true
  unfolding holds
  held_within k e = by (within n k) (times_in k (legs t)) (y.once k) e
    where
      by : (b : Bool) (m : ℕ) → m ≤ cond b 1 0 → ltb 0 m ≡ true → b ≡ true
      by true m l e = refl
      by false m l e = absurd (grind (arith, nat_tests))

  held_is : sets.holds (leg_set t) ≡ holds t
  held_is = fun_ext (has_leg_set r.scattering is.most t y).held

  others_are : others n (sets.holds (leg_set t)) ≡ sets.holds (sets.complement (leg_set t) n)
  others_are = ap (others n) held_is ∙ fun_ext (λ k. sym ((has_leg_set r.scattering is.most t y).upward k))

  -- a test that only legs 1 to n pass
  inner_test : (f : ℕ → Bool) → ((k : ℕ) → f k ≡ true → within n k ≡ true) → (k : ℕ) → (within n k && f k) ≡ f k
  inner_test f h k = by (within n k) (f k) (h k)
    where
      by : (a b : Bool) → (b ≡ true → a ≡ true) → (a && b) ≡ b
      by true b h = refl
      by false true h = h refl
      by false false h = refl

  own_number : set_number (members n (sets.holds (leg_set t))) ≡ leg_set t
  own_number =
      ap (λ f. set_number (members n f)) held_is
      ∙ same_set_number n (holds t) is.most
      ∙ ap sets.set_of (fun_ext (inner_test (holds t) held_within))

  other_number : set_number (members n (sets.holds (sets.complement (leg_set t) n))) ≡ sets.complement (leg_set t) n
  unfolding others
  other_number =
      ap (λ f. set_number (members n f)) (sym others_are ∙ ap (others n) held_is)
      ∙ same_set_number n (others n (holds t)) is.most
      ∙ ap sets.set_of (fun_ext (inner_test (others n (holds t)) (λ k e. first (within n k) (not (holds t k)) e)))
      ∙ (has_leg_set r.scattering is.most t y).above
    where
      first : (a b : Bool) → (a && b) ≡ true → a ≡ true
      first true b e = refl
      first false b e = e

  members_of_side : (b : Bool) → (let name : EdgeName = cond b
      (record { legs = members n (others n (sets.holds (leg_set t))); field = r.scattering.theory.anti (field_of r.scattering t) })
      (record { legs = members n (sets.holds (leg_set t)); field = field_of r.scattering t }) in
      (name.legs ≡ members n (sets.holds (if b then sets.complement (leg_set t) n else leg_set t)))
      × (set_number name.legs ≡ if b then sets.complement (leg_set t) n else leg_set t)
      × (name.field ≡ if b then r.scattering.theory.anti (field_of r.scattering t) else field_of r.scattering t))
  members_of_side true = (ap (members n) others_are, ap (λ f. set_number (members n f)) others_are ∙ other_number, refl)
  members_of_side false = (refl, own_number, refl)

  named : IsNamed r.scattering (key_of r t) (name_of r.scattering (part_of (key_of r t)))
  unfolding name_of
  named = let side = members_of_side (sets.holds (leg_set t) 1) in record { legs = side.0; number = side.1; field = side.2 }

pub nodes_have_names : NodesHaveNames
nodes_have_names m p formed is g canonical k i =
    let r = reaction_of m p in
    let reaction = well_formed_have_reactions m p formed is in
    let edge = (canonical.graph.nodes k).0 i in
    let side = side_of r (kinds_of m.particles) reaction edge.0 k edge.2 in
    subst (λ (j : Key). IsNamed r.scattering j (name_of r.scattering (part_of j))) (sym side.1) (named r (kinds_of m.particles) reaction edge.0 side.0.subtree)
