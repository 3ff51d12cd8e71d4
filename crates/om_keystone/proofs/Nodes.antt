-- Legs and inner nodes by the number of their legs.
use Rattle.std.proofs.Common.{◌≡◌, ℕ, ◌≤◌, true, false, ap, sym, ◌∙◌, arith, true≢false}
use Rattle.std.proofs.lemmas.Bool.Decides.{nat_tests}
use Rattle.om_legs.specs.Legs as sets
use Rattle.om_model.specs.Tree.{Tree, legs}
use Rattle.om_model.specs.Tree.Tree.{leaf, join}
use Rattle.om_model.specs.Diagram.{least_of}
use Rattle.om_model.specs.FermionLines.{Kinds}
use Rattle.om_model.proofs.LegSets.{has_leg_set, leg_set_of_leaf}
use Rattle.om_graph.specs.declared.Key.{Key}
use Rattle.om_graph.specs.Fusion.{HasKey}
use Rattle.om_graph.specs.TreeKeys.{IsReaction}
use Rattle.om_graph.specs.Vertices.{Reaction, fusion}
use Rattle.om_graph.proofs.KeysOfSides.{leg_subtree}
use Rattle.om_keystone.specs.Built.{is_inner}
use Rattle.om_keystone.specs.InDiagrams.{IsOutward}
use Rattle.om_keystone.proofs.KeyedAnswer.{IsInner}
use Rattle.om_keystone.proofs.Settled.{is_settled}

module _ (r : Reaction) (kinds : Kinds) (is : IsReaction r kinds) where
  pub leg_is_leg : (j : ℕ) → 1 ≤ j → j ≤ r.scattering.size → is_inner ((fusion r).leg j) ≡ false
  leg_is_leg j low high = let one = (is_settled r kinds is).leg_rank j low high in grind (arith, nat_tests)

  inner_join : (t : Tree) (k : Key) → HasKey (fusion r) t k → IsInner (fusion r) k → is_inner k ≡ true
  unfolding HasKey
  inner_join (leaf j) k h inner = absurd (inner j h.0 h.1 h.2)
  inner_join (join f v c bs) k h inner = let many = (is_settled r kinds is).fused_rank f v c h.0 k h.2 in grind (arith, nat_tests)

  -- an outward edge that is no leg has two legs at least
  pub inner_is_inner : (k : Key) → IsOutward (fusion r) k → IsInner (fusion r) k → is_inner k ≡ true
  inner_is_inner k h inner = inner_join h.0 k h.2 inner

  -- and what has two legs at least is no leg
  pub leg_or_inner : (k : Key) → is_inner k ≡ true → IsInner (fusion r) k
  leg_or_inner k h j low high q = true≢false (sym h ∙ ap is_inner q ∙ leg_is_leg j low high)

  pub least_leg : (j : ℕ) → 1 ≤ j → j ≤ r.scattering.size → sets.least (sets.set_of_one j) ≡ j
  unfolding legs least_of
  least_leg j low high = ap sets.least (sym (leg_set_of_leaf j)) ∙ (has_leg_set r.scattering is.most (leaf j) (leg_subtree r kinds is j low high)).key
