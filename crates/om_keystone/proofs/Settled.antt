-- What a vertex asks is settled by the keys that meet there, and branches stand before their node.
use Rattle.std.proofs.Common.{◌≡◌, ℕ, ◌<◌, ◌≤◌, List, length, Bool, true, false, cond, ltb, eqb, refl, ap, sym, ◌∙◌, arith}
use Rattle.std.proofs.lemmas.Bool.Decides.{nat_tests}
use Rattle.om_legs.specs.Legs as sets
use Rattle.om_legs.specs.Splits.{IsSplit}
use Rattle.om_legs.proofs.Bits.{bit, same_sets}
use Rattle.om_legs.proofs.Operations.{holds-set_of_one}
use Rattle.om_colour.specs.Partials.{joined}
use Rattle.om_model.specs.Order.{numbers_lt}
use Rattle.om_model.specs.Tree.{legs}
use Rattle.om_model.specs.Tree.Tree.{leaf}
use Rattle.om_model.specs.FermionLines.{Kinds}
use Rattle.om_model.proofs.LegSets.{has_leg_set, leg_set_of_leaf}
use Rattle.om_graph.specs.declared.Graph.{Graph}
use Rattle.om_graph.specs.declared.Key.{Key}
use Rattle.om_graph.proofs.SetNodes.{number_of}
use Rattle.om_keystone.proofs.Reaching.{IsSettled}
use Rattle.om_keystone.specs.CanonicalGraph.{HasSigns}
use Rattle.om_keystone.proofs.Reaching.{BranchesFirst}
use Rattle.om_graph.specs.Vertices.{Reaction, Fuses, fusion, sets_of, fused_slots, slot_partials, hole_of, fused_minus, closed_minus}
use Rattle.om_graph.specs.Possible.{key_lt, IsPossible}
use Rattle.om_graph.specs.TreeKeys.{IsReaction}
use Rattle.om_graph.proofs.KeysOfSides.{leg_subtree}
use Rattle.om_graph.proofs.PartSizes.{fused_part, fused_some}

bit_same : (a b : Bool) → bit a ≡ bit b → a ≡ b
bit_same true true e = refl
bit_same false false e = refl
bit_same true false e = absurd (omega (arith, e))
bit_same false true e = absurd (omega (arith, e))

same_split : (c a b : ℕ) (parts : List ℕ) → IsSplit c a parts → IsSplit c b parts → a ≡ b
same_split c a b parts h g = same_sets a b (λ leg. bit_same (sets.holds a leg) (sets.holds b leg) (sym (h.shared leg) ∙ g.shared leg))

module _ (r : Reaction) where
  fused_once : (f v c : ℕ) (ks : List Key) (j k : Key) → Fuses r f v c ks j → Fuses r f v c ks k → j ≡ k
  fused_once f v c ks j k h g = by j k (same_split (length ks) j.legs k.legs (sets_of ks) h.split g.split) (h.has_field ∙ sym g.has_field)
      (h.partial ∙ ap (λ x. let slots = fused_slots r f v x ks in joined (slot_partials slots) (r.choice v c) (hole_of slots)) (same_split (length ks) j.legs k.legs (sets_of ks) h.split g.split) ∙ sym g.partial)
    where
      by : (j k : Key) → j.legs ≡ k.legs → j.field ≡ k.field → j.partial ≡ k.partial → j ≡ k
      by j k a b c = rw (a, b, c) refl

  pub branches_first : BranchesFirst (fusion r) key_lt
  unfolding key_lt numbers_lt
  branches_first f v c ks k b h i = by (sets.size b.legs) (sets.size k.legs) _ (fused_part r f v c ks k b h i)
    where
      by : (x y : ℕ) (z : Bool) → x < y → cond (ltb x y) true z ≡ true
      by x y z l = let e : ltb x y ≡ true = grind (arith, nat_tests) in rw e refl

  -- the signs of the possible graph
  pub has_signs : (g : Graph) → IsPossible r g → HasSigns (λ v (k : Key) ks. fused_minus r k.field v k.legs ks) (closed_minus r) g
  has_signs g h = record {
    signs = λ x k ks i e f. let n = number_of x g.terms i in h.signs n.0 x k ks n.1 e f;
    key_signs = λ y ks i f. let n = number_of y g.keys i in h.key_signs n.0 y ks n.1 f;
  }

  module _ (kinds : Kinds) (is : IsReaction r kinds) where
    one_leg : (j : ℕ) → 1 ≤ j → j ≤ r.scattering.size → sets.size (sets.set_of_one j) ≡ 1
    unfolding legs
    one_leg j l m = ap sets.size (sym (leg_set_of_leaf j)) ∙ (has_leg_set r.scattering is.most (leaf j) (leg_subtree r kinds is j l m)).counted

    differ : (i j : ℕ) → 1 ≤ i → i ≤ r.scattering.size → 1 ≤ j → j ≤ r.scattering.size → sets.set_of_one i ≡ sets.set_of_one j → i ≡ j
    differ i j a b c d e =
        let m = is.most in
        by i j (sym (holds-set_of_one i i a (omega arith)) ∙ ap (λ x. sets.holds x i) e ∙ holds-set_of_one j i c (omega arith))
      where
        by : (i j : ℕ) → eqb i i ≡ eqb i j → i ≡ j
        by i j e = grind (arith, nat_tests)

    pub is_settled : IsSettled (fusion r) (λ (k : Key). sets.size k.legs)
    is_settled = record {
      has_field = λ f v c ks k h. h.has_field;
      fuse_once = fused_once;
      leg_rank = one_leg;
      fused_rank = fused_some r;
      rises = fused_part r;
      legs_differ = λ i j a b c d e. differ i j a b c d (ap (λ (k : Key). k.legs) e);
    }
