-- The sign of a diagram is the product of the signs of its terms.
use Rattle.std.proofs.Common.{◌≡◌, List, true, refl, ap, ap₂, sym, ◌∙◌}
use Rattle.om_model.specs.Tree.{Tree, Branches}
use Rattle.om_model.specs.Tree.Tree.{leaf, join}
use Rattle.om_model.specs.Tree.Branches.{none, and}
use Rattle.om_model.specs.Diagram.{field_of}
use Rattle.om_model.specs.Diagrams.{counts}
use Rattle.om_model.specs.FermionLines.{Kinds, signs_in}
use Rattle.om_model.specs.Inversions.{xor}
use Rattle.om_model.specs.KeystoneForm.{IsKeystoneForm}
use Rattle.om_model.specs.ModelLines.{kinds_of, lines_by}
use Rattle.om_model.specs.Opened.{Opened}
use Rattle.om_model.proofs.HungLaws.{opened_has_sign}
use Rattle.om_graph.specs.declared.Key.{Key}
use Rattle.om_graph.specs.Fusion.{HasKey, HaveKeys}
use Rattle.om_graph.specs.Reactions.{reaction_of}
use Rattle.om_graph.specs.TreeKeys.{colours_in, IsReaction, keys_of}
use Rattle.om_graph.specs.Vertices.{Reaction, fusion, fused_minus, closed_minus}
use Rattle.om_graph.proofs.HaveReactions.{well_formed_have_reactions}
use Rattle.om_graph.proofs.KeysOfSides.{side_of, sides_of}
use Rattle.om_keystone.specs.TermSigns.{is_odd_in, is_odd_below, SignsOfTermsMultiply}
use Rattle.om_keystone.proofs.ClosingForms.{closes_of}
use Rattle.om_keystone.proofs.FormsOpened.{signs_all_are}
use Rattle.om_keystone.proofs.ModelRules.{odd_all}
use Rattle.om_keystone.proofs.OutwardEdges.{form_of}
use Rattle.om_keystone.proofs.Telling.{join_sign, keystone_sign_is}

module _ (r : Reaction) (kinds : Kinds) (is : IsReaction r kinds) where
  mutual
    unfolding HasKey is_odd_in field_of signs_in odd_all

    tree_sign : (t : Tree) (k : Key) → HasKey (fusion r) t k → signs_in r.scattering kinds t ≡ is_odd_in r t
    tree_sign (leaf j) k h = refl
    tree_sign (join f v c bs) k h =
        join_sign r kinds is f v c bs h.0 k h.1 h.2
        ∙ ap₂ xor
        (ap₂ (λ (j : Key) ks. fused_minus r j.field v j.legs ks) (side_of r kinds is (join f v c bs) k h).1 (sides_of r kinds is bs h.0 h.1).1)
        (branch_signs bs h.0 h.1)

    branch_signs : (bs : Branches) (ks : List Key) → HaveKeys (fusion r) bs ks → odd_all (signs_in r.scattering kinds) bs ≡ is_odd_below r bs
    branch_signs none ks h = refl
    branch_signs (and t bs) ks h = ap₂ xor (tree_sign t h.0 h.2) (branch_signs bs h.1 h.3)

  opened_sign : (t : Tree) → counts r.scattering t ≡ true → (a : Opened) → IsKeystoneForm r.scattering t a
      → (lines_by r.scattering kinds (colours_in r)).is_odd t ≡ xor (closed_minus r a.vertex (keys_of r a.parts)) (is_odd_below r a.parts)
  opened_sign t c a f =
      let o = closes_of r kinds is a (form_of r kinds is a t c f) in
      ap (λ u. (lines_by r.scattering kinds (colours_in r)).is_odd u) (sym f.hangs)
      ∙ sym (opened_has_sign r.scattering kinds is.lines a f.opened).1
      ∙ signs_all_are r.scattering kinds a.vertex a.parts
      ∙ ap₂ xor
      (keystone_sign_is r kinds is a _ o ∙ ap (closed_minus r a.vertex) (sides_of r kinds is a.parts o.keys o.have).1)
      (branch_signs a.parts o.keys o.have)

pub signs_of_terms_multiply : SignsOfTermsMultiply
signs_of_terms_multiply m p formed is t c a f = opened_sign (reaction_of m p) (kinds_of m.particles) (well_formed_have_reactions m p formed is) t c a f
