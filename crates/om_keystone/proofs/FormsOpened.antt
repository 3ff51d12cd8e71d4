-- The diagrams, opened at their keystones, by the keystone forms.
use Rattle.std.proofs.Common.{◌≡◌, ℕ, List, map, true, ◌⊎◌, inl, inr, ⊎_elim, refl, ap, sym, subst, ◌∙◌}
use Rattle.std.proofs.lemmas.Bool.{and_parts}
use Rattle.om_ring.specs.Members.{In}
use Rattle.om_ring.specs.Ops.{Ops, Laws}
use Rattle.om_model.specs.Theory.{Scattering}
use Rattle.om_model.specs.Tree.{Tree, Branches}
use Rattle.om_model.specs.Tree.Tree.{leaf, join}
use Rattle.om_model.specs.Tree.Branches.{none, and}
use Rattle.om_model.specs.Diagram.{is_diagram, all_in}
use Rattle.om_model.specs.Diagrams.{counts, has_edge, AreDiagrams}
use Rattle.om_model.specs.Opened.{Opened}
use Rattle.om_model.specs.Event.{Event}
use Rattle.om_model.specs.FeynmanRules.{FeynmanRules}
use Rattle.om_model.specs.Propagator.{inner_edges, edges, edges_all, edge_name}
use Rattle.om_model.specs.Inversions.{xor}
use Rattle.om_model.specs.FermionLines.{Kinds, HasFermionLines, vertex_sign, branch_parts, signs_in, signs_all, signs_at}
use Rattle.om_colour.specs.declared.Flow.{Flow}
use Rattle.om_model.specs.ColourLines.{Colours, HasColourLines}
use Rattle.om_model.specs.ModelLines.{lines_by}
use Rattle.om_model.specs.TwoSided.{IsTwoSided}
use Rattle.om_model.specs.KeystoneForm.{HasFields, IsKeystoneForm}
use Rattle.om_model.specs.Hung.{hung}
use Rattle.om_ring.proofs.Members.{in_left, in_right, in_either, in_map, in_mapped}
use Rattle.om_model.proofs.KeystoneForms.{opened_is_diagram, one_keystone_form}
use Rattle.om_model.proofs.HungLaws.{opened_has_value, opened_has_sign, opened_has_flow}
use Rattle.om_model.proofs.FormSums.{opened_has_names}
use Rattle.om_graph.specs.Fusion.{Fusion}
use Rattle.om_keystone.specs.InDiagrams.{IsOpened}
use Rattle.om_keystone.proofs.Standing.{Stands, Within}
use Rattle.om_keystone.proofs.ModelRules.{KeyView, odd_all, IsJoin, AreOpenedDiagrams}
use Rattle.om_keystone.proofs.ModelRules.IsJoin.{is_join}
use Rattle.om_keystone.proofs.Forms.{TellsForms}

own_edge : (u : Tree) → IsJoin u → In u (edges u)
unfolding edges
own_edge (join f v c bs) j = inl refl
own_edge (leaf k) j = elim j [ ]

-- the inner edges of what hangs from a vertex are the joins that stand there
mutual
  unfolding edges

  stands_edge : (u : Tree) (bs : Branches) → IsJoin u → Stands u bs → In u (edges_all bs)
  stands_edge u none j i = absurd i
  stands_edge u (and t bs) j (inl e) = in_left u (edges t) (edges_all bs) (subst (λ x. In u (edges x)) e (own_edge u j))
  stands_edge u (and t bs) j (inr (inl i)) = in_left u (edges t) (edges_all bs) (within_edge u t j i)
  stands_edge u (and t bs) j (inr (inr i)) = in_right u (edges t) (edges_all bs) (stands_edge u bs j i)

  within_edge : (u t : Tree) → IsJoin u → Within u t → In u (edges t)
  within_edge u (leaf k) j i = absurd i
  within_edge u (join f v c bs) j i = inr (stands_edge u bs j i)

mutual
  unfolding edges

  edge_stands : (u : Tree) (bs : Branches) → In u (edges_all bs) → Stands u bs × IsJoin u
  edge_stands u none i = absurd i
  edge_stands u (and t bs) i = ⊎_elim
      (λ a. let r = edge_within u t a in (⊎_elim (λ e. inl e) (λ w. inr (inl w)) r.0, r.1))
      (λ a. let r = edge_stands u bs a in (inr (inr r.0), r.1))
      (in_either u (edges t) (edges_all bs) i)

  edge_within : (u t : Tree) → In u (edges t) → ((u ≡ t) ⊎ Within u t) × IsJoin u
  edge_within u (leaf k) i = absurd i
  edge_within u (join f v c bs) (inl e) = (inl e, subst IsJoin (sym e) is_join)
  edge_within u (join f v c bs) (inr i) = let r = edge_stands u bs i in (inr r.0, r.1)

pub counts_diagram : (s : Scattering) (t : Tree) → counts s t ≡ true → is_diagram s t ≡ true
unfolding counts
counts_diagram s t h = (and_parts (is_diagram s t) (all_in (λ set. has_edge s set t) s.edges) h).0

pub signs_all_are : (s : Scattering) (kinds : Kinds) (v : ℕ) (bs : Branches) → signs_at s kinds v bs ≡ xor (vertex_sign s kinds v (branch_parts s kinds bs)) (odd_all (signs_in s kinds) bs)
unfolding signs_at signs_in odd_all
signs_all_are s kinds v bs = ap (xor (vertex_sign s kinds v (branch_parts s kinds bs))) (all bs)
  where
    all : (bs : Branches) → signs_all s kinds bs ≡ odd_all (signs_in s kinds) bs
    all none = refl
    all (and t bs) = ap (xor (signs_in s kinds t)) (all bs)

module _ {E K F : Type 0} (o : Ops E) (l : Laws o) (s : Scattering) (r : FeynmanRules E) (kinds : Kinds) (w : Colours) (e : Event E) (fields : HasFields s.theory) (two : IsTwoSided o s.theory r) (fermions : HasFermionLines s.theory kinds) (colours : HasColourLines s.theory w)
    (p : Fusion K F) (view : KeyView K) (ends : F → List ℕ) (tells : TellsForms s kinds w p view ends) (ts : List Tree) (are : AreDiagrams s ts) where
  is_keystone_form : (a : Opened) (u : F) → IsOpened p a u → (t : Tree) → hung s a ≡ t → IsKeystoneForm s t a
  is_keystone_form a u h t q = let f = tells.is_form a u h in record { opened = f.opened; keystone = f.keystone; hangs = q }

  pub are_opened_diagrams : AreOpenedDiagrams o s r (lines_by s kinds w) e p view ends (signs_in s kinds) (hung s) ts
  are_opened_diagrams = record {
    is_diagram = λ a u h. (are.members (hung s a)).1 (tells.is_form a u h).counted;
    has_keystone = λ t i.
        let c = (are.members t).0 i in
        let f = one_keystone_form s fields t (counts_diagram s t c) in
        let g = tells.form_opened f.0 (record { opened = f.1.opened; keystone = f.1.keystone; counted = subst (λ x. counts s x ≡ true) (sym f.1.hangs) c }) in
        (f.0, g.0, g.1, f.1.hangs);
    one_keystone = λ a b u v h g q.
        let f = one_keystone_form s fields (hung s a) (opened_is_diagram s fields a (tells.is_form a u h).opened) in
        f.2 a (is_keystone_form a u h (hung s a) refl) ∙ sym (f.2 b (is_keystone_form b v g (hung s a) (sym q)));
    value = λ a u h balanced. sym (opened_has_value o l s r e two balanced a (tells.is_form a u h).opened);
    sign = λ a u h.
        sym (opened_has_sign s kinds fermions a (tells.is_form a u h).opened).1 ∙ signs_all_are s kinds a.vertex a.parts
        ∙ ap (λ b. xor b (odd_all (signs_in s kinds) a.parts)) (tells.keystone_sign a u h);
    flow = λ a u h. ap (λ (x : Flow). x.ends) (sym (opened_has_flow s w colours a (tells.is_form a u h).opened)) ∙ tells.is_flow a u h;
    edges = λ a u h name.
        let n = opened_has_names s fields.anti_anti a (tells.is_form a u h).opened name in (
          (λ g. let i = in_mapped (edge_name s) name (edges_all a.parts) (n.0 (subst (λ x. In x (map (edge_name s) (inner_edges (hung s a)))) (sym g.2) (in_map (edge_name s) g.0 (inner_edges (hung s a)) g.1))) in
              let b = edge_stands i.0 a.parts i.1 in (i.0, b.0, b.1, i.2)),
          (λ g. in_mapped (edge_name s) name (inner_edges (hung s a)) (n.1 (subst (λ x. In x (map (edge_name s) (edges_all a.parts))) (sym g.3) (in_map (edge_name s) g.0 (edges_all a.parts) (stands_edge g.0 a.parts g.2 g.1))))),
        );
  }
