-- Keys tell the keystone forms.
use Rattle.std.proofs.Common.{◌≡◌, ℕ, List, ◌↔◌, refl, ap, ap₂, sym, subst, ◌∙◌}
use Rattle.om_ring.specs.Ops.{Ops, Laws}
use Rattle.om_legs.specs.Legs as sets
use Rattle.om_colour.specs.declared.Flow.{Flow}
use Rattle.om_model.specs.Theory.{Scattering}
use Rattle.om_model.specs.Order.{numbers_lt}
use Rattle.om_model.specs.Tree.{Tree, Branches, tree_lt}
use Rattle.om_model.specs.Tree.Tree.{join}
use Rattle.om_model.specs.Tree.Branches.{none, and}
use Rattle.om_model.specs.Diagram.{field_of}
use Rattle.om_model.specs.Diagrams.{AreDiagrams}
use Rattle.om_model.specs.Opened.{Opened}
use Rattle.om_model.specs.Hung.{hung}
use Rattle.om_model.specs.Event.{Event}
use Rattle.om_model.specs.FeynmanRules.{FeynmanRules}
use Rattle.om_model.specs.Answer.{Answer, IsAnswer}
use Rattle.om_model.specs.TwoSided.{IsTwoSided}
use Rattle.om_model.specs.Inversions.{xor}
use Rattle.om_model.specs.FermionLines.{Kinds, signs_in, signs_all, vertex_sign, branch_parts}
use Rattle.om_model.specs.ModelLines.{lines_by}
use Rattle.om_model.specs.ColourLines.{flow_at}
use Rattle.om_model.proofs.LegSets.{has_leg_set}
use Rattle.om_model.proofs.SpelledFacts.{opened_facts}
use Rattle.om_model.proofs.TreeOrder.{tree_order}
use Rattle.om_graph.specs.declared.Key.{Key}
use Rattle.om_graph.specs.Fusion.{HaveKeys}
use Rattle.om_keystone.specs.InDiagrams.{IsOpened}
use Rattle.om_keystone.specs.CanonicalGraph.{IsCanonicalGraph}
use Rattle.om_graph.specs.Graph.{Numbered}
use Rattle.om_keystone.proofs.ModelRules.{odd_all, AreSigns, ShowsParts, model_rules}
use Rattle.om_keystone.proofs.NumberedAnswer.{AreWavesAt, NumberedAnswers}
use Rattle.om_keystone.proofs.Forms.{TellsForms}
use Rattle.om_model.proofs.FormSums.{rising_different}
use Rattle.om_keystone.proofs.ByNumber.{numbered_answers}
use Rattle.om_keystone.proofs.FormsOpened.{are_opened_diagrams}
use Rattle.om_graph.specs.Vertices.{Reaction, Fuses, fusion, fused_minus, closed_minus}
use Rattle.om_graph.specs.Possible.{key_lt, flow_lt}
use Rattle.om_graph.specs.TreeKeys.{colours_in, IsReaction}
use Rattle.om_keystone.proofs.View.{key_view, flow_ends}
use Rattle.om_graph.proofs.Orders.{key_order, flow_order}
use Rattle.om_graph.proofs.KeysOfSides.{subtrees_of, join_side, side_of, sides_of}
use Rattle.om_keystone.proofs.ClosingForms.{forms_of, closes_of}
use Rattle.om_keystone.proofs.Settled.{is_settled}
use Rattle.om_keystone.proofs.KeySigns.{fused_sign, closed_sign}

module _ (r : Reaction) (kinds : Kinds) (is : IsReaction r kinds) where
  abbrev s : Scattering
  s = r.scattering

  shows : ShowsParts (fusion r) (key_view r) s
  shows t k h = let y = side_of r kinds is t k h in (has_leg_set s is.most t y.0.subtree).part_is ∙ ap (λ (k : Key). (key_view r).part k) (sym y.1)

  all_signs : (bs : Branches) → signs_all s kinds bs ≡ odd_all (signs_in s kinds) bs
  unfolding signs_all odd_all
  all_signs none = refl
  all_signs (and t bs) = ap (xor (signs_in s kinds t)) (all_signs bs)

  pub join_sign : (f v c : ℕ) (bs : Branches) (ks : List Key) (k : Key) → HaveKeys (fusion r) bs ks → Fuses r f v c ks k → signs_in s kinds (join f v c bs) ≡ xor (fused_minus r k.field v k.legs ks) (odd_all (signs_in s kinds) bs)
  unfolding signs_in field_of
  join_sign f v c bs ks k have fuse =
      let y = sides_of r kinds is bs ks have in
      let z = join_side r kinds is f v c bs k y.0 (subst (λ ks. Fuses r f v c ks k) y.1 fuse) in
      ap₂ xor
      (fused_sign r kinds is f v c bs z.0.subtree (subtrees_of r kinds is bs y.0)
      ∙ ap₂ (λ (k : Key) ks. fused_minus r k.field v k.legs ks) (sym z.1) (sym y.1))
      (all_signs bs)

  signs_are : AreSigns (fusion r) (key_view r) (signs_in s kinds)
  unfolding signs_in
  signs_are = record { at_leg = λ j. refl; at_join = join_sign }

  pub keystone_sign_is : (a : Opened) (u : Flow) (h : IsOpened (fusion r) a u) → vertex_sign s kinds a.vertex (branch_parts s kinds a.parts) ≡ closed_minus r a.vertex h.keys
  keystone_sign_is a u h =
      let y = sides_of r kinds is a.parts h.keys h.have in
      let f = forms_of r kinds is a u h in
      closed_sign r kinds is a.vertex a.parts (opened_facts s a.vertex a.choice a.parts f.0.opened).fields (subtrees_of r kinds is a.parts y.0)
      ∙ ap (closed_minus r a.vertex) (sym y.1)

  pub tells : TellsForms s kinds (colours_in r) (fusion r) (key_view r) flow_ends
  tells = record {
    is_form = λ a u h. (forms_of r kinds is a u h).0;
    is_flow = λ a u h. ap flow_ends (sym (forms_of r kinds is a u h).1);
    form_opened = λ a f. (flow_at s (colours_in r) a, closes_of r kinds is a f);
    parts = shows;
    signs = signs_are;
    keystone_sign = keystone_sign_is;
  }

  by_ends : (u v : Flow) → flow_lt u v ≡ numbers_lt (flow_ends u) (flow_ends v)
  unfolding flow_lt
  by_ends u v = refl

  -- the sums over the canonical graph are the sums over all diagrams
  module _ {E : Type 0} (o : Ops E) (l : Laws o) (rules : FeynmanRules E) (two : IsTwoSided o s.theory rules) (e : Event E)
      (ns : List Key) (ts ys : List Numbered) (ws : List Flow) (graph : IsCanonicalGraph (fusion r) key_lt flow_lt ns ts ys ws) (ds : List Tree) (are : AreDiagrams s ds) where
    pub graph_answers : (wave : ℕ → ℕ → E) → AreWavesAt o (model_rules o s rules e (key_view r)) ns (fusion r) ts wave → (a : Answer E)
        → NumberedAnswers o s rules e (fusion r) (key_view r) flow_ends ns ys ws wave a ↔ IsAnswer o s rules (lines_by s kinds (colours_in r)) e a
    graph_answers wave waves a =
        numbered_answers (fusion r) key_lt key_order flow_lt flow_order (λ (k : Key). sets.size k.legs) (is_settled r kinds is) ns ts ys ws graph o l s rules (lines_by s kinds (colours_in r)) e (key_view r) flow_ends by_ends
        shows (signs_in s kinds) signs_are (hung s) ds (rising_different tree_lt tree_order.irreflexive ds are.rising)
        (are_opened_diagrams o l s rules kinds (colours_in r) e is.fields two is.lines is.colours (fusion r) (key_view r) flow_ends tells ds are) are wave waves a
