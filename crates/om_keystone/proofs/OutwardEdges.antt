-- The nodes, terms, keystone terms and flows of the canonical graph, in the words of diagrams.
use Rattle.std.proofs.Common.{◌≡◌, List, true, inl, inr, refl, ap, sym, subst, ◌∙◌}
use Rattle.om_colour.specs.declared.Flow.{Flow}
use Rattle.om_model.specs.Theory.{Scattering}
use Rattle.om_model.specs.Tree.{Tree, Branches}
use Rattle.om_model.specs.Tree.Tree.{leaf, join}
use Rattle.om_model.specs.Tree.Branches.{none, and}
use Rattle.om_model.specs.Diagrams.{counts}
use Rattle.om_model.specs.Opened.{Opened, opened_at_top}
use Rattle.om_model.specs.Hung.{hung}
use Rattle.om_model.specs.FermionLines.{Kinds}
use Rattle.om_model.specs.ColourLines.{flow_at}
use Rattle.om_model.specs.KeystoneForm.{IsKeystoneForm}
use Rattle.om_model.specs.Outward.{OutwardEdge, IsOutwardEdge}
use Rattle.om_model.proofs.KeystoneForms.{one_keystone_form}
use Rattle.om_model.proofs.HungLaws.{opened_has_flow}
use Rattle.om_graph.specs.declared.Key.{Key}
use Rattle.om_graph.specs.Fusion.{HasKey, HaveKeys}
use Rattle.om_keystone.proofs.Standing.{Stands, Within, stood}
use Rattle.om_keystone.specs.InDiagrams.{IsOpened, IsOutward, IsFlowMet}
use Rattle.om_keystone.proofs.Forms.{IsForm}
use Rattle.om_graph.specs.Vertices.{Reaction, fusion}
use Rattle.om_graph.specs.TreeKeys.{colours_in, IsReaction, key_of}
use Rattle.om_model.specs.ModelLines.{kinds_of}
use Rattle.om_graph.specs.Reactions.{reaction_of}
use Rattle.om_graph.proofs.HaveReactions.{well_formed_have_reactions}
use Rattle.om_graph.specs.declared.Graph.{Graph}
use Rattle.om_graph.specs.Graph.{Numbered}
use Rattle.om_keystone.specs.CanonicalGraph.{IsMetAt, IsKeyMetAt}
use Rattle.om_keystone.specs.Laws.{NodesAreEdges, FlowsAreTheirs, TermsAreVertices, KeysAreKeystones}
use Rattle.om_keystone.specs.VertexTerms.{edge_of, IsVertexOf, IsKeystoneOf}
use Rattle.std.specs.Prelude.{Some}
use Rattle.om_graph.proofs.KeysOfSides.{side_of, sides_of}
use Rattle.om_keystone.proofs.FormsOpened.{counts_diagram}
use Rattle.om_keystone.proofs.ClosingForms.{forms_of, closes_of}

module _ (r : Reaction) (kinds : Kinds) (is : IsReaction r kinds) where
  abbrev s : Scattering
  s = r.scattering

  -- what stands in branches with keys has one
  mutual
    unfolding HasKey

    key_there : (t : Tree) (bs : Branches) (ks : List Key) → HaveKeys (fusion r) bs ks → Stands t bs → (k : Key) × HasKey (fusion r) t k
    key_there t none ks h i = absurd i
    key_there t (and u bs) ks h (inl e) = (h.0, subst (λ x. HasKey (fusion r) x h.0) (sym e) h.2)
    key_there t (and u bs) ks h (inr (inl i)) = key_within t u h.0 h.2 i
    key_there t (and u bs) ks h (inr (inr i)) = key_there t bs h.1 h.3 i

    key_within : (t u : Tree) (k : Key) → HasKey (fusion r) u k → Within t u → (k : Key) × HasKey (fusion r) t k
    key_within t (leaf j) k h i = absurd i
    key_within t (join f v c bs) k h i = key_there t bs h.0 h.1 i

  same_key : (j k : Key) → edge_of j ≡ edge_of k → j ≡ k
  same_key j k e = ap (λ (x : OutwardEdge). record { legs = x.legs; field = x.field; partial = x.flow }) e

  edge_is : (k : Key) → IsOutward (fusion r) k → (t : Tree) × (counts s t ≡ true) × IsOutwardEdge s (colours_in r) t (edge_of k)
  edge_is k h =
      let t = h.0 in
      let a = h.1.diagram in
      let f = (forms_of r kinds is a h.1.flow h.1.opened).0 in (
        hung s a,
        f.counted,
        record {
          form = a;
          side = t;
          is_form = record { opened = f.opened; keystone = f.keystone; hangs = refl };
          is_side = h.1.hangs;
          is = ap edge_of (side_of r kinds is t k h.2).1;
        },
      )

  pub form_of : (a : Opened) (t : Tree) → counts s t ≡ true → IsKeystoneForm s t a → IsForm s a
  form_of a t c f = record { opened = f.opened; keystone = f.keystone; counted = subst (λ x. counts s x ≡ true) (sym f.hangs) c }

  node_is : (k : Key) (t : Tree) → counts s t ≡ true → IsOutwardEdge s (colours_in r) t (edge_of k) → IsOutward (fusion r) k
  node_is k t c e =
      let a = e.form in
      let o = closes_of r kinds is a (form_of a t c e.is_form) in
      let st = stood e.side a.parts e.is_side in
      let j = key_there e.side a.parts o.keys o.have st in
      let q = same_key k (key_of r e.side) e.is in
      (e.side, record { diagram = a; flow = flow_at s (colours_in r) a; opened = o; hangs = e.is_side }, subst (HasKey (fusion r) e.side) ((side_of r kinds is e.side j.0 j.1).1 ∙ sym q) j.1)

  flow_is : (w : Flow) → IsFlowMet (fusion r) w → (t : Tree) × (counts s t ≡ true) × (w ≡ flow_at s (colours_in r) (opened_at_top s t))
  flow_is w h =
      let f = forms_of r kinds is h.0 w h.1 in
      (hung s h.0, f.0.counted, f.1 ∙ opened_has_flow s (colours_in r) is.colours h.0 f.0.opened)

  met_is : (w : Flow) (t : Tree) → counts s t ≡ true → w ≡ flow_at s (colours_in r) (opened_at_top s t) → IsFlowMet (fusion r) w
  met_is w t c e =
      let f = one_keystone_form s is.fields t (counts_diagram s t c) in
      let o = closes_of r kinds is f.0 (form_of f.0 t c f.1) in
      let q : flow_at s (colours_in r) f.0 ≡ w = opened_has_flow s (colours_in r) is.colours f.0 f.1.opened ∙ ap (λ x. flow_at s (colours_in r) (opened_at_top s x)) f.1.hangs ∙ sym e in
      (f.0, subst (IsOpened (fusion r) f.0) q o)

  -- a vertex of a diagram other than its keystone, by the keys of what meets there
  module _ (g : Graph) where
    vertex_is : (x : Numbered) → IsMetAt (fusion r) g.nodes x → IsVertexOf r g x
    unfolding HasKey
    vertex_is x h =
        let met = h.met in
        let a = met.in_diagram.diagram in
        let f = (forms_of r kinds is a met.in_diagram.flow met.in_diagram.opened).0 in
        let t : Tree = join met.field x.vertex x.choice met.branches in
        let key = (side_of r kinds is t h.node (h.branches, met.have, met.fuse)).1 in
        let keys = (sides_of r kinds is met.branches h.branches met.have).1 in
        record {
          diagram = hung s a;
          form = a;
          field = met.field;
          branches = met.branches;
          counted = f.counted;
          is_form = record { opened = f.opened; keystone = f.keystone; hangs = refl };
          hangs = met.in_diagram.hangs;
          node = h.is_node ∙ ap Some key;
          are_branches = h.are_branches ∙ ap Some keys;
        }

    vertex_met : (x : Numbered) → IsVertexOf r g x → IsMetAt (fusion r) g.nodes x
    unfolding HasKey
    vertex_met x v =
        let a = v.form in
        let o = closes_of r kinds is a (form_of a v.diagram v.counted v.is_form) in
        let t : Tree = join v.field x.vertex x.choice v.branches in
        let j = key_there t a.parts o.keys o.have (stood t a.parts v.hangs) in
        let key = (side_of r kinds is t j.0 j.1).1 in
        let keys = (sides_of r kinds is v.branches j.1.0 j.1.1).1 in
        record {
          node = j.0;
          branches = j.1.0;
          is_node = v.node ∙ ap Some (sym key);
          are_branches = v.are_branches ∙ ap Some (sym keys);
          met = record {
            field = v.field;
            branches = v.branches;
            in_diagram = record { diagram = a; flow = flow_at s (colours_in r) a; opened = o; hangs = v.hangs };
            have = j.1.1;
            fuse = j.1.2;
          };
        }

    keystone_is : (y : Numbered) → IsKeyMetAt (fusion r) g.nodes g.flows y → IsKeystoneOf r g y
    keystone_is y h =
        let a : Opened = record { vertex = y.vertex; choice = y.choice; parts = h.met.branches } in
        let f = forms_of r kinds is a h.flow (record { keys = h.branches; have = h.met.have; close = h.met.close }) in
        let keys = (sides_of r kinds is h.met.branches h.branches h.met.have).1 in
        record {
          diagram = hung s a;
          form = a;
          counted = f.0.counted;
          is_form = record { opened = f.0.opened; keystone = f.0.keystone; hangs = refl };
          vertex = refl;
          choice = refl;
          flow = h.is_flow ∙ ap Some f.1;
          are_branches = h.are_branches ∙ ap Some keys;
        }

    keystone_met : (y : Numbered) → IsKeystoneOf r g y → IsKeyMetAt (fusion r) g.nodes g.flows y
    keystone_met y v =
        let a = v.form in
        let o = closes_of r kinds is a (form_of a v.diagram v.counted v.is_form) in
        let keys = (sides_of r kinds is a.parts o.keys o.have).1 in
        record {
          flow = flow_at s (colours_in r) a;
          branches = o.keys;
          is_flow = v.flow;
          are_branches = v.are_branches ∙ ap Some (sym keys);
          met = record { branches = a.parts; have = o.have; close = subst (λ c. (fusion r).closes y.vertex c o.keys (flow_at s (colours_in r) a)) (sym v.choice) (subst (λ d. (fusion r).closes d a.choice o.keys (flow_at s (colours_in r) a)) (sym v.vertex) o.close) };
        }

pub nodes_are_edges : NodesAreEdges
nodes_are_edges m p formed is g canonical k =
    let r = reaction_of m p in
    let reaction = well_formed_have_reactions m p formed is in
    let met = canonical.graph.nodes k in
    ((λ h. edge_is r (kinds_of m.particles) reaction k (met.0 h)), (λ h. met.1 (node_is r (kinds_of m.particles) reaction k h.0 h.1 h.2)))

pub flows_are_theirs : FlowsAreTheirs
flows_are_theirs m p formed is g canonical w =
    let r = reaction_of m p in
    let reaction = well_formed_have_reactions m p formed is in
    let met = canonical.graph.flows w in
    ((λ h. flow_is r (kinds_of m.particles) reaction w (met.0 h)), (λ h. met.1 (met_is r (kinds_of m.particles) reaction w h.0 h.1 h.2)))

pub terms_are_vertices : TermsAreVertices
terms_are_vertices m p formed is g canonical x =
    let r = reaction_of m p in
    let reaction = well_formed_have_reactions m p formed is in
    let met = canonical.graph.terms x in
    ((λ h. vertex_is r (kinds_of m.particles) reaction g x (met.0 h)), (λ h. met.1 (vertex_met r (kinds_of m.particles) reaction g x h)))

pub keys_are_keystones : KeysAreKeystones
keys_are_keystones m p formed is g canonical y =
    let r = reaction_of m p in
    let reaction = well_formed_have_reactions m p formed is in
    let met = canonical.graph.keys y in
    ((λ h. keystone_is r (kinds_of m.particles) reaction g y (met.0 h)), (λ h. met.1 (keystone_met r (kinds_of m.particles) reaction g y h)))
