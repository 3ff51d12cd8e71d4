-- The flows of the code of a canonical graph, and codes without any.
use Rattle.std.proofs.Common.{◌≡◌, ℕ, List, [], ◌∷◌, ◌++◌, length, map, true, inl, Some, None, refl, ap, sym, subst, ◌∙◌}
use Rattle.std.specs.Prelude.{slice_get}
use Rattle.om_ring.specs.Members.{In}
use Rattle.om_colour.specs.declared.Flow.{Flow}
use Rattle.om_model.specs.declared.model.Model.{Model}
use Rattle.om_model.specs.declared.process.Process.{Process}
use Rattle.om_model.specs.ColourLines.{flow_at}
use Rattle.om_model.specs.Diagrams.{AreDiagrams, counts}
use Rattle.om_model.specs.Model.{anti_field, scattering_of}
use Rattle.om_model.specs.ModelLines.{colours_of, lines_of}
use Rattle.om_model.specs.Opened.{opened_at_top}
use Rattle.om_model.specs.Order.{numbers_lt, rising_of}
use Rattle.om_model.specs.ProcessOf.{IsProcessOf}
use Rattle.om_model.specs.Tree.{Tree}
use Rattle.om_model.specs.WellFormed.{IsWellFormed}
use Rattle.om_model.proofs.Rising.{in_rising_of, numbers_order, rising_of_rising, rising_unique}
use Rattle.om_graph.specs.declared.Graph.{Graph}
use Rattle.om_graph.specs.declared.Key.{Key}
use Rattle.om_graph.specs.Possible.{flow_lt, unsigned_key}
use Rattle.om_graph.specs.Reactions.{reaction_of}
use Rattle.om_ring.proofs.Members.{in_map, in_mapped}
use Rattle.om_keystone.specs.CanonicalGraph.{IsCanonicalOf}
use Rattle.om_keystone.proofs.Numbers.{rising_mapped}
use Rattle.om_keystone.proofs.OutwardEdges.{flows_are_theirs, nodes_are_edges}
use Rattle.om_code.specs.declared.code.Code.{Code}
use Rattle.om_code.specs.Ops.{named_in, op_of, placed_op}
use Rattle.om_code.specs.SlotPlans.{first_fit, slots_used}
use Rattle.om_emit.specs.EmittedAnswer.{EmittedFlowsAreTheirs, HasNoLines, NoDiagramNoFlow}
use Rattle.om_emit.specs.GraphCode.{IsCodeOf, den_place, dens_of, key_op, nodes_ops, register_lines, register_ops}

none_in : {A : Type 0} (xs : List A) → ((x : A) → In x xs → ⊥) → xs ≡ []
none_in [] h = refl
none_in (x ∷ xs) h = absurd (h x (inl refl))

none_mapped : {A B : Type 0} (f : A → B) (xs : List A) → map f xs ≡ [] → xs ≡ []
none_mapped f [] e = refl
none_mapped f (x ∷ xs) e = absurd (let never : ⊥ = cc in never)

pub emitted_flows_are_theirs : EmittedFlowsAreTheirs
unfolding flow_lt
emitted_flows_are_theirs m p formed of g canonical c code ts are =
    let s = scattering_of m p in
    let flow : Tree → List ℕ = (lines_of m p).flow in
    let theirs = flows_are_theirs m p formed of g canonical in
    ap (map (λ w. w.ends)) code.flows
    ∙ rising_unique numbers_lt numbers_order (map (λ w. w.ends) g.flows) (rising_of numbers_lt (map flow ts))
    (rising_mapped flow_lt numbers_lt (λ w. w.ends) g.flows (λ u w i j h. h) canonical.graph.flows_rise)
    (rising_of_rising numbers_lt numbers_order (map flow ts))
    (λ z i.
    let w = in_mapped (λ (w : Flow). w.ends) z g.flows i in
    let t = (theirs w.0).0 w.1 in
    (in_rising_of numbers_lt numbers_order z (map flow ts)).0 (subst (λ x. In x (map flow ts)) (sym (ap (λ (x : Flow). x.ends) t.2) ∙ sym w.2) (in_map flow t.0 ts ((are.members t.0).1 t.1))))
    (λ z i.
    let t = in_mapped flow z ts ((in_rising_of numbers_lt numbers_order z (map flow ts)).1 i) in
    let w = flow_at s (colours_of m) (opened_at_top s t.0) in
    subst (λ x. In x (map (λ w. w.ends) g.flows)) (sym t.2) (in_map (λ (x : Flow). x.ends) w g.flows ((theirs w).1 (t.0, (are.members t.0).0 t.1, refl))))

no_ops : (m : Model) (n : ℕ) (g : Graph) → g.nodes ≡ [] → g.keys ≡ [] → register_ops m n g ≡ []
unfolding register_ops nodes_ops
no_ops m n g nodes keys = ap (λ ns. nodes_ops (den_place m n g) g.terms 0 ns ++ map key_op g.keys) nodes ∙ ap (map key_op) keys

no_slots : (m : Model) (n : ℕ) (g : Graph) → register_ops m n g ≡ [] → (let lines = register_lines m n g in slots_used lines (first_fit lines)) ≡ 0
unfolding slots_used
no_slots m n g e = ap (λ ops. let lines = map named_in ops in slots_used lines (first_fit lines)) e

no_dens : (anti : ℕ → ℕ) (n : ℕ) (nodes : List Key) → nodes ≡ [] → dens_of anti n nodes ≡ []
unfolding dens_of
no_dens anti n nodes e = ap (dens_of anti n) e

module _ (m : Model) (p : Process) (formed : IsWellFormed m) (of : IsProcessOf m p) (g : Graph) (canonical : IsCanonicalOf (reaction_of m p) g) (c : Code) (code : IsCodeOf m p g c) where
  flowless : AreDiagrams (scattering_of m p) [] → c.flows ≡ []
  unfolding rising_of
  flowless are = none_mapped (λ w. w.ends) c.flows (emitted_flows_are_theirs m p formed of g canonical c code [] are)

  module _ (none : c.flows ≡ []) where
    no_flow : g.flows ≡ []
    no_flow = sym code.flows ∙ none

    no_diagram : (t : Tree) → counts (scattering_of m p) t ≡ true → ⊥
    no_diagram t h =
        let s = scattering_of m p in
        let w = flow_at s (colours_of m) (opened_at_top s t) in
        subst (In w) no_flow ((flows_are_theirs m p formed of g canonical w).1 (t, h, refl))

    are_none : AreDiagrams (scattering_of m p) []
    are_none = record { rising = tt; members = λ t. ((λ i. absurd i), (λ h. absurd (no_diagram t h))) }

    no_nodes : g.nodes ≡ []
    no_nodes = none_in g.nodes (λ k i. let t = (nodes_are_edges m p formed of g canonical k).0 i in no_diagram t.0 t.1)

    no_keys : g.keys ≡ []
    no_keys = none_in g.keys (λ y i.
        let met = (canonical.graph.keys (unsigned_key y)).0 (in_map unsigned_key y g.keys i) in
        let never : None ≡ Some met.flow = ap (λ ws. slice_get ws y.flow) (sym no_flow) ∙ met.is_flow in
        cc)

    no_lines : HasNoLines c
    no_lines =
        let n = length p.legs in
        let ops = no_ops m n g no_nodes no_keys in
        record {
          flows = none;
          dens = code.dens ∙ no_dens (anti_field m.particles) n g.nodes no_nodes;
          slots = code.slots ∙ no_slots m n g ops;
          instrs = none_mapped op_of c.instrs (code.instrs ∙ ap (map (placed_op (first_fit (register_lines m n g)))) ops);
        }

pub no_diagram_no_flow : NoDiagramNoFlow
no_diagram_no_flow m p formed of g canonical c code =
    ((flowless m p formed of g canonical c code, are_none m p formed of g canonical c code), no_lines m p formed of g canonical c code)
