-- The instructions of the code of a canonical graph have a text.
use Rattle.std.proofs.Common.{◌≡◌, ℕ, zero, suc, ◌^◌, ◌<◌, ◌≤◌, List, [], ◌∷◌, ◌++◌, length, map, take, Bool, true, false, cond, ◌&&◌, inl, inr, ⊎_elim, refl, sym, ◌∙◌, ap, subst, arith}
use Rattle.std.specs.Prelude.{Some, slice_get, slice_index, nat_lt, ◌==◌}
use Rattle.std.specs.List.{AllByRecursion, filter, list_all}
use Rattle.std.proofs.lemmas.Bool.Decides.{nat_tests}
use Rattle.std.proofs.lemmas.List.{length-map}
use Rattle.om_ring.specs.Members.{In}
use Rattle.om_ring.proofs.Members.{in_filter, in_map}
use Rattle.om_legs.specs.declared.branches.Branches.{Branches}
use Rattle.om_legs.specs.Legs.{least}
use Rattle.om_model.specs.Model.{anti_field}
use Rattle.om_model.specs.ModelLines.{kinds_of}
use Rattle.om_model.specs.ProcessOf.{IsProcessOf}
use Rattle.om_model.specs.WellFormed.{IsWellFormed}
use Rattle.om_model.specs.declared.model.Model.{Model}
use Rattle.om_model.specs.declared.process.Process.{Process}
use Rattle.om_model.proofs.Counting.{both}
use Rattle.om_graph.specs.declared.Graph.{Graph}
use Rattle.om_graph.specs.declared.Key.{Key}
use Rattle.om_graph.specs.declared.KeyTerm.{KeyTerm}
use Rattle.om_graph.specs.declared.Term.{Term}
use Rattle.om_graph.specs.Possible.{unsigned, unsigned_key}
use Rattle.om_graph.specs.Reactions.{reaction_of}
use Rattle.om_graph.proofs.HaveReactions.{well_formed_have_reactions}
use Rattle.om_keystone.specs.Built.{is_inner, terms_at}
use Rattle.om_keystone.specs.CanonicalGraph.{IsCanonicalOf}
use Rattle.om_keystone.proofs.Nodes.{least_leg}
use Rattle.om_keystone.proofs.Numbers.{At, at_none, at_more, at_of}
use Rattle.om_code.specs.declared.code.Code.{Code}
use Rattle.om_code.specs.declared.code.Instr.{Instr}
use Rattle.om_code.specs.declared.code.Instr.TheVariants.{Load, Fuse, Prop, Key as KeyOf}
use Rattle.om_code.specs.Contents.{NamesSlots}
use Rattle.om_code.specs.Ops.{Op, load, fuse, prop, key, op_of, placed_op}
use Rattle.om_code.specs.Plain.{IsPlace, IsPlainInstr}
use Rattle.om_code.specs.Rules.{IsSettled, KeepsRules, is_choice, is_slot, names_all}
use Rattle.om_code.specs.SlotPlans.{first_fit}
use Rattle.om_code.specs.Slots.{held_before}
use Rattle.om_legs.specs.BranchNodes.{nodes_of}
use Rattle.om_code.proofs.Walk.{rules-by-walk}
use Rattle.om_emit.specs.GraphCode.{IsCodeOf, den_place, fuse_op, key_op, node_ops, nodes_ops, register_lines, register_ops}
use Rattle.om_emit.specs.Counts.{CountsNodes}
use Rattle.om_emit.proofs.DenMembers.{few_dens}
use Rattle.om_emit.proofs.EmittedSums.{code_names_slots}
use Rattle.om_emit.proofs.GraphHelds.{leg_of}
use Rattle.om_emit.proofs.GraphRules.{all_keep, slots_small}

-- a leg is at least 1, a fuse has at most three branches and a key at least three
HasShape : Op → Type 0
HasShape (load to leg) = 1 ≤ leg
HasShape (fuse to minus vertex choice branches) = length branches ≤ 3
HasShape (prop of den) = Unit {0}
HasShape (key flow minus vertex choice branches) = 3 ≤ length branches

all_append : {A : Type 0} (P : A → Type 0) (xs ys : List A) → AllByRecursion P xs → AllByRecursion P ys → AllByRecursion P (xs ++ ys)
all_append P [] ys h g = g
all_append P (x ∷ xs) ys h g = (h.0, all_append P xs ys h.1 g)

terms_shape : (ts : List Term) → ((t : Term) → In t ts → length (nodes_of t.branches) ≤ 3) → AllByRecursion HasShape (map fuse_op ts)
unfolding HasShape
terms_shape [] h = tt
terms_shape (t ∷ ts) h = (h t (inl refl), terms_shape ts (λ u i. h u (inr i)))

keys_shape : (ys : List KeyTerm) → ((y : KeyTerm) → In y ys → 3 ≤ length (nodes_of y.branches)) → AllByRecursion HasShape (map key_op ys)
unfolding HasShape
keys_shape [] h = tt
keys_shape (y ∷ ys) h = (h y (inl refl), keys_shape ys (λ z i. h z (inr i)))

module _ (den : Key → ℕ) (terms : List Term) (few : (t : Term) → In t terms → length (nodes_of t.branches) ≤ 3) where
  its_terms : (k : ℕ) → AllByRecursion HasShape (map fuse_op (terms_at terms k))
  unfolding terms_at
  its_terms k = terms_shape (filter (λ t. t.node == k) terms) (λ t i. few t ((in_filter (λ (t : Term). t.node == k) t terms).0 i).0)

  node_shape : (k : ℕ) (node : Key) → (is_inner node ≡ false → 1 ≤ least node.legs) → AllByRecursion HasShape (node_ops den terms k node)
  unfolding node_ops HasShape
  node_shape k node h = by (is_inner node) h
    where
      by : (b : Bool) → (b ≡ false → 1 ≤ least node.legs) → AllByRecursion HasShape (cond b (map fuse_op (terms_at terms k) ++ prop k (den node) ∷ []) (load k (least node.legs) ∷ []))
      by true h = all_append HasShape (map fuse_op (terms_at terms k)) (prop k (den node) ∷ []) (its_terms k) (tt, tt)
      by false h = (h refl, tt)

  nodes_shape : (k : ℕ) (nodes : List Key) → ((node : Key) → In node nodes → is_inner node ≡ false → 1 ≤ least node.legs) → AllByRecursion HasShape (nodes_ops den terms k nodes)
  unfolding nodes_ops
  nodes_shape k [] h = tt
  nodes_shape k (node ∷ nodes) h = all_append HasShape (node_ops den terms k node) (nodes_ops den terms (suc k) nodes) (node_shape k node (h node (inl refl))) (nodes_shape (suc k) nodes (λ x i. h x (inr i)))

placed_shape : (plan : ℕ → ℕ) (xs : List Op) → AllByRecursion HasShape xs → AllByRecursion HasShape (map (placed_op plan) xs)
unfolding HasShape
placed_shape plan [] h = tt
placed_shape plan (load to leg ∷ xs) h = (h.0, placed_shape plan xs h.1)
placed_shape plan (fuse to minus vertex choice branches ∷ xs) h = (let e = length-map branches plan in let l = h.0 in omega (arith, e, l), placed_shape plan xs h.1)
placed_shape plan (prop of den ∷ xs) h = (tt, placed_shape plan xs h.1)
placed_shape plan (key flow minus vertex choice branches ∷ xs) h = (let e = length-map branches plan in let l = h.0 in omega (arith, e, l), placed_shape plan xs h.1)

module _ (m : Model) (p : Process) (formed : IsWellFormed m) (is : IsProcessOf m p) (g : Graph) (canonical : IsCanonicalOf (reaction_of m p) g) (c : Code) (code : IsCodeOf m p g c) where
  length_at : {A : Type 0} (xs : List A) (ns : List ℕ) (ys : List A) → At xs ns ys → length ns ≡ length ys
  length_at xs ns ys at_none = refl
  length_at xs ns ys (at_more {ns = more} {ys = rest} e a) = ap suc (length_at xs more rest a)

  term_few : (t : Term) → In t g.terms → length (nodes_of t.branches) ≤ 3
  term_few t i =
      let met = (canonical.graph.terms (unsigned t)).0 (in_map unsigned t g.terms i) in
      let e = length_at g.nodes (nodes_of t.branches) met.branches (at_of g.nodes (nodes_of t.branches) met.branches met.are_branches) in
      ⊎_elim (λ (two : length met.branches ≡ 2). omega (arith, e)) (λ (three : length met.branches ≡ 3). omega (arith, e)) met.met.fuse.counted

  key_many : (y : KeyTerm) → In y g.keys → 3 ≤ length (nodes_of y.branches)
  key_many y i =
      let met = (canonical.graph.keys (unsigned_key y)).0 (in_map unsigned_key y g.keys i) in
      let e = length_at g.nodes (nodes_of y.branches) met.branches (at_of g.nodes (nodes_of y.branches) met.branches met.are_branches) in
      ⊎_elim (λ (three : length met.branches ≡ 3). omega (arith, e)) (λ (four : length met.branches ≡ 4). omega (arith, e)) met.met.close.counted

  leg_some : (node : Key) → In node g.nodes → is_inner node ≡ false → 1 ≤ least node.legs
  leg_some node i e =
      let leg = leg_of m p formed is g canonical c code node ((canonical.graph.nodes node).0 i) e in
      let same : least node.legs ≡ leg.leg = ap (λ (k : Key). least k.legs) leg.is_leg ∙ least_leg (reaction_of m p) (kinds_of m.particles) (well_formed_have_reactions m p formed is) leg.leg leg.low leg.high in
      let low = leg.low in
      omega (arith, same, low)

  shapes : AllByRecursion HasShape (map op_of c.instrs)
  unfolding register_ops
  shapes =
      let ops = register_ops m (length p.legs) g in
      let den = den_place m (length p.legs) g in
      subst (AllByRecursion HasShape) (sym code.instrs) (placed_shape (first_fit (register_lines m (length p.legs) g)) ops
      (all_append HasShape (nodes_ops den g.terms 0 g.nodes) (map key_op g.keys) (nodes_shape den g.terms term_few 0 g.nodes leg_some) (keys_shape g.keys key_many)))

  module _ (few_nodes : length g.nodes < 2 ^ 31) (few_flows : length g.flows < 2 ^ 31) where
    slot_place : (k : ℕ) → k < c.slots → IsPlace k
    slot_place k l = let a = slots_small m p formed is g canonical c code in omega (arith, a, l, few_nodes)

    slot_places : (ks : List ℕ) → AllByRecursion (λ k. k < c.slots) ks → AllByRecursion IsPlace ks
    slot_places [] h = tt
    slot_places (k ∷ ks) h = (slot_place k h.0, slot_places ks h.1)

    -- past the branches stand zeros
    all_places : (count : ℕ) (ks : List ℕ) → ((k : ℕ) → count ≤ k → slice_index ks k ≡ 0) → AllByRecursion IsPlace (take count ks) → AllByRecursion IsPlace ks
    all_places count [] zeros h = tt
    all_places zero (k ∷ ks) zeros h = (let e : k ≡ 0 = zeros 0 (omega arith) in omega (arith, e), all_places zero ks (λ j l. zeros (suc j) (omega arith)) tt)
    all_places (suc count) (k ∷ ks) zeros h = (h.0, all_places count ks (λ j l. zeros (suc j) (omega arith)) h.1)

    branch_places : (b : Branches) → AllByRecursion (λ k. k < c.slots) (nodes_of b) → AllByRecursion IsPlace b.nodes
    branch_places b h = all_places b.count b.nodes b.valid.zeros (slot_places (nodes_of b) h)

    vertex_place : (vertex choice : ℕ) → is_choice c vertex choice ≡ true → IsPlace vertex
    vertex_place vertex choice e =
        let a : nat_lt vertex (length c.model.vertices) ≡ true = (both (nat_lt vertex (length c.model.vertices)) _ e).0 in
        let l : vertex < length c.model.vertices = grind (arith, nat_tests) in
        let same = ap (λ (x : Model). length x.vertices) code.same_model in
        let most = formed.vertices in
        omega (arith, l, same, most)

    den_place_small : (den : ℕ) → nat_lt den (length c.dens) ≡ true → IsPlace den
    den_place_small den e =
        let l : den < length c.dens = grind (arith, nat_tests) in
        let same = ap length code.dens in
        let few = few_dens (anti_field m.particles) (length p.legs) g.nodes in
        omega (arith, l, same, few, few_nodes)

    flow_place : (flow : ℕ) → nat_lt flow (length c.flows) ≡ true → IsPlace flow
    flow_place flow e =
        let l : flow < length c.flows = grind (arith, nat_tests) in
        let same = ap length code.flows in
        omega (arith, l, same, few_flows)

    plain_instr : (i : Instr) → NamesSlots c.slots i → CountsNodes i → HasShape (op_of i) → names_all c i ≡ true → IsPlainInstr 2 i
    unfolding HasShape
    plain_instr (Load to leg) l n h e = (h, slot_place to l)
    plain_instr (Fuse to minus vertex choice b) l n h e = record {
      to_place = slot_place to l.0;
      vertex_place = vertex_place vertex choice (both (is_choice c vertex choice) (is_slot c to) (both (is_choice c vertex choice && is_slot c to) (list_all (is_slot c) (nodes_of b)) e).0).0;
      most = subst (λ k. k ≤ 3) (sym n) h;
      places = branch_places b l.1;
    }
    plain_instr (Prop of den) l n h e = (slot_place of l, den_place_small den (both (is_slot c of) (nat_lt den (length c.dens)) e).1)
    plain_instr (KeyOf flow minus vertex choice b) l n h e =
        let first = (both (nat_lt flow (length c.flows) && is_choice c vertex choice) (list_all (is_slot c) (nodes_of b)) e).0 in
        record {
          flow_place = flow_place flow (both (nat_lt flow (length c.flows)) (is_choice c vertex choice) first).0;
          vertex_place = vertex_place vertex choice (both (nat_lt flow (length c.flows)) (is_choice c vertex choice) first).1;
          least = subst (λ k. 3 ≤ k) (sym n) h;
          places = branch_places b l;
        }

    pub rules_kept : ((k : ℕ) (i : Instr) → slice_get c.instrs k ≡ Some i → KeepsRules c (held_before c k) i) × IsSettled c
    rules_kept = (rules-by-walk c).0 (all_keep m p formed is g canonical c code)

    pub plain_instrs : AllByRecursion CountsNodes c.instrs → AllByRecursion (IsPlainInstr 2) c.instrs
    plain_instrs counts = each c.instrs (code_names_slots m p g c code) counts shapes (λ k i e. (rules_kept.0 k i e).names)
      where
        each : (is : List Instr) → AllByRecursion (NamesSlots c.slots) is → AllByRecursion CountsNodes is → AllByRecursion HasShape (map op_of is) → ((k : ℕ) (i : Instr) → slice_get is k ≡ Some i → names_all c i ≡ true) → AllByRecursion (IsPlainInstr 2) is
        each [] l n h e = tt
        each (i ∷ is) l n h e = (plain_instr i l.0 n.0 h.0 (e 0 i refl), each is l.1 n.1 h.1 (λ k j q. e (suc k) j q))
