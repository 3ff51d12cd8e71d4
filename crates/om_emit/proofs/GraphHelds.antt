-- The vertices of a canonical graph make what the rules of programs ask for.
use Rattle.std.proofs.Common.{◌≡◌, ℕ, zero, suc, ◌+◌, ◌-◌, ◌*◌, ◌<◌, ◌≤◌, List, [], ◌∷◌, length, map, Bool, true, false, cond, eqb, ltb, ◌&&◌, not, ⊎_elim, inl, inr, refl, sym, ◌∙◌, ap, ap₂, subst, arith, true≢false}
use Rattle.std.specs.Prelude.{Option, Some, slice_get, slice_index_or, nat_lt, ◌==◌}
use Rattle.std.specs.List.{AllByRecursion}
use Rattle.std.proofs.lemmas.Bool.{eqb-true}
use Rattle.std.proofs.lemmas.Bool.Decides.{nat_tests}
use Rattle.std.proofs.lemmas.List.{length-map}
use Rattle.std.proofs.lemmas.Option.{same_Some, slice_get_within}
use Rattle.om_ring.specs.Members.{In}
use Rattle.om_legs.specs.Legs.{all_legs, holds, least, set_of_one, size}
use Rattle.om_legs.proofs.Operations.{IsLegSet-all_legs}
use Rattle.om_model.specs.Diagram.{same_numbers, times_in}
use Rattle.om_model.specs.FermionLines.{Kinds}
use Rattle.om_model.specs.Model.{theory_of, anti_field, field_of_leg}
use Rattle.om_model.specs.ModelLines.{kinds_of}
use Rattle.om_model.specs.ProcessOf.{IsProcessOf}
use Rattle.om_model.specs.Tree.{Tree}
use Rattle.om_model.specs.Tree.Tree.{leaf, join}
use Rattle.om_model.specs.WellFormed.{IsWellFormed}
use Rattle.om_model.specs.declared.model.Model.{Model}
use Rattle.om_model.specs.declared.process.Leg.{Leg}
use Rattle.om_model.specs.declared.process.Process.{Process}
use Rattle.om_model.proofs.Counting.{both, either, in_of_times, same_times, times_of_in}
use Rattle.om_ring.proofs.Members.{in_map, in_filter}
use Rattle.om_colour.specs.declared.Flow.{Flow}
use Rattle.om_graph.specs.declared.Graph.{Graph}
use Rattle.om_graph.specs.declared.Key.{Key}
use Rattle.om_graph.specs.declared.KeyTerm.{KeyTerm}
use Rattle.om_graph.specs.declared.Term.{Term}
use Rattle.om_graph.specs.Fusion.{HasKey}
use Rattle.om_graph.specs.Possible.{unsigned, unsigned_key}
use Rattle.om_graph.specs.Reactions.{reaction_of}
use Rattle.om_graph.specs.TreeKeys.{IsReaction}
use Rattle.om_graph.specs.Vertices.{Reaction, Closes, Fuses, fusion, is_outward}
use Rattle.om_graph.specs.Vertices as vertices
use Rattle.om_graph.proofs.HaveReactions.{well_formed_have_reactions}
use Rattle.om_graph.proofs.PartSizes.{fused_some}
use Rattle.om_graph.proofs.SetNodes.{in_by_number}
use Rattle.om_keystone.specs.Built.{is_inner, terms_at}
use Rattle.om_keystone.specs.CanonicalGraph.{IsCanonicalOf}
use Rattle.om_keystone.specs.InDiagrams.{IsOutward}
use Rattle.om_keystone.proofs.Nodes.{least_leg}
use Rattle.om_code.specs.declared.code.Code.{Code}
use Rattle.om_code.specs.declared.slots.Held.{Held}
use Rattle.om_code.specs.declared.slots.Phase.TheVariants.{Gathering, Ready}
use Rattle.om_code.specs.Rules.{is_choice, leaves_one, size_of}
use Rattle.om_code.specs.Slots.{fields_of, field_or_0, first_left, left_field}
use Rattle.om_code.specs.Slots as slots
use Rattle.om_emit.specs.GraphCode.{IsCodeOf, den_place}
use Rattle.om_emit.proofs.HeldFinds.{FuseKeeps, KeyKeeps, and_both, fused_held, held_meaning}
use Rattle.om_emit.proofs.HeldNodes.{TermKeeps, KeyTermKeeps, LegKeeps, ready_held, gathering_held}
use Rattle.om_emit.proofs.SplitHelds.{all_ready, same_fields, shared_out}

-- the field of the one slot that fields leave
one_field : (slots fields : List ℕ) (f x : ℕ) → same_numbers (f ∷ fields) slots ≡ true → same_numbers (x ∷ fields) slots ≡ true → x ≡ f
unfolding times_in
one_field slots fields f x e h =
    let a = same_times (f ∷ fields) slots e x in
    let b = same_times (x ∷ fields) slots h x in
    same (times_in x fields) (b ∙ sym a)
  where
    same : (m : ℕ) → cond (eqb x x) 1 0 + m ≡ cond (eqb x f) 1 0 + m → x ≡ f
    same m q = grind (arith, nat_tests)

first_left_is : (slots fields : List ℕ) (f : ℕ) (rest : List ℕ) → same_numbers (f ∷ fields) slots ≡ true → In f rest → first_left slots fields rest ≡ Some f
first_left_is slots fields f [] e i = absurd i
first_left_is slots fields f (x ∷ xs) e i = by (same_numbers (x ∷ fields) slots) refl (λ j. first_left_is slots fields f xs e j) i
  where
    by : (b : Bool) → same_numbers (x ∷ fields) slots ≡ b → (In f xs → first_left slots fields xs ≡ Some f) → In f (x ∷ xs) → cond b (Some x) (first_left slots fields xs) ≡ Some f
    by true q ih j = ap (λ y. let some : Option ℕ = Some y in some) (one_field slots fields f x e q)
    by false q ih (inl same) = absurd (true≢false (sym e ∙ ap (λ y. same_numbers (y ∷ fields) slots) same ∙ q))
    by false q ih (inr j) = ih j

left_is : (slots fields : List ℕ) (f : ℕ) → same_numbers (f ∷ fields) slots ≡ true → left_field slots fields ≡ Some f
left_is slots fields f e = first_left_is slots fields f slots e (in_of_times f slots (subst (λ n. 0 < n) (same_times (f ∷ fields) slots e f) (times_of_in f (f ∷ fields) (inl refl))))

pub half : (n s : ℕ) → is_outward n s ≡ true → 2 * size s ≤ n
half n s e = ⊎_elim
    (λ (t : ltb (2 * size s) n ≡ true). let l : 2 * size s < n = grind (arith, nat_tests) in omega arith)
    (λ t. let q : eqb (2 * size s) n ≡ true = (both (eqb (2 * size s) n) (not (holds s 1)) t).0 in let l : 2 * size s ≡ n = grind (arith, nat_tests) in omega arith)
    (either (ltb (2 * size s) n) (eqb (2 * size s) n && not (holds s 1)) e)

module _ (m : Model) (p : Process) (formed : IsWellFormed m) (is : IsProcessOf m p) (g : Graph) (canonical : IsCanonicalOf (reaction_of m p) g) (c : Code) (code : IsCodeOf m p g c) where
  abbrev r : Reaction
  r = reaction_of m p

  abbrev kinds : Kinds
  kinds = kinds_of m.particles

  reaction : IsReaction r kinds
  reaction = well_formed_have_reactions m p formed is

  pub as_many_legs : size_of c ≡ length p.legs
  as_many_legs = ap length code.legs ∙ length-map p.legs (λ (leg : Leg). leg.field)

  choice_there : (v ch : ℕ) → v < r.scattering.theory.vertices → ch < r.scattering.theory.choices v → is_choice c v ch ≡ true
  choice_there v ch l k =
      let a : nat_lt v (length m.vertices) ≡ true = grind (arith, nat_tests) in
      let b : nat_lt ch ((theory_of m).choices v) ≡ true = grind (arith, nat_tests) in
      ap (λ (x : Model). nat_lt v (length x.vertices) && nat_lt ch ((theory_of x).choices v)) code.same_model ∙ and_both (nat_lt v (length m.vertices)) (nat_lt ch ((theory_of m).choices v)) a b

  -- a vertex that fuses nodes
  module _ (f v ch : ℕ) (ks : List Key) (node : Key) (fuse : Fuses r f v ch ks node) where
    left : left_field (slots.slots_of_vertex c v) (fields_of (map ready_held ks)) ≡ Some (anti_field m.particles f)
    left =
        ap₂ (λ (x : Model) fs. left_field ((theory_of x).slots v) fs) code.same_model (same_fields ks)
        ∙ left_is ((theory_of m).slots v) (vertices.fields_of ks) (anti_field m.particles f) fuse.slots

    its_field : anti_field c.model.particles (field_or_0 (left_field (slots.slots_of_vertex c v) (fields_of (map ready_held ks)))) ≡ node.field
    its_field =
        ap₂ (λ (x : Model) o. anti_field x.particles (field_or_0 o)) code.same_model left
        ∙ reaction.fields.anti_anti f ∙ sym fuse.has_field

    pub fuse_makes : fused_held c v (map ready_held ks) ≡ gathering_held node
    unfolding fused_held
    fuse_makes =
        let shared = shared_out (length ks) node.legs ks fuse.legs fuse.split in
        ap₂ (λ set f. let held : Held = record { phase = Gathering; legs = set; field = f } in held) shared.all its_field

    pub fuse_keeps : FuseKeeps c v ch (map ready_held ks)
    fuse_keeps =
        let shared = shared_out (length ks) node.legs ks fuse.legs fuse.split in
        let many = fused_some r f v ch ks node fuse in
        let few = half (length p.legs) node.legs fuse.outward in
        let legs = as_many_legs in
        record {
          there = choice_there v ch fuse.vertex fuse.choice;
          ready = all_ready ks;
          apart = shared.apart;
          several = subst (λ s. 2 ≤ size s) (sym shared.all) (omega (arith, many));
          most = subst (λ s. size s + 2 ≤ size_of c) (sym shared.all) (omega (arith, many, few, legs));
          order = shared.order;
          left = ap leaves_one left;
        }

  key_keeps : (flow v ch : ℕ) (ks : List Key) (w : Flow) → Closes r v ch ks w → flow < length g.flows → KeyKeeps c flow v ch (map ready_held ks)
  key_keeps flow v ch ks w close l =
      let shared = shared_out (length ks) (all_legs (length p.legs)) ks (IsLegSet-all_legs (length p.legs)) close.split in
      record {
        flow_there = subst (λ n. flow < n) (sym (ap length code.flows)) l;
        there = choice_there v ch close.vertex close.choice;
        ready = all_ready ks;
        apart = shared.apart;
        all = shared.all ∙ ap all_legs (sym as_many_legs);
        order = shared.order;
        fields = ap₂ (λ (x : Model) fs. same_numbers fs ((theory_of x).slots v)) code.same_model (same_fields ks) ∙ close.slots;
      }

  abbrev den : Key → ℕ
  den = den_place m (length p.legs) g

  -- a term of node k
  term_keeps : (k : ℕ) (node : Key) → slice_get g.nodes k ≡ Some node → (t : Term) → In t (terms_at g.terms k) → TermKeeps c g den node t
  unfolding terms_at
  term_keeps k node e t i =
      let f = (in_filter (λ t. t.node == k) t g.terms).0 i in
      let met = (canonical.graph.terms (unsigned t)).0 (in_map unsigned t g.terms f.0) in
      let same : met.node ≡ node = same_Some met.node node (sym met.is_node ∙ ap (slice_get g.nodes) (eqb-true t.node k f.1) ∙ e) in
      let fuse : Fuses r met.met.field t.vertex t.choice met.branches node = subst (Fuses r met.met.field t.vertex t.choice met.branches) same met.met.fuse in
      record {
        keys = met.branches;
        are_branches = met.are_branches;
        keeps = fuse_keeps met.met.field t.vertex t.choice met.branches node fuse;
        made = fuse_makes met.met.field t.vertex t.choice met.branches node fuse;
      }

  pub terms_keep : (k : ℕ) (node : Key) → slice_get g.nodes k ≡ Some node → AllByRecursion (TermKeeps c g den node) (terms_at g.terms k)
  terms_keep k node e = all_from (terms_at g.terms k) (λ t i. term_keeps k node e t i)
    where
      all_from : (ts : List Term) → ((t : Term) → In t ts → TermKeeps c g den node t) → AllByRecursion (TermKeeps c g den node) ts
      all_from [] h = tt
      all_from (t ∷ ts) h = (h t (inl refl), all_from ts (λ u i. h u (inr i)))

  -- a keystone term
  key_term_keeps : (y : KeyTerm) → In y g.keys → KeyTermKeeps c g den y
  key_term_keeps y i =
      let met = (canonical.graph.keys (unsigned_key y)).0 (in_map unsigned_key y g.keys i) in
      record {
        keys = met.branches;
        are_branches = met.are_branches;
        keeps = key_keeps y.flow y.vertex y.choice met.branches met.flow met.met.close (slice_get_within g.flows y.flow met.flow met.is_flow);
      }

  pub key_terms_keep : AllByRecursion (KeyTermKeeps c g den) g.keys
  key_terms_keep = all_from g.keys (λ y i. key_term_keeps y i)
    where
      all_from : (ys : List KeyTerm) → ((y : KeyTerm) → In y ys → KeyTermKeeps c g den y) → AllByRecursion (KeyTermKeeps c g den) ys
      all_from [] h = tt
      all_from (y ∷ ys) h = (h y (inl refl), all_from ys (λ z i. h z (inr i)))

  -- a node that isn't inner is a leg
  pub record IsLeg (node : Key) : Type 0 where
    pub leg : ℕ
    pub low : 1 ≤ leg
    pub high : leg ≤ length p.legs
    pub is_leg : node ≡ (fusion r).leg leg

  pub leg_of : (node : Key) → IsOutward (fusion r) node → is_inner node ≡ false → IsLeg node
  unfolding HasKey
  leg_of node outward leg = by outward.0 outward.2
    where
      by : (t : Tree) → HasKey (fusion r) t node → IsLeg node
      by (leaf j) h = record { leg = j; low = h.0; high = h.1; is_leg = h.2 }
      by (join f v c bs) h = absurd (let many = fused_some r f v c h.0 node h.2 in let inner : is_inner node ≡ true = grind (arith, nat_tests) in true≢false (sym inner ∙ leg))

  pub fields_at : (legs : List Leg) (k : ℕ) → slice_index_or (map (λ (leg : Leg). leg.field) legs) k 0 ≡ field_of_leg (slice_get legs k)
  fields_at [] k = refl
  fields_at (leg ∷ legs) zero = refl
  fields_at (leg ∷ legs) (suc k) = fields_at legs k

  leg_keeps : (node : Key) → IsLeg node → LegKeeps c g den node
  unfolding held_meaning
  leg_keeps node leg =
      let least_is : least node.legs ≡ leg.leg = ap (λ (k : Key). least k.legs) leg.is_leg ∙ least_leg r kinds reaction leg.leg leg.low leg.high in
      let legs = as_many_legs in
      let high = leg.high in
      let field : slots.field_of_leg c leg.leg ≡ (fusion r).field ((fusion r).leg leg.leg) = ap (λ fs. slice_index_or fs (leg.leg - 1) 0) code.legs ∙ fields_at p.legs (leg.leg - 1) in
      let held : ℕ → ℕ → Held = λ set f. record { phase = Ready; legs = set; field = f } in
      record {
        there = omega (arith, least_is, legs, high);
        loaded = ap (λ k. held (set_of_one k) (slots.field_of_leg c k)) least_is ∙ ap (held (set_of_one leg.leg)) field ∙ ap ready_held (sym leg.is_leg);
      }

  pub node_leg_keeps : (k : ℕ) (node : Key) → slice_get g.nodes k ≡ Some node → is_inner node ≡ false → LegKeeps c g den node
  node_leg_keeps k node e leg = leg_keeps node (leg_of node ((canonical.graph.nodes node).0 (in_by_number g.nodes k node e)) leg)
