-- The lines before the instructions have a text, and the denominators keep the rules.
use Rattle.std.proofs.Common.{◌≡◌, ℕ, zero, suc, ◌+◌, ◌-◌, ◌<◌, ◌≤◌, List, [], ◌∷◌, length, map, Bool, true, false, cond, ltb, leb, ◌⊎◌, inl, inr, refl, sym, ◌∙◌, ap, subst, arith, true≢false}
use Rattle.std.specs.Prelude.{Option, Some, None, slice_get}
use Rattle.std.specs.List.{AllByRecursion, list_all}
use Rattle.std.proofs.lemmas.Bool.Decides.{nat_tests}
use Rattle.om_ring.specs.Members.{In}
use Rattle.om_legs.specs.Legs.{IsLegSet, complement, holds, size}
use Rattle.om_legs.proofs.ShareSums.{size-empty}
use Rattle.om_lorentz.specs.declared.structures.Structure.{Structure}
use Rattle.om_lorentz.specs.declared.structures.Structure.TheVariants.{Sss, Ssss, Vss, Vvs, Vvss, Ffs, Ffv, Vvv, Vvvv, Gluon4}
use Rattle.om_lorentz.specs.Structures.{factor_count}
use Rattle.om_model.specs.Model.{anti_field, fields_of_vertex, is_field}
use Rattle.om_model.specs.ModelLines.{kinds_of}
use Rattle.om_model.specs.Diagram.{times_in}
use Rattle.om_model.specs.Parts as parts
use Rattle.om_model.specs.ProcessOf.{IsProcessOf}
use Rattle.om_model.specs.Rules.{HasLengths, IsFormedVertex}
use Rattle.om_model.specs.Tree.{Tree, legs}
use Rattle.om_model.specs.Tree.Tree.{leaf, join}
use Rattle.om_model.specs.WellFormed.{IsWellFormed}
use Rattle.om_model.specs.declared.model.Model.{Model}
use Rattle.om_model.specs.declared.model.Vertex.{Vertex}
use Rattle.om_model.specs.declared.process.Leg.{Leg}
use Rattle.om_model.specs.declared.process.Process.{Process}
use Rattle.om_model.proofs.Counting.{both, in_of_times, same_times, times_of_in}
use Rattle.om_model.proofs.FieldNameLaws.{field_names_are_read}
use Rattle.om_model.proofs.LegSets.{has_leg_set}
use Rattle.om_graph.specs.declared.Graph.{Graph}
use Rattle.om_graph.specs.declared.Key.{Key}
use Rattle.om_graph.specs.Fusion.{HasKey}
use Rattle.om_graph.specs.Reactions.{reaction_of}
use Rattle.om_graph.specs.TreeKeys.{IsReaction}
use Rattle.om_graph.specs.Vertices.{Reaction, fusion}
use Rattle.om_graph.specs.Vertices as vertices
use Rattle.om_graph.proofs.HaveReactions.{well_formed_have_reactions}
use Rattle.om_graph.proofs.KeysOfSides.{side_of}
use Rattle.om_graph.proofs.PartSizes.{fused_some}
use Rattle.om_graph.proofs.VertexColours.{few_fields}
use Rattle.om_keystone.specs.Built.{is_inner}
use Rattle.om_keystone.specs.CanonicalGraph.{IsCanonicalOf}
use Rattle.om_keystone.proofs.Nodes.{leg_is_leg}
use Rattle.om_code.specs.declared.code.Code.{Code}
use Rattle.om_code.specs.declared.code.Den.{Den}
use Rattle.om_code.specs.Plain.{IsNamed, IsPlainDen, IsPlainVertex}
use Rattle.om_code.specs.Rules.{IsDen, IsInner}
use Rattle.om_machine.proofs.FieldKinds.{is-anti}
use Rattle.om_emit.specs.GraphCode.{IsCodeOf, den_of, graph_dens}
use Rattle.om_emit.proofs.DenEdges.{dens_are_edges_above}
use Rattle.om_emit.proofs.DenPlaces.{IsWithin, behind_earlier, side_inner}
use Rattle.om_emit.proofs.GraphHelds.{as_many_legs, half}
use Rattle.om_graph.proofs.SetNodes.{in_by_number}

-- what holds of each row
pub all_rows : {A : Type 0} (P : A → Type 0) (xs : List A) → ((k : ℕ) (x : A) → slice_get xs k ≡ Some x → P x) → AllByRecursion P xs
all_rows P [] h = tt
all_rows P (x ∷ xs) h = (h 0 x refl, all_rows P xs (λ k y e. h (suc k) y e))

few_factors : (s : Structure) → (1 ≤ factor_count s) × (factor_count s ≤ 3)
few_factors Sss = (omega arith, omega arith)
few_factors Ssss = (omega arith, omega arith)
few_factors Vss = (omega arith, omega arith)
few_factors Vvs = (omega arith, omega arith)
few_factors Vvss = (omega arith, omega arith)
few_factors Ffs = (omega arith, omega arith)
few_factors Ffv = (omega arith, omega arith)
few_factors Vvv = (omega arith, omega arith)
few_factors Vvvv = (omega arith, omega arith)
few_factors Gluon4 = (omega arith, omega arith)

least_of_two : {n : ℕ} → (n ≡ 3) ⊎ (n ≡ 4) → (3 ≤ n) × (n ≤ 4)
least_of_two (inl e) = (omega arith, omega arith)
least_of_two (inr e) = (omega arith, omega arith)

of_all : (p : ℕ → Bool) (x : ℕ) (xs : List ℕ) → list_all p xs ≡ true → In x xs → p x ≡ true
of_all p x [] e i = absurd i
of_all p x (y ∷ xs) e (inl q) = ap p q ∙ (both (p y) (list_all p xs) e).0
of_all p x (y ∷ xs) e (inr i) = of_all p x xs (both (p y) (list_all p xs) e).1 i

module _ (m : Model) (formed : IsWellFormed m) where
  named : (f : ℕ) → is_field m.particles f ≡ true → IsNamed m.particles f
  named f e = field_names_are_read.1 m formed f e

  all_named : (fs : List ℕ) → list_all (is_field m.particles) fs ≡ true → AllByRecursion (IsNamed m.particles) fs
  all_named [] e = tt
  all_named (f ∷ fs) e = let b = both (is_field m.particles f) (list_all (is_field m.particles) fs) e in (named f b.0, all_named fs b.1)

  pub plain_particles : AllByRecursion HasLengths m.particles
  plain_particles = all_rows HasLengths m.particles (λ row p e. (formed.formed_particles row p e).lengths)

  plain_vertex : (v : Vertex) → IsFormedVertex m.particles v → IsPlainVertex m.particles v
  plain_vertex v h =
      let l = least_of_two (few_fields m.particles v h.pattern) in
      let f = few_factors v.structure in
      let e = h.pattern.0.factors in
      record {
        three = l.0;
        four = l.1;
        fields = all_named v.fields h.pattern.0.fields;
        factor = omega (arith, e, f.0);
        factors = omega (arith, e, f.1);
        products = h.limits.0;
      }

  pub plain_vertices : AllByRecursion (IsPlainVertex m.particles) m.vertices
  plain_vertices = all_rows (IsPlainVertex m.particles) m.vertices (λ row v e. plain_vertex v (formed.formed_vertices row v e))

  -- the slots of a vertex take fields of the model
  slot_field : (v f : ℕ) → In f (fields_of_vertex (slice_get m.vertices v)) → is_field m.particles f ≡ true
  slot_field v f i = by (slice_get m.vertices v) refl i
    where
      by : (found : Option Vertex) → slice_get m.vertices v ≡ found → In f (fields_of_vertex found) → is_field m.particles f ≡ true
      by None e j = absurd j
      by (Some w) e j = of_all (is_field m.particles) f w.fields (formed.formed_vertices v w e).pattern.0.fields j

module _ (m : Model) (p : Process) (formed : IsWellFormed m) (is : IsProcessOf m p) (g : Graph) (canonical : IsCanonicalOf (reaction_of m p) g) (c : Code) (code : IsCodeOf m p g c) where
  abbrev r : Reaction
  r = reaction_of m p

  abbrev n : ℕ
  n = length p.legs

  reaction : IsReaction r (kinds_of m.particles)
  reaction = well_formed_have_reactions m p formed is

  pub plain_legs : AllByRecursion (IsNamed c.model.particles) c.legs
  plain_legs =
      let P : Model → List ℕ → Type 0 = λ x fs. AllByRecursion (IsNamed x.particles) fs in
      subst (λ x. P x c.legs) (sym code.same_model) (subst (P m) (sym code.legs) (by p.legs (λ k leg e. named m formed leg.field (is.fields k leg e))))
    where
      by : (legs : List Leg) → ((k : ℕ) (leg : Leg) → slice_get legs k ≡ Some leg → IsNamed m.particles leg.field) → AllByRecursion (IsNamed m.particles) (map (λ (leg : Leg). leg.field) legs)
      by [] h = tt
      by (leg ∷ legs) h = (h 0 leg refl, by legs (λ k x e. h (suc k) x e))

  -- an inner node as the side of an edge
  record IsInnerSide (node : Key) : Type 0 where
    is_set : IsLegSet node.legs
    within : IsWithin n node.legs
    several : 2 ≤ size node.legs
    most : size node.legs + 2 ≤ n
    is_a_field : is_field m.particles node.field ≡ true

  node_within : (t : Tree) (node : Key) → HasKey (fusion r) t node → IsWithin n node.legs
  unfolding parts.holds
  node_within t node h leg e =
      let side = side_of r (kinds_of m.particles) reaction t node h in
      let held : ltb 0 (times_in leg (legs t)) ≡ true = sym ((has_leg_set r.scattering reaction.most t side.0.subtree).held leg) ∙ ap (λ (k : Key). holds k.legs leg) (sym side.1) ∙ e in
      by (parts.within n leg) (times_in leg (legs t)) refl (side.0.subtree.once leg) held
    where
      by : (b : Bool) (m : ℕ) → parts.within n leg ≡ b → m ≤ cond b 1 0 → ltb 0 m ≡ true → leg ≤ n
      by true m q l t = let u : leb leg n ≡ true = (both (ltb 0 leg) (leb leg n) q).1 in grind (arith, nat_tests)
      by false m q l t = absurd (grind (arith, nat_tests))

  inner_side : (node : Key) (t : Tree) → HasKey (fusion r) t node → is_inner node ≡ true → IsInnerSide node
  unfolding HasKey
  inner_side node (leaf j) h inner = absurd (true≢false (sym inner ∙ ap is_inner h.2 ∙ leg_is_leg r (kinds_of m.particles) reaction j h.0 h.1))
  inner_side node (join f v ch bs) h inner =
      let fuse = h.2 in
      let many = fused_some r f v ch h.0 node fuse in
      let few = half n node.legs fuse.outward in
      let slots = (reaction_of m p).scattering.theory.slots v in
      let stands : In (anti_field m.particles f) slots = in_of_times (anti_field m.particles f) slots
      (subst (λ j. 0 < j) (same_times (anti_field m.particles f ∷ vertices.fields_of h.0) slots fuse.slots (anti_field m.particles f)) (times_of_in (anti_field m.particles f) (anti_field m.particles f ∷ vertices.fields_of h.0) (inl refl))) in
      record {
        is_set = fuse.legs;
        within = node_within (join f v ch bs) node h;
        several = omega (arith, many);
        most = omega (arith, many, few);
        is_a_field = ap (is_field m.particles) (fuse.has_field ∙ sym (reaction.fields.anti_anti f)) ∙ is-anti m.particles (anti_field m.particles f) (slot_field m formed v (anti_field m.particles f) stands);
      }

  den_legs : (node : Key) → (den_of (anti_field m.particles) n node).legs ≡ cond (holds node.legs 1) (complement node.legs n) node.legs
  unfolding den_of
  den_legs node = by (holds node.legs 1)
    where
      by : (b : Bool) → (let d : Den = cond b (record { legs = complement node.legs n; field = anti_field m.particles node.field }) (record { legs = node.legs; field = node.field }) in d.legs) ≡ cond b (complement node.legs n) node.legs
      by true = refl
      by false = refl

  den_field : (node : Key) → is_field m.particles node.field ≡ true → is_field m.particles (den_of (anti_field m.particles) n node).field ≡ true
  unfolding den_of
  den_field node e = by (holds node.legs 1)
    where
      by : (b : Bool) → (let d : Den = cond b (record { legs = complement node.legs n; field = anti_field m.particles node.field }) (record { legs = node.legs; field = node.field }) in is_field m.particles d.field) ≡ true
      by true = is-anti m.particles node.field e
      by false = e

  record IsGoodDen (d : Den) : Type 0 where
    inner : IsInner n d.legs
    is_a_field : is_field m.particles d.field ≡ true

  good_den : (d : Den) → In d (graph_dens m n g) → IsGoodDen d
  good_den d i =
      let above = ((dens_are_edges_above (anti_field m.particles) n g.nodes).members d).0 i in
      let outward = (canonical.graph.nodes above.node).0 above.is_node in
      let side = inner_side above.node outward.0 outward.2 above.inner in
      let legs = ap (λ (x : Den). x.legs) above.edge ∙ den_legs above.node in
      record {
        inner = subst (IsInner n) (sym legs) (side_inner n reaction.most above.node.legs side.is_set side.within side.several side.most (holds above.node.legs 1) refl);
        is_a_field = ap (λ (x : Den). is_field m.particles x.field) above.edge ∙ den_field above.node side.is_a_field;
      }

  some_set : (set : ℕ) → 2 ≤ size set → 1 ≤ set
  some_set zero l = let e = size-empty in absurd (omega (arith, e, l))
  some_set (suc k) l = omega arith

  den_at : (k : ℕ) (d : Den) → slice_get c.dens k ≡ Some d → In d (graph_dens m n g)
  den_at k d e = in_by_number (graph_dens m n g) k d (ap (λ ds. slice_get ds k) (sym code.dens) ∙ e)

  pub plain_dens : AllByRecursion (IsPlainDen c.model.particles) c.dens
  plain_dens =
      let P : Model → Type 0 = λ x. AllByRecursion (IsPlainDen x.particles) c.dens in
      subst P (sym code.same_model) (all_rows (IsPlainDen m.particles) c.dens (λ k d e. let good = good_den d (den_at k d e) in record { legs = some_set d.legs good.inner.several; field = named m formed d.field good.is_a_field }))

  pub dens_keep : (k : ℕ) (d : Den) → slice_get c.dens k ≡ Some d → IsDen c k d
  dens_keep k d e = record {
    inner = subst (λ j. IsInner j d.legs) (sym (as_many_legs m p formed is g canonical c code)) (good_den d (den_at k d e)).inner;
    behind = λ earlier l f. behind_earlier (graph_dens m n g) (dens_are_edges_above (anti_field m.particles) n g.nodes).ordered k d earlier
        (ap (λ ds. slice_get ds k) (sym code.dens) ∙ e) l (ap (λ ds. slice_get ds (k - 1)) (sym code.dens) ∙ f);
  }
