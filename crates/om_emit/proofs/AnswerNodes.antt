-- The waves of the nodes of a canonical graph are those that its code makes.
use Rattle.std.proofs.Common.{◌≡◌, ℕ, zero, suc, ◌+◌, ◌-◌, ◌<◌, ◌≤◌, List, [], ◌∷◌, length, map, Bool, true, false, inl, inr, Some, refl, ap, ap₂, sym, subst, ◌∙◌, arith}
use Rattle.std.specs.Prelude.{◌/◌, ◌%◌, ◌==◌, if◌then◌else◌, slice_get, unwrap_or}
use Rattle.std.proofs.lemmas.Bool.{eqb-true}
use Rattle.std.proofs.lemmas.Option.{same_Some}
use mathlib.Core.Path.{fun_ext}
use Rattle.om_ring.specs.Members.{In}
use Rattle.om_ring.specs.Ops.{Ops, Laws}
use Rattle.om_ring.specs.Sums.{sum_over}
use Rattle.om_ring.proofs.RingLemmas.{times_left_comm}
use Rattle.om_ring.proofs.SumLemmas.{sum_over-ext, times-sum_over}
use Rattle.om_lorentz.specs.declared.structures.Spin.{Spin}
use Rattle.om_lorentz.specs.declared.structures.Spin.TheVariants.{Scalar, Dirac, Vector}
use Rattle.om_lorentz.specs.Propagators.{propagator}
use Rattle.om_lorentz.specs.Structures as structures
use Rattle.om_legs.specs.Legs as sets
use Rattle.om_kernel.specs.declared.waves.Wave.{Wave}
use Rattle.om_kernel.specs.declared.waves.Wave.TheVariants as waves
use Rattle.om_kernel.specs.Waves.{Kind, a_scalar, a_row, a_column, a_vector, component, kind_of}
use Rattle.om_kernel.specs.EdgeSums.{edge_sum}
use Rattle.om_model.specs.declared.process.Process.{Process}
use Rattle.om_model.specs.Entries.{four_of, numerator}
use Rattle.om_model.specs.Event.{Balances, Event, members, momentum_of}
use Rattle.om_model.specs.FeynmanRules.{FeynmanRules, Table}
use Rattle.om_model.specs.Model.{anti_field, spin_of_field}
use Rattle.om_model.specs.ModelLines.{kinds_of}
use Rattle.om_model.specs.Parts.{others}
use Rattle.om_model.specs.ProcessOf.{IsProcessOf}
use Rattle.om_model.specs.Propagator.{EdgeName, denominator}
use Rattle.om_model.specs.Theory.{Scattering}
use Rattle.om_model.specs.TwoSided.{AreOpposite}
use Rattle.om_model.specs.WellFormed.{IsWellFormed}
use Rattle.om_model.proofs.ModelFields.{anti_row}
use Rattle.om_model.proofs.TurnedEdge.{opposite}
use Rattle.om_model.proofs.TwoSided.{reversed_is}
use Rattle.om_graph.specs.declared.Graph.{Graph}
use Rattle.om_graph.specs.declared.Key.{Key}
use Rattle.om_graph.specs.declared.Term.{Term}
use Rattle.om_graph.specs.Possible.{unsigned}
use Rattle.om_legs.specs.BranchNodes.{nodes_of}
use Rattle.om_graph.specs.Reactions.{reaction_of}
use Rattle.om_graph.specs.Vertices.{Fuses, is_outward}
use Rattle.om_graph.proofs.KeysOfSides.{outward_of, side_of}
use Rattle.om_ring.proofs.Members.{in_filter, in_map}
use Rattle.om_graph.proofs.SetNodes.{in_by_number}
use Rattle.om_keystone.proofs.Numbers.{at_of}
use Rattle.om_keystone.specs.Built.{is_inner, terms_at, NodesAreBuilt}
use Rattle.om_keystone.specs.CanonicalGraph.{IsCanonicalOf}
use Rattle.om_keystone.specs.EdgeRules.{name_of, propagator_of}
use Rattle.om_keystone.specs.NodeNames.{field_of_side, side_without_leg_1}
use Rattle.om_keystone.specs.NodeWaves.{AreNodeWaves, part_of, term_value}
use Rattle.om_keystone.proofs.BuiltGraph.{canonical_is_built}
use Rattle.om_keystone.proofs.NodeNames.{nodes_have_names}
use Rattle.om_code.specs.declared.code.Code.{Code}
use Rattle.om_code.specs.declared.code.Den.{Den}
use Rattle.om_code.specs.declared.slots.Held.{Held}
use Rattle.om_code.specs.Contents.{Content, code_meaning, empty_content, moved_content, plus_content, wave_over}
use Rattle.om_code.specs.Meaning.{edge_of_den, factor_at}
use Rattle.om_code.specs.Slots as slots
use Rattle.om_code.specs.Waves.{Incoming, momentum_behind, plus_wave, wave_of, wave_of_leg}
use Rattle.om_machine.specs.Events.{IsMadeFor, kind_of_spin}
use Rattle.om_machine.proofs.ReadyWalk.{leg-kind, made-kind}
use Rattle.om_emit.specs.GraphCode.{IsCodeOf, den_of, den_place, graph_dens}
use Rattle.om_emit.specs.NodeCode.{added, gathered}
use Rattle.om_emit.specs.NodeContents.{AreNodeContents, node_content, term_content}
use Rattle.om_emit.proofs.AnswerSets.{IsSetOf, members_are, other_side}
use Rattle.om_emit.proofs.AnswerTerms.{content, content_at, event as event_in, fused-is, kind_of as kind_in, reaction, rules as rules_in, s as scattering_in, set_of_node}
use Rattle.om_emit.proofs.DenEdges.{dens_are_edges_above}
use Rattle.om_emit.proofs.DenPlaces.{place_there}
use Rattle.om_emit.proofs.GraphHelds.{as_many_legs, node_leg_keeps}
use Rattle.om_emit.proofs.HeldFinds.{held_meaning}
use Rattle.om_emit.proofs.HeldNodes.{gathering_held, ready_held}

module _ {E : Type 0} (o : Ops E) (l : Laws o) where
  four-ext : (f g : ℕ → E) → ((i : ℕ) → In i (0 ∷ 1 ∷ 2 ∷ 3 ∷ []) → f i ≡ g i) → four_of f ≡ four_of g
  four-ext f g h = rw (h 0 (inl refl), h 1 (inr (inl refl)), h 2 (inr (inr (inl refl))), h 3 (inr (inr (inr (inl refl))))) refl

  -- a wave is told by its components at the indices of its spin
  wave-ext : (spin : Spin) (b : Bool) (f g : ℕ → E) → ((i : ℕ) → In i (structures.indices_of spin) → f i ≡ g i) → wave_of (kind_of_spin spin b) f ≡ wave_of (kind_of_spin spin b) g
  wave-ext Scalar b f g h = ap waves.Scalar (h 0 (inl refl))
  wave-ext Vector b f g h = ap waves.Vector (four-ext f g h)
  wave-ext Dirac true f g h = ap waves.Column (four-ext f g h)
  wave-ext Dirac false f g h = ap waves.Row (four-ext f g h)

  wave-whole : (w : Wave E) → wave_of (kind_of w) (component w) ≡ w
  wave-whole (waves.Scalar x) = refl
  wave-whole (waves.Row q) = refl
  wave-whole (waves.Column q) = refl
  wave-whole (waves.Vector q) = refl

  plus-made : (k : Kind) (f g : ℕ → E) → plus_wave o (wave_of k f) (wave_of k g) ≡ wave_of k (λ j. o.plus (f j) (g j))
  plus-made a_scalar f g = refl
  plus-made a_row f g = refl
  plus-made a_column f g = refl
  plus-made a_vector f g = refl

  -- over an edge as of a diagram
  edge-is : (spin : Spin) (b : Bool) (m : E) (p q : ℕ → E) → AreOpposite o p q → (f : ℕ → E) (i : ℕ)
      → edge_sum o m (four_of p) (wave_of (kind_of_spin spin b) f) i ≡ sum_over o (structures.indices_of spin) (λ j. o.times (numerator o spin b m p q i j) (f j))
  edge-is Scalar b m p q h f i = refl
  edge-is Vector b m p q h f i = refl
  edge-is Dirac true m p q h f i = refl
  edge-is Dirac false m p q h f i = ap (λ k. sum_over o (structures.indices_of Dirac) (λ j. o.times (propagator o Dirac m k j i) (f j))) (reversed_is o l p q h)

  -- the waves that gather one after the other
  module _ (c : Code) (t : Table E) (e : Incoming E) (h : Held) (k : Kind) {A : Type 0} (f : A → ℕ → E) where
    abbrev one_of : A → Content E
    one_of x = (h, wave_of k (f x))

    added-is : (g : ℕ → E) (xs : List A) → added (plus_content o c t e) (h, wave_of k g) (map one_of xs) ≡ (h, wave_of k (λ j. o.plus (g j) (sum_over o xs (λ x. f x j))))
    added-is g [] = ap (λ u. (h, wave_of k u)) (fun_ext (λ j. sym (l.plus_zero (g j))))
    added-is g (x ∷ xs) =
        ap (λ w. added (plus_content o c t e) (h, w) (map one_of xs)) (plus-made k g (f x))
        ∙ added-is (λ j. o.plus (g j) (f x j)) xs
        ∙ ap (λ u. (h, wave_of k u)) (fun_ext (λ j. l.plus_assoc (g j) (f x j) (sum_over o xs (λ y. f y j))))

    gathered-is : (blank : Content E) (xs : List A) → 0 < length xs → gathered (plus_content o c t e) blank (map one_of xs) ≡ (h, wave_of k (λ j. sum_over o xs (λ x. f x j)))
    gathered-is blank [] some = absurd (omega (arith, some))
    gathered-is blank (x ∷ xs) some = added-is (f x) xs

map-same : {A B : Type 0} (f g : A → B) (xs : List A) → ((x : A) → In x xs → f x ≡ g x) → map f xs ≡ map g xs
map-same f g [] h = refl
map-same f g (x ∷ xs) h = ap₂ ◌∷◌ (h x (inl refl)) (map-same f g xs (λ y i. h y (inr i)))

pub built-at : (terms : List Term) (k : ℕ) (nodes : List Key) → NodesAreBuilt terms k nodes → (n : ℕ) (node : Key) → slice_get nodes n ≡ Some node → is_inner node ≡ true → 0 < length (terms_at terms (k + n))
built-at terms k [] b n node e inner = cc
built-at terms k (x ∷ nodes) b zero node e inner = (let same : x ≡ node = cc in let here : k ≡ k + 0 = omega arith in subst (λ m. 0 < length (terms_at terms m)) here (b.0 (ap is_inner same ∙ inner)).0)
built-at terms k (x ∷ nodes) b (suc n) node e inner = (let next : suc k + n ≡ k + suc n = omega arith in subst (λ m. 0 < length (terms_at terms m)) next (built-at terms (suc k) nodes b.1 n node e inner))

module _ {E : Type 0} (o : Ops E) (l : Laws o) (c : Code) (p : Process) (formed : IsWellFormed c.model) (of : IsProcessOf c.model p) (g : Graph) (canonical : IsCanonicalOf (reaction_of c.model p) g)
    (code : IsCodeOf c.model p g c) (t : Table E) (e : Incoming E) (wave : ℕ → ℕ → E) where
  abbrev scattering : Scattering
  scattering = scattering_in o l c p formed of g canonical code t e wave

  abbrev rules : FeynmanRules E
  rules = rules_in o l c p formed of g canonical code t e wave

  abbrev event : Event E
  event = event_in o l c p formed of g canonical code t e wave

  abbrev anti : ℕ → ℕ
  anti = anti_field c.model.particles

  small : scattering.size ≤ 12
  small = (reaction o l c p formed of g canonical code t e wave).most

  node_set : (k : Key) → In k g.nodes → IsSetOf scattering.size k.legs
  node_set = set_of_node o l c p formed of g canonical code t e wave

  pub node_outward : (k : Key) → In k g.nodes → is_outward scattering.size k.legs ≡ true
  node_outward k i =
      let r = reaction_of c.model p in
      let known = reaction o l c p formed of g canonical code t e wave in
      let edge = (canonical.graph.nodes k).0 i in
      let side = side_of r (kinds_of c.model.particles) known edge.0 k edge.2 in
      ap (λ (j : Key). is_outward scattering.size j.legs) side.1 ∙ outward_of r (kinds_of c.model.particles) known edge.0 side.0.subtree side.0.light

  pub side_set : (k : Key) → In k g.nodes → IsSetOf scattering.size (side_without_leg_1 scattering k)
  side_set k i = by (sets.holds k.legs 1)
    where
      by : (b : Bool) → IsSetOf scattering.size (if b then sets.complement k.legs scattering.size else k.legs)
      by true = other_side scattering.size small k.legs (node_set k i) (reaction o l c p formed of g canonical code t e wave).least (node_outward k i)
      by false = node_set k i

  -- the denominator of a node by its side without leg 1
  pub den-is : (k : Key) → den_of anti scattering.size k ≡ record { legs = side_without_leg_1 scattering k; field = field_of_side scattering k }
  unfolding den_of
  den-is k = by (sets.holds k.legs 1)
    where
      by : (b : Bool) → (let d : Den = if b then record { legs = sets.complement k.legs scattering.size; field = anti k.field } else record { legs = k.legs; field = k.field } in d)
          ≡ record { legs = if b then sets.complement k.legs scattering.size else k.legs; field = if b then anti k.field else k.field }
      by true = refl
      by false = refl

  -- the edge that it names is the one above the node
  pub name-is : (k : Key) → In k g.nodes → edge_of_den (den_of anti scattering.size k) ≡ name_of scattering (part_of k)
  name-is k i =
      let named = nodes_have_names c.model p formed of g canonical k i in
      ap edge_of_den (den-is k)
      ∙ ap₂ (λ ks f. let name : EdgeName = record { legs = ks; field = f } in name) (sym (members_are scattering.size small (side_without_leg_1 scattering k) (side_set k i)) ∙ sym named.legs) (sym named.field)

  row-is : (k : Key) → (den_of anti scattering.size k).field / 2 ≡ k.field / 2
  row-is k = ap (λ (d : Den). d.field / 2) (den-is k) ∙ by (sets.holds k.legs 1)
    where
      by : (b : Bool) → (if b then anti k.field else k.field) / 2 ≡ k.field / 2
      by true = anti_row c.model.particles k.field
      by false = refl

  den_there : (k : Key) → In k g.nodes → is_inner k ≡ true → slice_get c.dens (den_place c.model (length p.legs) g k) ≡ Some (den_of anti scattering.size k)
  den_there k i inner =
      ap (λ ds. slice_get ds (den_place c.model (length p.legs) g k)) code.dens
      ∙ place_there (graph_dens c.model (length p.legs) g) (den_of anti scattering.size k)
      (((dens_are_edges_above anti scattering.size g.nodes).members (den_of anti scattering.size k)).1 (record { node = k; is_node = i; inner = inner; edge = refl }))

  -- the norm and the inverse denominator of the edge above a node
  abbrev factor_of : Key → E
  factor_of k = o.times (rules.norm (k.field / 2)) (unwrap_or (o.inverse (denominator o rules event (name_of scattering (part_of k)))) o.zero)

  factor-is : (k : Key) → In k g.nodes → is_inner k ≡ true → factor_at o c t e (slice_get c.dens (den_place c.model (length p.legs) g k)) ≡ factor_of k
  factor-is k i inner =
      ap (factor_at o c t e) (den_there k i inner)
      ∙ ap₂ (λ row name. o.times (rules.norm row) (unwrap_or (o.inverse (denominator o rules event name)) o.zero)) (row-is k) (name-is k i)

  module _ (made : IsMadeFor c e) (are : AreNodeWaves o scattering rules event g wave) where
    abbrev kind : ℕ → Kind
    kind f = kind_in o l c p formed of g canonical code t e wave f

    abbrev held_by : ℕ → Content E
    held_by = content o l c p formed of g canonical code t e wave

    abbrev added_up : ℕ → Key → ℕ → E
    added_up n k j = sum_over o (terms_at g.terms n) (term_value o scattering rules event g wave k j)

    abbrev inner_value : ℕ → Key → ℕ → E
    inner_value n k i = sum_over o (structures.indices_of (spin_of_field c.model.particles k.field)) (λ j. o.times (propagator_of o scattering rules event (part_of k) i j) (added_up n k j))

    -- a leg
    leg-is : (n : ℕ) (k : Key) → slice_get g.nodes n ≡ Some k → is_inner k ≡ false → content_at o l c p formed of g canonical code t e wave (Some k) n ≡ (code_meaning o c t e).loaded (sets.least k.legs)
    unfolding held_meaning
    leg-is n k at leg =
        let keeps = node_leg_keeps c.model p formed of g canonical c code n k at leg in
        let most = keeps.there in
        let sized = as_many_legs c.model p formed of g canonical c code in
        let many = of.least in
        let w = wave_of_leg o e (sets.least k.legs) in
        let f : ℕ = slots.field_of_leg c (sets.least k.legs) in
        let same_field : f ≡ k.field = ap (λ (h : Held). h.field) keeps.loaded in
        let is_kind : kind_of w ≡ kind k.field = leg-kind o kind e.waves c.legs made.waves (sets.least k.legs - 1) (omega arith) ∙ ap kind same_field in
        let known : (i : ℕ) → In i (structures.indices_of (spin_of_field c.model.particles k.field)) → wave n i ≡ component w i = λ i j. are n k at i j ∙ ap (λ b. if b then inner_value n k i else component w i) leg in
        ap₂ (λ h u. (h, u)) (sym keeps.loaded)
        (wave-ext o l (spin_of_field c.model.particles k.field) (k.field % 2 == 0) (wave n) (component w) known ∙ ap (λ q. wave_of q (component w)) (sym is_kind) ∙ wave-whole o l w)

    term-is : (n : ℕ) (k : Key) → slice_get g.nodes n ≡ Some k → (x : Term) → In x (terms_at g.terms n)
        → term_content (plus_content o c t e) (empty_content o c t e) (code_meaning o c t e) held_by x ≡ (gathering_held k, wave_of (kind k.field) (λ j. term_value o scattering rules event g wave k j x))
    unfolding terms_at
    term-is n k at x i =
        let f = (in_filter (λ t. t.node == n) x g.terms).0 i in
        let met = (canonical.graph.terms (unsigned x)).0 (in_map unsigned x g.terms f.0) in
        let same : met.node ≡ k = same_Some met.node k (sym met.is_node ∙ ap (slice_get g.nodes) (eqb-true x.node n f.1) ∙ at) in
        fused-is o l c p formed of g canonical code t e wave met.met.field x.vertex x.choice (nodes_of x.branches) met.branches k (at_of g.nodes (nodes_of x.branches) met.branches met.are_branches) (in_by_number g.nodes n k at)
        (subst (Fuses (reaction_of c.model p) met.met.field x.vertex x.choice met.branches) same met.met.fuse) x.minus

    gathers : (n : ℕ) (k : Key) → slice_get g.nodes n ≡ Some k → is_inner k ≡ true
        → gathered (plus_content o c t e) (empty_content o c t e) (map (term_content (plus_content o c t e) (empty_content o c t e) (code_meaning o c t e) held_by) (terms_at g.terms n))
        ≡ (gathering_held k, wave_of (kind k.field) (added_up n k))
    gathers n k at inner =
        let f : Term → ℕ → E = λ x j. term_value o scattering rules event g wave k j x in
        let some : 0 < length (terms_at g.terms (0 + n)) = built-at g.terms 0 g.nodes (canonical_is_built c.model p formed of g canonical).nodes n k at inner in
        ap (gathered (plus_content o c t e) (empty_content o c t e)) (map-same _ (one_of o l c t e (gathering_held k) (kind k.field) f) (terms_at g.terms n) (term-is n k at))
        ∙ gathered-is o l c t e (gathering_held k) (kind k.field) f (empty_content o c t e) (terms_at g.terms n) (let here : 0 + n ≡ n = omega arith in subst (λ m. 0 < length (terms_at g.terms m)) here some)

    module _ (balanced : Balances o event scattering.size) where
      abbrev before : Key → ℕ → E
      before k = momentum_of o event (members scattering.size (sets.holds k.legs))

      abbrev behind : Key → ℕ → E
      behind k = momentum_of o event (members scattering.size (others scattering.size (sets.holds k.legs)))

      over-edge : (k : Key) → In k g.nodes → (f : ℕ → E) (i : ℕ)
          → sum_over o (structures.indices_of (spin_of_field c.model.particles k.field)) (λ j. o.times (propagator_of o scattering rules event (part_of k) i j) (f j))
          ≡ o.times (factor_of k) (edge_sum o (t.mass (k.field / 2)) (momentum_behind o e k.legs) (wave_of (kind k.field) f) i)
      unfolding propagator_of
      over-edge k i f j =
          let spin = spin_of_field c.model.particles k.field in
          let top : ℕ → E = λ m. numerator o spin (k.field % 2 == 0) (t.mass (k.field / 2)) (before k) (behind k) j m in
          sum_over-ext o (structures.indices_of spin) _ _ (λ m. l.times_assoc (top m) (factor_of k) (f m) ∙ times_left_comm o l (top m) (factor_of k) (f m))
          ∙ sym (times-sum_over o l (factor_of k) (structures.indices_of spin) (λ m. o.times (top m) (f m)))
          ∙ ap (o.times (factor_of k)) (sym (edge-is o l spin (k.field % 2 == 0) (t.mass (k.field / 2)) (before k) (behind k) (opposite o l event scattering.size (sets.holds k.legs) balanced) f j)
          ∙ ap (λ ks. edge_sum o (t.mass (k.field / 2)) (four_of (momentum_of o event ks)) (wave_of (kind k.field) f) j) (members_are scattering.size small k.legs (node_set k i)))

      -- an inner node
      inner-is : (n : ℕ) (k : Key) → slice_get g.nodes n ≡ Some k → is_inner k ≡ true → content_at o l c p formed of g canonical code t e wave (Some k) n
          ≡ moved_content o c t e (den_place c.model (length p.legs) g k) (gathering_held k, wave_of (kind k.field) (added_up n k))
      unfolding moved_content wave_over
      inner-is n k at inner =
          let i = in_by_number g.nodes n k at in
          let spin = spin_of_field c.model.particles k.field in
          let w = wave_of (kind k.field) (added_up n k) in
          let den = den_place c.model (length p.legs) g k in
          ap (λ u. (ready_held k, u))
          (wave-ext o l spin (k.field % 2 == 0) (wave n) (λ j. o.times (factor_at o c t e (slice_get c.dens den)) (edge_sum o (t.mass (k.field / 2)) (momentum_behind o e k.legs) w j))
          (λ j m. are n k at j m ∙ ap (λ b. if b then inner_value n k j else event.wave (sets.least k.legs) j) inner ∙ over-edge k i (added_up n k) j
          ∙ ap (λ x. o.times x (edge_sum o (t.mass (k.field / 2)) (momentum_behind o e k.legs) w j)) (sym (factor-is k i inner)))
          ∙ ap (λ q. wave_of q (λ j. o.times (factor_at o c t e (slice_get c.dens den)) (edge_sum o (t.mass (k.field / 2)) (momentum_behind o e k.legs) w j))) (sym (made-kind o (kind k.field) (added_up n k))))

      node-is : (n : ℕ) (k : Key) → slice_get g.nodes n ≡ Some k → held_by n ≡ node_content (plus_content o c t e) (empty_content o c t e) (code_meaning o c t e) (den_place c.model (length p.legs) g) g.terms held_by n k
      unfolding node_content
      node-is n k at = ap (λ x. content_at o l c p formed of g canonical code t e wave x n) at ∙ by (is_inner k) refl
        where
          by : (b : Bool) → is_inner k ≡ b → content_at o l c p formed of g canonical code t e wave (Some k) n
              ≡ (if b then moved_content o c t e (den_place c.model (length p.legs) g k) (gathered (plus_content o c t e) (empty_content o c t e) (map (term_content (plus_content o c t e) (empty_content o c t e) (code_meaning o c t e) held_by) (terms_at g.terms n)))
              else (code_meaning o c t e).loaded (sets.least k.legs))
          by true inner = inner-is n k at inner ∙ ap (moved_content o c t e (den_place c.model (length p.legs) g k)) (sym (gathers n k at inner))
          by false leg = leg-is n k at leg

      nodes-from : (m : ℕ) (nodes : List Key) → ((n : ℕ) (k : Key) → slice_get nodes n ≡ Some k → slice_get g.nodes (m + n) ≡ Some k)
          → AreNodeContents {S = List E} (plus_content o c t e) (empty_content o c t e) (code_meaning o c t e) (den_place c.model (length p.legs) g) g.terms held_by m nodes
      nodes-from m [] h = tt
      nodes-from m (k ∷ nodes) h =
          let here : m ≡ m + 0 = omega arith in (
            node-is m k (ap (slice_get g.nodes) here ∙ h 0 k refl),
            nodes-from (suc m) nodes (λ n x q. let next : suc m + n ≡ m + suc n = omega arith in ap (slice_get g.nodes) next ∙ h (suc n) x q),
          )

      -- the waves of the nodes, put together, are what the nodes hold
      pub contents-are : AreNodeContents {S = List E} (plus_content o c t e) (empty_content o c t e) (code_meaning o c t e) (den_place c.model (length p.legs) g) g.terms held_by 0 g.nodes
      contents-are = nodes-from 0 g.nodes (λ n k q. let none : 0 + n ≡ n = omega arith in ap (slice_get g.nodes) none ∙ q)
