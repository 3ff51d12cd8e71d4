-- What the terms and the keystone terms of a canonical graph make of the waves of its nodes is what the code makes of them.
use Rattle.std.proofs.Common.{◌≡◌, ℕ, zero, suc, ◌<◌, List, [], ◌∷◌, ◌++◌, length, map, Bool, true, false, ◌⊎◌, inl, inr, Option, Some, None, refl, ap, ap₂, sym, subst, ◌∙◌, arith, leb, true≢false}
use Rattle.std.proofs.lemmas.Bool.Decides.{nat_tests}
use Rattle.std.specs.Prelude.{slice_get, slice_index_or}
use Rattle.std.proofs.lemmas.Option.{slice_get_cases}
use mathlib.Core.Path.{fun_ext}
use Rattle.om_ring.specs.Members.{In}
use Rattle.om_ring.specs.Ops.{Ops, Laws, signed}
use Rattle.om_ring.specs.Sums.{sum_over}
use Rattle.om_ring.proofs.SumLemmas.{sum_over-ext}
use Rattle.om_legs.specs.Legs as sets
use Rattle.om_legs.specs.Splits.{IsSplit}
use Rattle.om_legs.proofs.Bits.{holds-zero}
use Rattle.om_legs.proofs.Least.{held_some}
use Rattle.om_legs.proofs.Operations.{IsLegSet-all_legs, holds-all_legs}
use Rattle.om_colour.specs.declared.Flow.{Flow}
use Rattle.om_kernel.specs.declared.waves.Wave.{Wave}
use Rattle.om_kernel.specs.Waves.{Kind, a_scalar, a_row, a_column, a_vector}
use Rattle.om_kernel.specs.IndexSums.{fused_kind, full_sum, index_sum, kinds}
use Rattle.om_model.specs.declared.model.Particle.{Particle}
use Rattle.om_model.specs.declared.model.Vertex.{Vertex}
use Rattle.om_model.specs.declared.process.Process.{Process}
use Rattle.om_model.specs.Diagram.{same_numbers, times_in}
use Rattle.om_model.specs.Entries.{factors_of, feynman_rules}
use Rattle.om_model.specs.Event.{Event}
use Rattle.om_model.specs.FeynmanRules.{FeynmanRules, Table}
use Rattle.om_model.specs.Model.{anti_field, scattering_of, spin_of_field}
use Rattle.om_model.specs.ModelLines.{kinds_of}
use Rattle.om_model.specs.Parts.{Part, within}
use Rattle.om_model.specs.ProcessOf.{IsProcessOf}
use Rattle.om_model.specs.Theory.{Scattering}
use Rattle.om_model.specs.Value.{vertex_entry}
use Rattle.om_model.specs.WellFormed.{IsWellFormed}
use Rattle.om_model.proofs.Counting.{same_times}
use Rattle.om_model.proofs.ModelFields.{anti_anti}
use Rattle.om_graph.specs.declared.Graph.{Graph}
use Rattle.om_graph.specs.declared.Key.{Key}
use Rattle.om_graph.specs.Reactions.{reaction_of}
use Rattle.om_graph.specs.TreeKeys.{IsReaction}
use Rattle.om_graph.specs.Vertices.{Fuses, Closes, fields_of, sets_of}
use Rattle.om_graph.proofs.HaveReactions.{well_formed_have_reactions}
use Rattle.om_keystone.specs.CanonicalGraph.{IsCanonicalOf}
use Rattle.om_keystone.specs.EdgeRules.{opposite, with_indices}
use Rattle.om_keystone.specs.NodeWaves.{indices_at, keys_at, meet_at, node_indices, part_of}
use Rattle.om_keystone.proofs.Numbers.{At, keys_are}
use Rattle.om_keystone.proofs.Numbers.At.{at_none, at_more}
use Rattle.om_code.specs.declared.code.Code.{Code}
use Rattle.om_code.specs.Contents.{Content, EnteringWave, entering, empty_content, fused_content, fused_of, made_number, made_wave, open_slot, slots_of, waves_in_slots}
use Rattle.om_code.specs.Rules.{size_of}
use Rattle.om_code.specs.Slots.{slots_of_vertex}
use Rattle.om_code.specs.Vertices.{reading_of_vertex, structure_of}
use Rattle.om_code.specs.Waves.{Incoming, event_of, signed_wave, wave_of}
use Rattle.om_machine.specs.Events.{kind_of_field}
use Rattle.om_machine.proofs.FieldKinds.{AreWell, anti-kind, fused-opposite, slots-kinds}
use Rattle.om_machine.proofs.FieldKinds as fields
use Rattle.om_machine.proofs.ReadyWalk.{opposite-at}
use Rattle.om_emit.specs.GraphCode.{IsCodeOf}
use Rattle.om_emit.proofs.GraphHelds.{as_many_legs, fuse_makes}
use Rattle.om_emit.proofs.HeldFinds.{fused_held}
use Rattle.om_emit.proofs.HeldNodes.{gathering_held, ready_held}
use Rattle.om_emit.proofs.AnswerKernels.{nested, open_edges}
use Rattle.om_emit.proofs.AnswerMeets.{AreMet, closes-in, fuses-in, opens-at, wave-sum}
use Rattle.om_emit.proofs.AnswerSets.{IsSetOf, node_set, other_side, others_are}
use Rattle.om_emit.proofs.AnswerSlots.{part_in}

signed-of : {E : Type 0} (o : Ops E) (b : Bool) (k : Kind) (f : ℕ → E) → signed_wave o b (wave_of k f) ≡ wave_of k (λ n. signed o b (f n))
signed-of o false k f = refl
signed-of o true a_scalar f = refl
signed-of o true a_row f = refl
signed-of o true a_column f = refl
signed-of o true a_vector f = refl

module _ {E : Type 0} (o : Ops E) (l : Laws o) (c : Code) (p : Process) (formed : IsWellFormed c.model) (of : IsProcessOf c.model p) (g : Graph) (canonical : IsCanonicalOf (reaction_of c.model p) g)
    (code : IsCodeOf c.model p g c) (t : Table E) (e : Incoming E) (wave : ℕ → ℕ → E) where
  abbrev pub particles : List Particle
  particles = c.model.particles

  abbrev pub s : Scattering
  s = scattering_of c.model p

  abbrev pub rules : FeynmanRules E
  rules = feynman_rules o c.model t

  abbrev pub event : Event E
  event = event_of o e

  abbrev pub kind_of : ℕ → Kind
  kind_of f = kind_of_field particles f

  sized : size_of c ≡ length p.legs
  sized = as_many_legs c.model p formed of g canonical c code

  pub reaction : IsReaction (reaction_of c.model p) (kinds_of particles)
  reaction = well_formed_have_reactions c.model p formed of

  pub are-well : AreWell particles
  are-well k q at own = (formed.formed_particles k q at).own_anti own

  pub set_of_node : (k : Key) → In k g.nodes → IsSetOf s.size k.legs
  set_of_node k i = node_set (reaction_of c.model p) (kinds_of particles) reaction g canonical k i

  abbrev pub wave_on : ℕ → Key → Wave E
  wave_on n k = wave_of (kind_of k.field) (wave n)

  abbrev pub content_at : Option Key → ℕ → Content E
  content_at None n = empty_content o c t e
  content_at (Some k) n = (ready_held k, wave_on n k)

  -- its wave put together from its components
  abbrev pub content : ℕ → Content E
  content n = content_at (slice_get g.nodes n) n

  -- what enters through some nodes
  abbrev met : List ℕ → List Key → List (EnteringWave E)
  met [] ks = []
  met (n ∷ ns) [] = []
  met (n ∷ ns) (k ∷ ks) = record { legs = k.legs; field = k.field; wave = Some (wave_on n k) } ∷ met ns ks

  entered-are : {ns : List ℕ} {ks : List Key} → At g.nodes ns ks → map entering (map content ns) ≡ met ns ks
  entered-are at_none = refl
  entered-are (at_more {n = n} q a) = ap₂ (λ x rest. entering (content_at x n) ∷ rest) q (entered-are a)

  helds-are : {ns : List ℕ} {ks : List Key} → At g.nodes ns ks → map (λ w. w.0) (map content ns) ≡ map ready_held ks
  helds-are at_none = refl
  helds-are (at_more {n = n} q a) = ap₂ (λ x rest. (content_at x n).0 ∷ rest) q (helds-are a)

  met-legs : {ns : List ℕ} {ks : List Key} → At g.nodes ns ks → map (λ q. q.legs) (met ns ks) ≡ sets_of ks
  met-legs at_none = refl
  met-legs (at_more {y = k} q a) = ap (λ xs. k.legs ∷ xs) (met-legs a)

  met-fields : {ns : List ℕ} {ks : List Key} → At g.nodes ns ks → map (λ q. q.field) (met ns ks) ≡ fields_of ks
  met-fields at_none = refl
  met-fields (at_more {y = k} q a) = ap (λ xs. k.field ∷ xs) (met-fields a)

  met-parts : {ns : List ℕ} {ks : List Key} → At g.nodes ns ks → map part_in (met ns ks) ≡ map part_of ks
  met-parts at_none = refl
  met-parts (at_more {y = k} q a) = ap (λ xs. part_of k ∷ xs) (met-parts a)

  met-full : {ns : List ℕ} {ks : List Key} → At g.nodes ns ks → open_edges o (met ns ks) ≡ 0
  met-full at_none = refl
  met-full (at_more q a) = let rest = met-full a in omega arith

  met-length : {ns : List ℕ} {ks : List Key} → At g.nodes ns ks → length (met ns ks) ≡ length ks
  met-length at_none = refl
  met-length (at_more q a) = ap suc (met-length a)

  met-sum : {ns : List ℕ} {ks : List Key} → At g.nodes ns ks → (j : ℕ) (f : List ℕ → E) → nested o l j (met ns ks) f ≡ meet_at o (node_indices o s rules event g) g.nodes wave ns f
  unfolding meet_at
  met-sum at_none j f = refl
  met-sum (at_more {n = n} {ns = ns} {y = k} {ys = ks} q a) j f =
      wave-sum o l (spin_of_field particles k.field) _ (wave n) (λ i. nested o l j (met ns ks) (λ is. f (i ∷ is)))
      ∙ sum_over-ext o (rules.indices k.field) _ _ (λ i. ap (o.times (wave n i)) (met-sum a j (λ is. f (i ∷ is))))
      ∙ ap (λ x. sum_over o (indices_at (node_indices o s rules event g) x) (λ i. o.times (wave n i) (meet_at o (node_indices o s rules event g) g.nodes wave ns (λ is. f (i ∷ is))))) (sym q)

  -- a vertex row by what stands there
  vertex_at : (v : ℕ) → v < length c.model.vertices → (x : Vertex) × (slice_get c.model.vertices v ≡ Some x)
  vertex_at v below = elim (slice_get_cases c.model.vertices v).1 [
    | inl w ↦ (w.0, w.2)
    | inr q ↦ absurd (omega (arith, q.0))
  ]

  -- the kinds of the fields of its slots
  slots-are : (v : ℕ) (x : Vertex) → slice_get c.model.vertices v ≡ Some x → map kind_of (s.theory.slots v) ≡ kinds (structure_of c v)
  slots-are v x at =
      let formed_slots = (formed.formed_vertices v x at).pattern.0 in
      rw at (slots-kinds particles x.structure x.fields formed_slots.spins_are formed_slots.fermions)

  module _ (f v ch : ℕ) (ns : List ℕ) (ks : List Key) (k : Key) (a : At g.nodes ns ks) (i : In k g.nodes) (fuse : Fuses (reaction_of c.model p) f v ch ks k) where
    fits : same_numbers (anti_field particles k.field ∷ fields_of ks) (s.theory.slots v) ≡ true
    fits = subst (λ x. same_numbers (anti_field particles x ∷ fields_of ks) (s.theory.slots v) ≡ true) (sym fuse.has_field) fuse.slots

    fused-held : fused_of o c t e v (map ready_held ks) ≡ gathering_held k
    unfolding fused_of fused_held
    fused-held = fuse_makes c.model p formed of g canonical c code f v ch ks k fuse

    are_met : AreMet o s.size k.legs (s.theory.slots v) (met ns ks)
    are_met = record {
      set = set_of_node k i;
      split = subst (λ xs. IsSplit (length (met ns ks)) k.legs xs) (sym (met-legs a)) (subst (λ m. IsSplit m k.legs (sets_of ks)) (sym (met-length a)) fuse.split);
      full = met-full a;
    }

    other : IsSetOf s.size (sets.complement k.legs s.size)
    other = other_side s.size reaction.most k.legs (set_of_node k i) reaction.least fuse.outward

    fit : (n : ℕ) → times_in n (s.theory.slots v) ≡ times_in n (anti_field particles k.field ∷ map (λ q. q.field) (met ns ks))
    fit n = sym (same_times (anti_field particles k.field ∷ fields_of ks) (s.theory.slots v) fits n) ∙ ap (λ xs. times_in n (anti_field particles k.field ∷ xs)) (sym (met-fields a))

    many : (length (met ns ks) ≡ 2) ⊎ (length (met ns ks) ≡ 3)
    many = subst (λ n. (n ≡ 2) ⊎ (n ≡ 3)) (sym (met-length a)) fuse.counted

    abbrev up_at : ℕ → EnteringWave E
    up_at n = record { legs = sets.complement k.legs n; field = anti_field particles k.field; wave = None }

    abbrev wave_at : Bool → ℕ → Wave E
    wave_at minus n =
        let qs = waves_in_slots (slots_of_vertex c v) (met ns ks ++ up_at n ∷ []) in
        signed_wave o minus (wave_of (fused_kind (structure_of c v) (open_slot qs))
        (λ j. o.times o.imag (index_sum o (structure_of c v) (reading_of_vertex c v ch) (factors_of o (t.factors v)) (slots_of o c t e qs) (open_slot qs) j)))

    -- what the term adds to its node
    abbrev added_at : Bool → ℕ → E
    added_at minus j = signed o minus (meet_at o (node_indices o s rules event g) g.nodes wave ns (λ is. vertex_entry o s rules event v ch ((opposite s (part_of k), j) ∷ with_indices (map part_of (keys_at g.nodes ns)) is)))

    module _ (x : Vertex) (at : slice_get c.model.vertices v ≡ Some x) where
      kind-is : fused_kind (structure_of c v) (open_slot (waves_in_slots (s.theory.slots v) (met ns ks ++ up_at s.size ∷ []))) ≡ kind_of k.field
      kind-is =
          let u = anti_field particles k.field in
          let w = opens-at o l s reaction.most c t e v ch x at k.legs (met ns ks) are_met u other fit many in
          ap (fused_kind (structure_of c v)) w.1 ∙ fused-opposite (structure_of c v) w.0
          ∙ ap (λ xs. slice_index_or (map fields.opposite xs) w.0 a_scalar) (sym (slots-are v x at))
          ∙ opposite-at kind_of (s.theory.slots v) w.0 u w.2
          ∙ sym (anti-kind particles are-well u) ∙ ap kind_of (anti_anti particles k.field)

      sum-is : (j : ℕ) → let qs = waves_in_slots (s.theory.slots v) (met ns ks ++ up_at s.size ∷ []) in
          o.times o.imag (index_sum o (structure_of c v) (reading_of_vertex c v ch) (factors_of o (t.factors v)) (slots_of o c t e qs) (open_slot qs) j)
          ≡ meet_at o (node_indices o s rules event g) g.nodes wave ns (λ is. vertex_entry o s rules event v ch ((opposite s (part_of k), j) ∷ with_indices (map part_of (keys_at g.nodes ns)) is))
      sum-is j =
          let entry : Part → List Part → List ℕ → E = λ q qs is. vertex_entry o s rules event v ch ((q, j) ∷ with_indices qs is) in
          fuses-in o l s reaction.most c t e v ch x at k.legs (met ns ks) are_met (anti_field particles k.field) other fit many j
          ∙ ap₂ (λ q qs. nested o l j (met ns ks) (entry q qs)) (ap (λ b. let q : Part = record { field = anti_field particles k.field; behind = b } in q) (sym (others_are s.size reaction.most k.legs (set_of_node k i)))) (met-parts a ∙ ap (map part_of) (sym (keys_are a)))
          ∙ met-sum a j (entry (opposite s (part_of k)) (map part_of (keys_at g.nodes ns)))

      made-is : (minus : Bool) → wave_at minus s.size ≡ wave_of (kind_of k.field) (added_at minus)
      made-is minus =
          let qs = waves_in_slots (s.theory.slots v) (met ns ks ++ up_at s.size ∷ []) in
          signed-of o minus (fused_kind (structure_of c v) (open_slot qs)) _
          ∙ ap₂ wave_of kind-is (fun_ext (λ j. ap (signed o minus) (sum-is j)))

    fused-wave : (minus : Bool) → made_wave o c t e minus v ch (gathering_held k) (met ns ks) ≡ wave_of (kind_of k.field) (added_at minus)
    unfolding made_wave
    fused-wave minus = ap (wave_at minus) sized ∙ (let x = vertex_at v fuse.vertex in made-is x.0 x.1 minus)

    -- what the code makes of the nodes
    pub fused-is : (minus : Bool) → fused_content o c t e minus v ch (map content ns) ≡ (gathering_held k, wave_of (kind_of k.field) (added_at minus))
    unfolding fused_content
    fused-is minus =
        ap₂ (λ hs qs. (fused_of o c t e v hs, made_wave o c t e minus v ch (fused_of o c t e v hs) qs)) (helds-are a) (entered-are a)
        ∙ ap (λ h. (h, made_wave o c t e minus v ch h (met ns ks))) fused-held
        ∙ ap (λ w. (gathering_held k, w)) (fused-wave minus)

  all_set : IsSetOf s.size (sets.all_legs s.size)
  all_set =
      let many = reaction.least in
      record {
        is_set = IsLegSet-all_legs s.size;
        some = held_some (sets.all_legs s.size) 1 (holds-all_legs s.size 1 reaction.most (let one : 0 < 1 = omega arith in one) ∙ (let first : leb 1 s.size ≡ true = grind (arith, nat_tests) in first));
        inside = inside;
      }
    where
      inside : (k : ℕ) → sets.holds (sets.all_legs s.size) k ≡ true → within s.size k ≡ true
      inside zero h = absurd (true≢false (sym h ∙ holds-zero (sets.all_legs s.size)))
      inside (suc k) h = let e : leb (suc k) s.size ≡ true = sym (holds-all_legs s.size (suc k) reaction.most (let p : 0 < suc k = omega arith in p)) ∙ h in grind (arith, nat_tests)

  module _ (v ch : ℕ) (ns : List ℕ) (ks : List Key) (w : Flow) (a : At g.nodes ns ks) (close : Closes (reaction_of c.model p) v ch ks w) where
    key_met : AreMet o s.size (sets.all_legs s.size) (s.theory.slots v) (met ns ks)
    key_met = record {
      set = all_set;
      split = subst (λ xs. IsSplit (length (met ns ks)) (sets.all_legs s.size) xs) (sym (met-legs a)) (subst (λ m. IsSplit m (sets.all_legs s.size) (sets_of ks)) (sym (met-length a)) close.split);
      full = met-full a;
    }

    key_fit : (n : ℕ) → times_in n (s.theory.slots v) ≡ times_in n (map (λ q. q.field) (met ns ks))
    key_fit n = sym (same_times (fields_of ks) (s.theory.slots v) close.slots n) ∙ ap (times_in n) (sym (met-fields a))

    key_many : (length (met ns ks) ≡ 3) ⊎ (length (met ns ks) ≡ 4)
    key_many = subst (λ n. (n ≡ 3) ⊎ (n ≡ 4)) (sym (met-length a)) close.counted

    -- what the code makes of the nodes at a keystone
    pub closed-is : (minus : Bool) → made_number o c t e minus v ch (map entering (map content ns))
        ≡ signed o minus (meet_at o (node_indices o s rules event g) g.nodes wave ns (λ is. vertex_entry o s rules event v ch (with_indices (map part_of (keys_at g.nodes ns)) is)))
    unfolding made_number
    closed-is minus =
        let x = vertex_at v close.vertex in
        let entry : List Part → List ℕ → E = λ qs is. vertex_entry o s rules event v ch (with_indices qs is) in
        ap (λ qs. signed o minus (o.times o.imag (full_sum o (structure_of c v) (reading_of_vertex c v ch) (factors_of o (t.factors v)) (slots_of o c t e (waves_in_slots (slots_of_vertex c v) qs))))) (entered-are a)
        ∙ ap (signed o minus) (closes-in o l s reaction.most c t e v ch x.0 x.1 (sets.all_legs s.size) (met ns ks) key_met key_fit key_many 0
        ∙ ap (λ qs. nested o l 0 (met ns ks) (entry qs)) (met-parts a ∙ ap (map part_of) (sym (keys_are a)))
        ∙ met-sum a 0 (entry (map part_of (keys_at g.nodes ns))))
