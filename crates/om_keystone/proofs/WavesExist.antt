-- The nodes of a canonical graph have wave functions, made one after the other.
use Rattle.std.proofs.Common.{◌≡◌, ℕ, zero, suc, ◌+◌, ◌<◌, List, [], ◌∷◌, map, Bool, true, false, cond, inl, inr, refl, ap, ap₂, subst, ◌-◌, ◌∙◌, arith}
use Rattle.std.specs.Prelude.{Option, Some, None, slice_get, ◌==◌, if◌then◌else◌}
use Rattle.std.proofs.lemmas.Bool.{eqb-true}
use Rattle.std.proofs.lemmas.Bool.Decides.{nat_tests}
use Rattle.om_ring.specs.Members.{In}
use Rattle.om_ring.specs.Ops.{Ops, signed}
use Rattle.om_ring.specs.Sums.{sum_over}
use Rattle.om_ring.proofs.SumLemmas.{sum_over-same, sum_over-ext}
use Rattle.om_legs.specs.Legs.{least}
use Rattle.om_model.specs.Event.{Event}
use Rattle.om_model.specs.FeynmanRules.{FeynmanRules}
use Rattle.om_model.specs.Theory.{Scattering}
use Rattle.om_model.specs.ModelLines.{kinds_of}
use Rattle.om_model.specs.Entries.{feynman_rules}
use Rattle.om_model.specs.Model.{scattering_of}
use Rattle.om_model.specs.Value.{vertex_entry}
use Rattle.om_ring.proofs.Members.{in_map, in_filter}
use Rattle.om_graph.specs.declared.Graph.{Graph}
use Rattle.om_graph.specs.declared.Key.{Key}
use Rattle.om_graph.specs.declared.Term.{Term}
use Rattle.om_graph.specs.Possible.{unsigned}
use Rattle.om_legs.specs.BranchNodes.{nodes_of}
use Rattle.om_graph.specs.Reactions.{reaction_of}
use Rattle.om_graph.proofs.HaveReactions.{well_formed_have_reactions}
use Rattle.om_keystone.specs.Built.{is_inner, terms_at}
use Rattle.om_keystone.specs.EdgeRules.{opposite, with_indices, propagator_of}
use Rattle.om_keystone.specs.NodeWaves.{keys_at, indices_at, meet_at, part_of, node_indices, term_value, node_wave, AreNodeWaves}
use Rattle.om_keystone.specs.Laws.{NodesHaveWaves}
use Rattle.om_keystone.proofs.BuiltGraph.{built_up}

-- two wave functions that agree at the nodes that meet
meet_same : {E K : Type 0} (o : Ops E) (indices : K → List ℕ) (ns : List K) (v w : ℕ → ℕ → E) (is : List ℕ) → ((b : ℕ) → In b is → (i : ℕ) → v b i ≡ w b i)
    → (entry : List ℕ → E) → meet_at o indices ns v is entry ≡ meet_at o indices ns w is entry
unfolding meet_at
meet_same o indices ns v w [] h entry = refl
meet_same o indices ns v w (n ∷ is) h entry =
    sum_over-ext o (indices_at indices (slice_get ns n)) (λ i. o.times (v n i) (meet_at o indices ns v is (λ js. entry (i ∷ js)))) (λ i. o.times (w n i) (meet_at o indices ns w is (λ js. entry (i ∷ js))))
    (λ i. ap₂ o.times (h n (inl refl) i) (meet_same o indices ns v w is (λ b j. h b (inr j)) (λ js. entry (i ∷ js))))

module _ {E : Type 0} (o : Ops E) (s : Scattering) (r : FeynmanRules E) (e : Event E) (g : Graph) where
  node_at : Option Key → (ℕ → ℕ → E) → ℕ → ℕ → E
  node_at None wave n i = o.zero
  node_at (Some k) wave n i = node_wave o s r e g wave n k i

  -- the wave functions of the nodes below a number
  stage : ℕ → ℕ → ℕ → E
  stage zero n i = o.zero
  stage (suc m) n i = cond (n == m) (node_at (slice_get g.nodes m) (stage m) m i) (stage m n i)

  later : (m n i : ℕ) → n < m → stage (suc m) n i ≡ stage m n i
  unfolding stage
  later m n i l = let apart : (n == m) ≡ false = grind (arith, nat_tests) in ap (λ b. cond b (node_at (slice_get g.nodes m) (stage m) m i) (stage m n i)) apart

  stays : (d m n i : ℕ) → n < m → stage (m + d) n i ≡ stage m n i
  stays zero m n i l = let same : m + 0 ≡ m = omega arith in ap (λ k. stage k n i) same
  stays (suc d) m n i l =
      let same : m + suc d ≡ suc (m + d) = omega arith in
      ap (λ k. stage k n i) same ∙ later (m + d) n i (omega (arith, l)) ∙ stays d m n i l

  wave : ℕ → ℕ → E
  wave n i = stage (suc n) n i

  settled : (n b i : ℕ) → b < n → stage n b i ≡ wave b i
  unfolding wave
  settled n b i l =
      let d = n - suc b in
      let same : n ≡ suc b + d = omega (arith, l) in
      ap (λ k. stage k b i) same ∙ stays d (suc b) b i (omega arith)

  wave_is : (n : ℕ) (k : Key) → slice_get g.nodes n ≡ Some k → (i : ℕ) → wave n i ≡ node_wave o s r e g (stage n) n k i
  unfolding wave stage node_at
  wave_is n k q i =
      let here : (n == n) ≡ true = grind (arith, nat_tests) in
      ap (λ b. cond b (node_at (slice_get g.nodes n) (stage n) n i) (stage n n i)) here
      ∙ ap (λ u. node_at u (stage n) n i) q

  module _ (lower : (t : Term) → In t g.terms → (b : ℕ) → In b (nodes_of t.branches) → b < t.node) where
    terms_same : (n : ℕ) (k : Key) (j : ℕ) → sum_over o (terms_at g.terms n) (term_value o s r e g (stage n) k j) ≡ sum_over o (terms_at g.terms n) (term_value o s r e g wave k j)
    unfolding terms_at
    terms_same n k j =
        sum_over-same o (terms_at g.terms n) (term_value o s r e g (stage n) k j) (term_value o s r e g wave k j) (λ x m.
        let f = (in_filter (λ (t : Term). t.node == n) x g.terms).0 m in
        ap (signed o x.minus) (meet_same o (node_indices o s r e g) g.nodes (stage n) wave (nodes_of x.branches)
        (λ b m i. settled n b i (subst (λ k. b < k) (eqb-true x.node n f.1) (lower x f.0 b m)))
        (λ is. vertex_entry o s r e x.vertex x.choice ((opposite s (part_of k), j) ∷ with_indices (map part_of (keys_at g.nodes (nodes_of x.branches))) is))))

    are_waves : AreNodeWaves o s r e g wave
    are_waves n k q i m = wave_is n k q i ∙ by (is_inner k)
      where
        by : (b : Bool) → (if b
            then sum_over o (node_indices o s r e g k) (λ j. o.times (propagator_of o s r e (part_of k) i j) (sum_over o (terms_at g.terms n) (term_value o s r e g (stage n) k j)))
            else e.wave (least k.legs) i)
            ≡ (if b
            then sum_over o (node_indices o s r e g k) (λ j. o.times (propagator_of o s r e (part_of k) i j) (sum_over o (terms_at g.terms n) (term_value o s r e g wave k j)))
            else e.wave (least k.legs) i)
        by true = sum_over-ext o (node_indices o s r e g k) (λ j. o.times (propagator_of o s r e (part_of k) i j) (sum_over o (terms_at g.terms n) (term_value o s r e g (stage n) k j)))
            (λ j. o.times (propagator_of o s r e (part_of k) i j) (sum_over o (terms_at g.terms n) (term_value o s r e g wave k j))) (λ j. ap (o.times (propagator_of o s r e (part_of k) i j)) (terms_same n k j))
        by false = refl

pub nodes_have_waves : {E : Type 0} (o : Ops E) → NodesHaveWaves o
nodes_have_waves o m p formed is g canonical t e =
    let lower : (x : Term) → In x g.terms → (b : ℕ) → In b (nodes_of x.branches) → b < x.node =
    λ x i b j. (built_up (reaction_of m p) (kinds_of m.particles) (well_formed_have_reactions m p formed is) g canonical).lower (unsigned x) (in_map unsigned x g.terms i) b j in
    (wave o (scattering_of m p) (feynman_rules o m t) e g, are_waves o (scattering_of m p) (feynman_rules o m t) e g lower)
