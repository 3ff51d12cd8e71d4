-- The wave functions of the nodes of a graph, and the answer to an event that they give.
use Rattle.std.specs.Prelude.{◌≡◌, ℕ, suc, List, [], ◌∷◌, ◌++◌, map, true, false, if◌then◌else◌, Option, Some, None, slice_get}
use Rattle.om_ring.specs.Members.{In}
use Rattle.om_ring.specs.Ops.{Ops, signed}
use Rattle.om_ring.specs.Sums.{sum_over}
use Rattle.om_legs.specs.Legs.{holds, least}
use Rattle.om_colour.specs.declared.Flow.{Flow}
use Rattle.om_model.specs.Theory.{Scattering}
use Rattle.om_model.specs.Parts.{Part}
use Rattle.om_model.specs.Event.{Event, Balances}
use Rattle.om_model.specs.FeynmanRules.{FeynmanRules}
use Rattle.om_model.specs.Propagator.{EdgeName, name_lt, IsPole}
use Rattle.om_model.specs.Value.{vertex_entry}
use Rattle.om_model.specs.Answer.{Answer}
use Rattle.om_model.specs.Answer.Answer.{unbalanced, pole, values}
use Rattle.om_graph.specs.declared.Graph.{Graph}
use Rattle.om_graph.specs.declared.Key.{Key}
use Rattle.om_graph.specs.declared.KeyTerm.{KeyTerm}
use Rattle.om_graph.specs.declared.Term.{Term}
use Rattle.om_legs.specs.BranchNodes.{nodes_of}
use Rattle.om_keystone.specs.Built.{is_inner, terms_at, keys_at_flow}
use Rattle.om_keystone.specs.EdgeRules.{opposite, name_of, with_indices, propagator_of}

abbrev pub one_or_none : {A : Type 0} → Option A → List A
one_or_none None = []
one_or_none (Some x) = x ∷ []

-- the keys of nodes that are given by their numbers
unfoldable pub keys_at : {K : Type 0} → List K → List ℕ → List K
keys_at ns [] = []
keys_at ns (n ∷ is) = one_or_none (slice_get ns n) ++ keys_at ns is

abbrev pub indices_at : {K : Type 0} → (K → List ℕ) → Option K → List ℕ
indices_at indices None = []
indices_at indices (Some k) = indices k

-- the sum over the indices of some nodes of an entry times their wave functions
unfoldable pub meet_at : {E K : Type 0} → Ops E → (K → List ℕ) → List K → (ℕ → ℕ → E) → List ℕ → (List ℕ → E) → E
meet_at o indices ns wave [] entry = entry []
meet_at o indices ns wave (n ∷ is) entry =
    sum_over o (indices_at indices (slice_get ns n)) (λ i. o.times (wave n i) (meet_at o indices ns wave is (λ js. entry (i ∷ js))))

-- the edge above a node, as a vertex sees it that the node enters
abbrev pub part_of : Key → Part
part_of k = record { field = k.field; behind = holds k.legs }

module _ {E : Type 0} (o : Ops E) (s : Scattering) (r : FeynmanRules E) (e : Event E) (g : Graph) where
  -- the indices at the edge above a node
  abbrev pub node_indices : Key → List ℕ
  node_indices = λ k. r.indices k.field

  -- what a term adds to its node k at index j, at the lower end of the edge above it: its sign times the sum, over the indices of its
  -- branches, of the entry of its vertex times their wave functions
  abbrev pub term_value : (ℕ → ℕ → E) → Key → ℕ → Term → E
  term_value wave k j x =
      signed o x.minus (meet_at o node_indices g.nodes wave (nodes_of x.branches) (λ is.
      vertex_entry o s r e x.vertex x.choice ((opposite s (part_of k), j) ∷ with_indices (map part_of (keys_at g.nodes (nodes_of x.branches))) is)))

  -- what a keystone term adds to its flow
  abbrev pub key_value : (ℕ → ℕ → E) → KeyTerm → E
  key_value wave y =
      signed o y.minus (meet_at o node_indices g.nodes wave (nodes_of y.branches) (λ is.
      vertex_entry o s r e y.vertex y.choice (with_indices (map part_of (keys_at g.nodes (nodes_of y.branches))) is)))

  -- The wave function of node k, which has number n, at an index of the upper end of the edge above it: that of a leg is given; that of an
  -- inner node is the sum over its terms, propagated once.
  abbrev pub node_wave : (ℕ → ℕ → E) → ℕ → Key → ℕ → E
  node_wave wave n k i = if is_inner k
      then sum_over o (node_indices k) (λ j. o.times (propagator_of o s r e (part_of k) i j) (sum_over o (terms_at g.terms n) (term_value wave k j)))
      else e.wave (least k.legs) i

  -- numbers for the nodes, one at each index, are their wave functions
  abbrev pub AreNodeWaves : (ℕ → ℕ → E) → Type 0
  AreNodeWaves wave =
      (n : ℕ) (k : Key) → slice_get g.nodes n ≡ Some k → (i : ℕ) → In i (node_indices k) → wave n i ≡ node_wave wave n k i

  -- for each flow, of which the first has number m, the sum over its keystone terms
  unfoldable pub flow_values : (ℕ → ℕ → E) → ℕ → List Flow → List (List ℕ × E)
  flow_values wave m [] = []
  flow_values wave m (u ∷ us) = (u.ends, sum_over o (keys_at_flow g.keys m) (key_value wave)) ∷ flow_values wave (suc m) us

  -- the edge above an inner node has this name, and its denominator has no inverse
  pub record HasPoleNode (name : EdgeName) : Type 0 where
    pub node : Key
    pub is_node : In node g.nodes
    pub inner : is_inner node ≡ true
    pub is_named : name ≡ name_of s (part_of node)
    pub is_pole : IsPole o r e name

  -- the answer of the graph: unbalanced; the least pole; or for each flow the sum over its keystone terms
  abbrev pub GraphAnswers : (ℕ → ℕ → E) → Answer E → Type 0
  GraphAnswers wave unbalanced = Balances o e s.size → ⊥
  GraphAnswers wave (pole name) =
      Balances o e s.size × HasPoleNode name × ((other : EdgeName) → HasPoleNode other → name_lt other name ≡ false)
  GraphAnswers wave (values vs) = Balances o e s.size × ((name : EdgeName) → HasPoleNode name → ⊥) × (vs ≡ flow_values wave 0 g.flows)
