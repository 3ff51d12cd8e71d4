-- The code of a graph is the code of its nodes.
use Rattle.std.proofs.Common.{◌≡◌, ℕ, suc, ◌<◌, List, [], ◌∷◌, ◌++◌, length, map, Bool, true, false, cond, eqb, refl, sym, ◌∙◌, ap, ap₂, subst}
use Rattle.std.specs.List.{AllByRecursion, filter}
use Rattle.std.proofs.lemmas.Bool.{eqb-true}
use Rattle.std.proofs.lemmas.List.{map-append, length-map}
use Rattle.om_legs.specs.Legs.{least}
use Rattle.om_model.specs.declared.model.Model.{Model}
use Rattle.om_graph.specs.declared.Key.{Key}
use Rattle.om_graph.specs.declared.Term.{Term}
use Rattle.om_graph.specs.declared.KeyTerm.{KeyTerm}
use Rattle.om_graph.specs.declared.Graph.{Graph}
use Rattle.om_legs.specs.BranchNodes.{nodes_of}
use Rattle.om_code.specs.SlotPlans.{IsSlotPlan}
use Rattle.om_code.specs.Registers as step
use Rattle.om_code.specs.Registers.{run, start, named_by, lines_of, placed}
use Rattle.om_emit.specs.NodeCode.{Fusion, Node, leg, inner, Keystone, node_code, nodes_code, graph_code, IsBuiltBelow, AreBuilt, gathered, IsWaveOf, AreWaves, keystone_sums, IsGraphOf}
use Rattle.om_code.specs.Ops.{Op, load, fuse, prop, key, named_in, placed_op, Meaning, step_of}
use Rattle.om_keystone.specs.Built.{is_inner, terms_at, IsBelow, IsBuilt, NodesAreBuilt}
use Rattle.om_emit.specs.GraphCode.{fuse_op, key_op, node_ops, nodes_ops, den_place, register_ops, register_lines}
use Rattle.om_emit.specs.NodeContents.{node_content, AreNodeContents, closed_sums}
use Rattle.om_emit.specs.Laws.{GraphCodeGivesSums, GraphKeepsFinds, GraphCodeKeepsFinds}
use Rattle.om_emit.proofs.NodeCode.{code_gives_keystones}
use Rattle.om_emit.proofs.NodeFinds.{code_keeps_finds}

map_map : {A B C : Type 0} (f : B → C) (g : A → B) (xs : List A) → map f (map g xs) ≡ map (λ x. f (g x)) xs
map_map f g [] = refl
map_map f g (x ∷ xs) = ap (λ ys. f (g x) ∷ ys) (map_map f g xs)

-- what an instruction means doesn't depend on where its values stand
module _ {W S : Type 0} (m : Meaning W S) where
  placed_step : (plan : ℕ → ℕ) (x : Op) → step_of m (placed_op plan x) ≡ placed plan (step_of m x)
  unfolding placed
  placed_step plan (load to k) = refl
  placed_step plan (fuse to minus vertex choice branches) = refl
  placed_step plan (prop of den) = refl
  placed_step plan (key flow minus vertex choice branches) = refl

  pub placed_steps : (plan : ℕ → ℕ) (xs : List Op) → map (step_of m) (map (placed_op plan) xs) ≡ map (placed plan) (map (step_of m) xs)
  placed_steps plan [] = refl
  placed_steps plan (x ∷ xs) = ap₂ (λ y ys. y ∷ ys) (placed_step plan x) (placed_steps plan xs)

  named_step : (x : Op) → named_by (step_of m x) ≡ named_in x
  unfolding named_by
  named_step (load to k) = refl
  named_step (fuse to minus vertex choice branches) = refl
  named_step (prop of den) = refl
  named_step (key flow minus vertex choice branches) = refl

  pub named_steps : (xs : List Op) → lines_of (map (step_of m) xs) ≡ map named_in xs
  named_steps [] = refl
  named_steps (x ∷ xs) = ap₂ (λ y ys. y ∷ ys) (named_step x) (named_steps xs)

  fusion_of : Term → Fusion W
  fusion_of t = record { branches = nodes_of t.branches; made = m.fused t.minus t.vertex t.choice }

  keystone_of : KeyTerm → Keystone W S
  keystone_of t = record { branches = nodes_of t.branches; summed = m.closed t.flow t.minus t.vertex t.choice }

  -- the fusions of a node
  term_steps : (k : ℕ) (ts : List Term) → map (step_of m) (map fuse_op (terms_at ts k)) ≡ map (λ f. step.fuse k f.branches f.made) (map fusion_of (terms_at ts k))
  unfolding terms_at fusion_of
  term_steps k [] = refl
  term_steps k (t ∷ ts) = by (eqb t.node k) refl (term_steps k ts)
    where
      by : (b : Bool) → eqb t.node k ≡ b → map (step_of m) (map fuse_op (filter (λ t. eqb t.node k) ts)) ≡ map (λ f. step.fuse k f.branches f.made) (map fusion_of (filter (λ t. eqb t.node k) ts))
          → map (step_of m) (map fuse_op (cond b (t ∷ filter (λ t. eqb t.node k) ts) (filter (λ t. eqb t.node k) ts))) ≡ map (λ f. step.fuse k f.branches f.made) (map fusion_of (cond b (t ∷ filter (λ t. eqb t.node k) ts) (filter (λ t. eqb t.node k) ts)))
      by true e ih = ap₂ (λ y ys. y ∷ ys) (ap (λ to. step.fuse to (nodes_of t.branches) (m.fused t.minus t.vertex t.choice)) (eqb-true t.node k e)) ih
      by false e ih = ih

  module _ (den : Key → ℕ) (terms : List Term) where
    -- the nodes of the graph, from number k on
    node_at : ℕ → Key → Node W
    node_at k node = cond (is_inner node) (inner (map fusion_of (terms_at terms k)) (m.moved (den node))) (leg (m.loaded (least node.legs)))

    nodes_at : ℕ → List Key → List (Node W)
    nodes_at k [] = []
    nodes_at k (node ∷ nodes) = node_at k node ∷ nodes_at (suc k) nodes

    length-nodes_at : (k : ℕ) (nodes : List Key) → length (nodes_at k nodes) ≡ length nodes
    unfolding nodes_at
    length-nodes_at k [] = refl
    length-nodes_at k (node ∷ nodes) = ap suc (length-nodes_at (suc k) nodes)

    node_steps : (k : ℕ) (node : Key) → map (step_of m) (node_ops den terms k node) ≡ node_code k (node_at k node)
    unfolding node_ops node_code node_at
    node_steps k node = by (is_inner node)
      where
        by : (b : Bool) → map (step_of m) (cond b (map fuse_op (terms_at terms k) ++ prop k (den node) ∷ []) (load k (least node.legs) ∷ [])) ≡ node_code k (cond b (inner (map fusion_of (terms_at terms k)) (m.moved (den node))) (leg (m.loaded (least node.legs))))
        by true = map-append (step_of m) (map fuse_op (terms_at terms k)) (prop k (den node) ∷ []) ∙ ap (λ xs. xs ++ step.prop k (m.moved (den node)) ∷ []) (term_steps k terms)
        by false = refl

    nodes_steps : (k : ℕ) (nodes : List Key) → map (step_of m) (nodes_ops den terms k nodes) ≡ nodes_code k (nodes_at k nodes)
    unfolding nodes_ops nodes_code nodes_at
    nodes_steps k [] = refl
    nodes_steps k (node ∷ nodes) = map-append (step_of m) (node_ops den terms k node) (nodes_ops den terms (suc k) nodes) ∙ ap₂ (λ xs ys. xs ++ ys) (node_steps k node) (nodes_steps (suc k) nodes)

    -- they are built of earlier ones
    fusions_below : (k : ℕ) (ts : List Term) → AllByRecursion (IsBelow k) ts → AllByRecursion (λ f. AllByRecursion (λ b. b < k) f.branches) (map fusion_of ts)
    unfolding fusion_of
    fusions_below k [] h = tt
    fusions_below k (t ∷ ts) h = (h.0, fusions_below k ts h.1)

    node_built : (k : ℕ) (node : Key) → (is_inner node ≡ true → (0 < length (terms_at terms k)) × AllByRecursion (IsBelow k) (terms_at terms k)) → IsBuiltBelow k (node_at k node)
    unfolding node_at
    node_built k node h = by (is_inner node) h
      where
        by : (b : Bool) → (b ≡ true → (0 < length (terms_at terms k)) × AllByRecursion (IsBelow k) (terms_at terms k)) → IsBuiltBelow k (cond b (inner (map fusion_of (terms_at terms k)) (m.moved (den node))) (leg (m.loaded (least node.legs))))
        by true h = let w = h refl in (subst (λ n. 0 < n) (sym (length-map (terms_at terms k) fusion_of)) w.0, fusions_below k (terms_at terms k) w.1)
        by false h = tt

    nodes_built : (k : ℕ) (nodes : List Key) → NodesAreBuilt terms k nodes → AreBuilt k (nodes_at k nodes)
    unfolding nodes_at
    nodes_built k [] h = tt
    nodes_built k (node ∷ nodes) h = (node_built k node h.0, nodes_built (suc k) nodes h.1)

    -- their waves are those of the graph
    module _ (plus : W → W → W) (blank : W) (wave : ℕ → W) where
      node_is_wave : (k : ℕ) (node : Key) → wave k ≡ node_content {S = S} plus blank m den terms wave k node → IsWaveOf plus blank wave k (node_at k node)
      unfolding node_at node_content fusion_of
      node_is_wave k node e = by (is_inner node) e
        where
          by : (b : Bool) → wave k ≡ cond b (m.moved (den node) (gathered plus blank (map (λ t. m.fused t.minus t.vertex t.choice (map wave (nodes_of t.branches))) (terms_at terms k)))) (m.loaded (least node.legs))
              → IsWaveOf plus blank wave k (cond b (inner (map fusion_of (terms_at terms k)) (m.moved (den node))) (leg (m.loaded (least node.legs))))
          by true e = e ∙ ap (λ xs. m.moved (den node) (gathered plus blank xs)) (sym (map_map (λ f. f.made (map wave f.branches)) fusion_of (terms_at terms k)))
          by false e = e

      nodes_are_waves : (k : ℕ) (nodes : List Key) → AreNodeContents {S = S} plus blank m den terms wave k nodes → AreWaves plus blank wave k (nodes_at k nodes)
      unfolding nodes_at
      nodes_are_waves k [] h = tt
      nodes_are_waves k (node ∷ nodes) h = (node_is_wave k node h.0, nodes_are_waves (suc k) nodes h.1)

  -- the keystones
  key_steps : (ts : List KeyTerm) → map (step_of m) (map key_op ts) ≡ map (λ y. step.key y.branches y.summed) (map keystone_of ts)
  unfolding keystone_of
  key_steps [] = refl
  key_steps (t ∷ ts) = ap (λ ys. step.key (nodes_of t.branches) (m.closed t.flow t.minus t.vertex t.choice) ∷ ys) (key_steps ts)

  keys_closed : (n : ℕ) (ts : List KeyTerm) → AllByRecursion (λ t. AllByRecursion (λ b. b < n) (nodes_of t.branches)) ts → AllByRecursion (λ y. AllByRecursion (λ b. b < n) y.branches) (map keystone_of ts)
  unfolding keystone_of
  keys_closed n [] h = tt
  keys_closed n (t ∷ ts) h = (h.0, keys_closed n ts h.1)

  same_sums : (wave : ℕ → W) (sums : S) (ts : List KeyTerm) → keystone_sums wave sums (map keystone_of ts) ≡ closed_sums m wave sums ts
  unfolding keystone_of keystone_sums closed_sums
  same_sums wave sums [] = refl
  same_sums wave sums (t ∷ ts) = same_sums wave (m.closed t.flow t.minus t.vertex t.choice (map wave (nodes_of t.branches)) sums) ts

  module _ (model : Model) (n : ℕ) (graph : Graph) where
    abbrev code_nodes : List (Node W)
    code_nodes = nodes_at (den_place model n graph) graph.terms 0 graph.nodes

    abbrev code_keys : List (Keystone W S)
    code_keys = map keystone_of graph.keys

    graph_steps : map (step_of m) (register_ops model n graph) ≡ graph_code code_nodes code_keys
    unfolding register_ops graph_code
    graph_steps =
        map-append (step_of m) (nodes_ops (den_place model n graph) graph.terms 0 graph.nodes) (map key_op graph.keys)
        ∙ ap₂ (λ xs ys. xs ++ ys) (nodes_steps (den_place model n graph) graph.terms 0 graph.nodes) (key_steps graph.keys)

    code_plan : (plan : ℕ → ℕ) → IsSlotPlan (register_lines model n graph) plan → IsSlotPlan (lines_of (graph_code code_nodes code_keys)) plan
    code_plan plan p = subst (λ ls. IsSlotPlan ls plan) (sym (named_steps (register_ops model n graph)) ∙ ap lines_of graph_steps) p

    code_closed : IsBuilt graph → AllByRecursion (λ y. AllByRecursion (λ b. b < length code_nodes) y.branches) code_keys
    code_closed built =
        let P : ℕ → Type 0 = λ k. AllByRecursion (λ y. AllByRecursion (λ b. b < k) y.branches) code_keys in
        subst P (sym (length-nodes_at (den_place model n graph) graph.terms 0 graph.nodes)) (keys_closed (length graph.nodes) graph.keys built.keys)

module _ {W S : Type 0} (plus : W → W → W) where
  pub graph_keeps_finds : GraphCodeKeepsFinds W S plus
  graph_keeps_finds blank sums m model n graph plan built p =
      subst (λ xs. GraphKeepsFinds plus blank sums xs plan) (sym (graph_steps m model n graph))
      (code_keeps_finds plus blank sums (code_nodes m model n graph) (code_keys m model n graph) plan (nodes_built m (den_place model n graph) graph.terms 0 graph.nodes built.nodes) (code_closed m model n graph built) (code_plan m model n graph plan p))

  pub graph_code_gives_sums : GraphCodeGivesSums W S plus
  graph_code_gives_sums blank sums m model n graph wave plan built waves p =
      let g : IsGraphOf plus blank (code_nodes m model n graph) (code_keys m model n graph) wave = record {
        built = nodes_built m (den_place model n graph) graph.terms 0 graph.nodes built.nodes;
        closed = code_closed m model n graph built;
        waves = nodes_are_waves m (den_place model n graph) graph.terms plus blank wave 0 graph.nodes waves;
      } in
      ap (λ xs. (run plus xs (start blank sums)).sums) (placed_steps m plan (register_ops model n graph) ∙ ap (map (placed plan)) (graph_steps m model n graph))
      ∙ code_gives_keystones plus blank sums (code_nodes m model n graph) (code_keys m model n graph) wave plan g (code_plan m model n graph plan p)
      ∙ same_sums m wave sums graph.keys
