-- The instructions of the code of a canonical graph keep the rules.
use Rattle.std.proofs.Common.{◌≡◌, ℕ, zero, suc, ◌+◌, ◌<◌, ◌≤◌, List, [], ◌∷◌, ◌++◌, length, map, replicate, Bool, true, false, cond, eqb, refl, sym, ◌∙◌, ap, subst, arith}
use Rattle.std.specs.Prelude.{Some, slice_get}
use Rattle.std.specs.List.{concat, filter}
use Rattle.std.proofs.lemmas.List.{get_or-replicate, length-append, length-map, length-replicate}
use Rattle.std.proofs.lemmas.Option.{same_Some, none-some}
use Rattle.om_ring.specs.Members.{In}
use Rattle.om_ring.proofs.Members.{in_filter, few_below}
use Rattle.om_legs.specs.Legs.{least}
use Rattle.om_model.specs.Model.{anti_field}
use Rattle.om_model.specs.ProcessOf.{IsProcessOf}
use Rattle.om_model.specs.WellFormed.{IsWellFormed}
use Rattle.om_model.specs.declared.model.Model.{Model}
use Rattle.om_model.specs.declared.process.Process.{Process}
use Rattle.om_graph.specs.declared.Graph.{Graph}
use Rattle.om_graph.specs.declared.Key.{Key}
use Rattle.om_graph.specs.declared.Term.{Term}
use Rattle.om_graph.specs.Reactions.{reaction_of}
use Rattle.om_graph.proofs.SetNodes.{in_by_number}
use Rattle.om_keystone.specs.Built.{is_inner, terms_at, NodeIsBuilt, NodesAreBuilt, IsBuilt}
use Rattle.om_keystone.specs.CanonicalGraph.{IsCanonicalOf}
use Rattle.om_keystone.proofs.BuiltGraph.{canonical_is_built}
use Rattle.om_code.specs.declared.code.Code.{Code}
use Rattle.om_code.specs.declared.code.Instr.{Instr}
use Rattle.om_code.specs.declared.slots.Held.{Held}
use Rattle.om_code.specs.Ops.{Op, load, prop, op_of, named_in, placed_op, step_of}
use Rattle.om_code.specs.Registers.{Step, AreApart, Found, finds, placed, run, start}
use Rattle.om_code.specs.Rules.{KeepsAll, is_den_of}
use Rattle.om_code.specs.SlotPlans.{first_fit}
use Rattle.om_code.specs.Slots.{at_start, is_gathering, nothing}
use Rattle.om_code.specs.Spans.{spans_at, span_holds, width}
use Rattle.om_code.proofs.FirstFit.{first_fit-narrow}
use Rattle.om_code.proofs.SpanFacts.{greatest_le}
use Rattle.om_emit.specs.GraphCode.{IsCodeOf, den_of, den_place, fuse_op, key_op, graph_dens, node_ops, nodes_ops, register_lines, register_ops}
use Rattle.om_emit.proofs.DenEdges.{dens_are_edges_above}
use Rattle.om_emit.proofs.DenPlaces.{den_is, place_there, place_within}
use Rattle.om_emit.proofs.EmittedSums.{code_names_slots}
use Rattle.om_emit.proofs.GraphCode.{graph_keeps_finds, placed_steps}
use Rattle.om_emit.proofs.GraphHelds.{as_many_legs, key_terms_keep, node_leg_keeps, terms_keep}
use Rattle.om_emit.proofs.HeldFinds.{KeepEach, finds_keep, held_meaning, keep_placed, later, step}
use Rattle.om_emit.proofs.HeldNodes.{InnerKeeps, NodeKeeps, gathering_held, graph_keeps}
use Rattle.om_emit.proofs.NamedNodes.{below_named, graph_below}

built_at : (terms : List Term) (k : ℕ) (nodes : List Key) → NodesAreBuilt terms k nodes → (n : ℕ) (node : Key) → slice_get nodes n ≡ Some node → NodeIsBuilt terms (k + n) node
built_at terms k [] h n node e = absurd (none-some node e)
built_at terms k (x ∷ nodes) h zero node e = (let z : k + 0 ≡ k = omega arith in subst (λ m. NodeIsBuilt terms m node) (sym z) (subst (NodeIsBuilt terms k) (same_Some x node e) h.0))
built_at terms k (x ∷ nodes) h (suc n) node e = (let z : k + suc n ≡ suc k + n = omega arith in subst (λ m. NodeIsBuilt terms m node) (sym z) (built_at terms (suc k) nodes h.1 n node e))

steps_of : (c : Code) (xs : List Instr) → map (step c) xs ≡ map (step_of (held_meaning c)) (map op_of xs)
unfolding step
steps_of c [] = refl
steps_of c (x ∷ xs) = ap (λ ys. step_of (held_meaning c) (op_of x) ∷ ys) (steps_of c xs)

-- an instruction at least for each node
node_long : (den : Key → ℕ) (terms : List Term) (k : ℕ) (node : Key) → 1 ≤ length (node_ops den terms k node)
unfolding node_ops
node_long den terms k node = by (is_inner node)
  where
    by : (b : Bool) → 1 ≤ length (cond b (map fuse_op (terms_at terms k) ++ prop k (den node) ∷ []) (load k (least node.legs) ∷ []))
    by true = let e = length-append (map fuse_op (terms_at terms k)) (prop k (den node) ∷ []) in omega (arith, e)
    by false = omega arith

nodes_long : (den : Key → ℕ) (terms : List Term) (k : ℕ) (nodes : List Key) → length nodes ≤ length (nodes_ops den terms k nodes)
unfolding nodes_ops
nodes_long den terms k [] = omega arith
nodes_long den terms k (node ∷ nodes) = let a = node_long den terms k node in let b = nodes_long den terms (suc k) nodes in let e = length-append (node_ops den terms k node) (nodes_ops den terms (suc k) nodes) in omega (arith, a, b, e)

-- registers below a number are at most so many at once
pub width_small : (ops : List Op) (n : ℕ) → ((r : ℕ) → In r (concat (map named_in ops)) → r < n) → width (map named_in ops) ≤ n
unfolding width spans_at
width_small ops n h = greatest_le (spans_at (map named_in ops)) (length (map named_in ops)) n (λ k l.
    few_below (filter (span_holds (map named_in ops) k) (concat (map named_in ops))) n (λ q i. h q ((in_filter (span_holds (map named_in ops) k) q (concat (map named_in ops))).0 i).0))

module _ (m : Model) (p : Process) (formed : IsWellFormed m) (is : IsProcessOf m p) (g : Graph) (canonical : IsCanonicalOf (reaction_of m p) g) (c : Code) (code : IsCodeOf m p g c) where
  abbrev n : ℕ
  n = length p.legs

  abbrev anti : ℕ → ℕ
  anti = anti_field m.particles

  built : IsBuilt g
  built = canonical_is_built m p formed is g canonical

  -- the denominator of an inner node
  den_in : (k : ℕ) (node : Key) → slice_get g.nodes k ≡ Some node → is_inner node ≡ true → In (den_of anti n node) (graph_dens m n g)
  den_in k node e inner = ((dens_are_edges_above anti n g.nodes).members (den_of anti n node)).1 (record { node = node; is_node = in_by_number g.nodes k node e; inner = inner; edge = refl })

  inner_keeps : (k : ℕ) (node : Key) → slice_get g.nodes k ≡ Some node → is_inner node ≡ true → InnerKeeps c g (den_place m n g) k node
  inner_keeps k node e inner =
      let made = built_at g.terms 0 g.nodes built.nodes k node e in
      let i = den_in k node e inner in
      let z : 0 + k ≡ k = omega arith in
      let both = subst (λ j. NodeIsBuilt g.terms j node) z made inner in
      record {
        some = both.0;
        below = both.1;
        terms = terms_keep m p formed is g canonical c code k node e;
        den_there = subst (λ j. den_place m n g node < j) (sym (ap length code.dens)) (place_within (graph_dens m n g) (den_of anti n node) i);
        its_den = ap (is_den_of c (gathering_held node)) (ap (λ ds. slice_get ds (den_place m n g node)) code.dens ∙ place_there (graph_dens m n g) (den_of anti n node) i)
            ∙ den_is c n anti node (gathering_held node) (as_many_legs m p formed is g canonical c code) (ap (λ (x : Model). anti_field x.particles) code.same_model) refl refl;
      }

  nodes_keep : (k : ℕ) (node : Key) → slice_get g.nodes k ≡ Some node → NodeKeeps c g (den_place m n g) k node
  nodes_keep k node e = (node_leg_keeps m p formed is g canonical c code k node e, inner_keeps k node e)

  abbrev ops : List Op
  ops = register_ops m n g

  abbrev plan : ℕ → ℕ
  plan = first_fit (register_lines m n g)

  registers_keep : KeepEach c ops (finds later (map (step_of (held_meaning c)) ops) (start nothing tt))
  unfolding register_ops
  registers_keep = graph_keeps c g (den_place m n g) (start nothing tt) nodes_keep (key_terms_keep m p formed is g canonical c code) built.keys (λ j. refl)

  pub all_keep : KeepsAll c (at_start c) c.instrs
  all_keep =
      let hm = held_meaning c in
      let steps = map (step_of hm) ops in
      let k = graph_keeps_finds later nothing tt hm m n g plan built (first_fit-narrow (register_lines m n g)).plan in
      let same : map (step c) c.instrs ≡ map (placed plan) steps = steps_of c c.instrs ∙ ap (map (step_of hm)) code.instrs ∙ placed_steps hm plan ops in
      let first : at_start c ≡ replicate c.slots nothing = ap (λ b. cond b [] (replicate c.slots nothing)) (ap (λ j. eqb j 1) code.version) in
      let F : List (Found Held) → Type 0 = λ fs. KeepEach c (map (placed_op plan) ops) fs in
      let kept : KeepEach c (map (placed_op plan) ops) (finds later (map (placed plan) steps) (start nothing tt)) = subst F (sym k.finds) (keep_placed c plan ops (finds later steps (start nothing tt)) registers_keep) in
      let A : List (Step Held (Unit {0})) → Type 0 = λ xs. AreApart xs in
      let G : List (Step Held (Unit {0})) → Type 0 = λ xs. (j : ℕ) → (run later xs (start nothing tt)).gathering j ≡ false in
      let K : List Op → Type 0 = λ xs. KeepEach c xs (finds later (map (placed plan) steps) (start nothing tt)) in
      let L : List (Step Held (Unit {0})) → Type 0 = λ xs. KeepEach c (map op_of c.instrs) (finds later xs (start nothing tt)) in
      let P : List Held → Type 0 = λ st. KeepsAll c st c.instrs in
      subst P (sym first) (finds_keep c code.version c.instrs (replicate c.slots nothing) (start nothing tt) (code_names_slots m p g c code)
      (record {
        holds = λ j l. get_or-replicate c.slots j nothing nothing l;
        gathers = λ j l. ap is_gathering (get_or-replicate c.slots j nothing nothing l);
        slots = length-replicate c.slots nothing;
      })
      (subst A (sym same) k.apart) (subst L (sym same) (subst K (sym code.instrs) kept)) (subst G (sym same) k.settled))

  -- how many slots there are
  pub slots_small : c.slots ≤ length g.nodes
  unfolding register_ops
  slots_small = subst (λ j. j ≤ length g.nodes) (sym (code.slots ∙ (first_fit-narrow (register_lines m n g)).used)) (width_small ops (length g.nodes) (λ r i. below_named (length g.nodes) r ops (graph_below m n g built) i))

  pub slots_few : c.slots ≤ length c.instrs
  unfolding register_ops
  slots_few =
      let a = slots_small in
      let b = nodes_long (den_place m n g) g.terms 0 g.nodes in
      let d = length-append (nodes_ops (den_place m n g) g.terms 0 g.nodes) (map key_op g.keys) in
      let e = sym (length-map c.instrs op_of) ∙ ap length code.instrs ∙ length-map ops (placed_op plan) in
      omega (arith, a, b, d, e)
