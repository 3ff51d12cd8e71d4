-- What the emitter makes is the code of the graph.
use Rattle.std.proofs.Common.{◌≡◌, ℕ, ◌+◌, ◌<◌, List, [], ◌∷◌, ◌++◌, ⊎_elim, length, map, true, refl, sym, ◌∙◌, ap, ap₂, subst, arith}
use Rattle.std.specs.Prelude.{All}
use Rattle.std.specs.List.{concat}
use Rattle.std.proofs.lemmas.List.{map-append}
use Rattle.om_ring.specs.Members.{In}
use Rattle.om_ring.proofs.Members.{map-map}
use Rattle.om_model.specs.declared.model.Model.{Model}
use Rattle.om_model.specs.declared.model.Particle.{Particle}
use Rattle.om_model.specs.Model.{anti_field}
use Rattle.om_graph.specs.declared.Graph.{Graph}
use Rattle.om_graph.specs.declared.KeyTerm.{KeyTerm}
use Rattle.om_code.specs.declared.code.Den.{Den}
use Rattle.om_code.specs.declared.code.Instr.{Instr}
use Rattle.om_legs.specs.BranchNodes.{nodes_of}
use Rattle.om_code.specs.Spans.{is_named, width}
use Rattle.om_code.specs.SlotPlans.{first_fit, slots_used}
use Rattle.om_code.specs.Ops.{lines_of_code, Op, op_of, placed_op, named_in}
use Rattle.om_emit.specs.GraphCode.{den_of, dens_of, place_of, key_op, key_lines, nodes_ops, graph_dens, den_place, register_ops, register_lines}
use Rattle.om_keystone.specs.Built.{IsBuilt}
use Rattle.om_emit.specs.GraphWalk.{walk_ops, HasDen}
use Rattle.om_code.proofs.FirstFit.{first_fit-narrow}
use Rattle.om_emit.proofs.GraphWalk.{walk-is}
use Rattle.om_emit.proofs.DenMembers.{has_dens, few_dens}
use Rattle.om_emit.proofs.NamedNodes.{below_named, below_weaker, nodes_below, keys_below, all_named, agreeing_plans, same_lines}
use Rattle.om_emit.proofs.PlanFronts.{concat_either}
use Rattle.om_emit.proofs.PlanLoop.{in_is, named_is}

same_key_lines : (keys : List KeyTerm) → key_lines keys ≡ map named_in (map key_op keys)
same_key_lines [] = refl
same_key_lines (t ∷ ts) = ap (λ ls. nodes_of t.branches ∷ ls) (same_key_lines ts)

module _ (graph : Graph) where
  -- what is written with these dens
  written_ops : List Particle → ℕ → List Den → List Op
  written_ops particles n dens = walk_ops (λ node. place_of dens (den_of (anti_field particles) n node)) 0 graph.nodes graph.terms

  the_dens : List Particle → ℕ → List Den
  the_dens particles n = dens_of (anti_field particles) n graph.nodes

  -- the dens, as a slice
  pub slice_few : (particles : List Particle) (n : ℕ) (slice : List Den) → slice ≡ dens_of (anti_field particles) n graph.nodes → length graph.nodes < 2147483648 → length slice < 2147483648
  slice_few particles n slice e l = let a = few_dens (anti_field particles) n graph.nodes in omega (arith, ap length e)

  pub slice_has : (particles : List Particle) (n : ℕ) (slice : List Den) → slice ≡ dens_of (anti_field particles) n graph.nodes → All (HasDen (anti_field particles) n slice) graph.nodes
  slice_has particles n slice e = let P : List Den → Type 0 = λ ds. All (HasDen (anti_field particles) n ds) graph.nodes in subst P (sym e) (has_dens (anti_field particles) n graph.nodes)

  -- the instructions of nodes
  module _ (model : Model) (legs : ℕ) (particles : List Particle) (n : ℕ) (slice : List Den) (fronts : List Instr) (same_particles : particles ≡ model.particles) (same_legs : n ≡ legs) (dens : slice ≡ dens_of (anti_field particles) n graph.nodes) (built : IsBuilt graph)
      (made : map op_of fronts ≡ walk_ops (λ node. place_of slice (den_of (anti_field particles) n node)) 0 graph.nodes graph.terms) where
    pub same_dens : slice ≡ graph_dens model legs graph
    unfolding the_dens
    same_dens = dens ∙ ap₂ the_dens same_particles same_legs

    same_fronts : map op_of fronts ≡ nodes_ops (den_place model legs graph) graph.terms 0 graph.nodes
    unfolding written_ops the_dens
    same_fronts =
        made ∙ ap (written_ops particles n) dens ∙ ap₂ (λ p m. written_ops p m (the_dens p m)) same_particles same_legs
        ∙ walk-is (den_place model legs graph) graph.terms 0 graph.nodes graph.terms built.order built.legs (λ j l. refl)

    front_lines : lines_of_code fronts ≡ map named_in (nodes_ops (den_place model legs graph) graph.terms 0 graph.nodes)
    front_lines = same_lines fronts ∙ ap (map named_in) same_fronts

    the_lines : lines_of_code fronts ++ key_lines graph.keys ≡ register_lines model legs graph
    unfolding register_ops
    the_lines =
        ap₂ (λ xs ys. xs ++ ys) front_lines (same_key_lines graph.keys)
        ∙ sym (map-append named_in (nodes_ops (den_place model legs graph) graph.terms 0 graph.nodes) (map key_op graph.keys))

    -- they name just the nodes
    pub all_below : (r : ℕ) → is_named (lines_of_code fronts) r ≡ true → r < length graph.nodes
    all_below r h =
        let ops = nodes_ops (den_place model legs graph) graph.terms 0 graph.nodes in
        let P : List (List ℕ) → Type 0 = λ ls. In r (concat ls) in
        below_named (length graph.nodes) r ops
        (below_weaker (0 + length graph.nodes) (length graph.nodes) ops (omega arith) (nodes_below (den_place model legs graph) graph.terms 0 graph.nodes built.nodes))
        (subst P front_lines (in_is (lines_of_code fronts) r h))

    pub keys_known : (r : ℕ) → is_named (key_lines graph.keys) r ≡ true → is_named (lines_of_code fronts) r ≡ true
    keys_known r h =
        let P : List (List ℕ) → Type 0 = λ ls. In r (concat ls) in
        let below = below_named (length graph.nodes) r (map key_op graph.keys) (keys_below (length graph.nodes) graph.keys built.keys) (subst P (same_key_lines graph.keys) (in_is (key_lines graph.keys) r h)) in
        named_is (lines_of_code fronts) r (subst P (sym front_lines) (all_named (den_place model legs graph) graph.terms 0 r graph.nodes (omega arith) (omega (arith, below))))

    front_named : (r : ℕ) → is_named (register_lines model legs graph) r ≡ true → is_named (lines_of_code fronts) r ≡ true
    front_named r h =
        let P : List (List ℕ) → Type 0 = λ ls. In r (concat ls) in
        let i = subst P (sym the_lines) (in_is (register_lines model legs graph) r h) in
        ⊎_elim (λ j. named_is (lines_of_code fronts) r j) (λ j. keys_known r (named_is (key_lines graph.keys) r j)) (concat_either (lines_of_code fronts) (key_lines graph.keys) r i)

    -- the plan
    pub the_slots : (count : ℕ) → count ≡ width (lines_of_code fronts ++ key_lines graph.keys) → count ≡ slots_used (register_lines model legs graph) (first_fit (register_lines model legs graph))
    the_slots count e = e ∙ ap width the_lines ∙ sym (first_fit-narrow (register_lines model legs graph)).used

    pub the_instrs : (plan : ℕ → ℕ) (front' placed instrs : List Instr) (keys : List KeyTerm) → ((r : ℕ) → is_named (lines_of_code fronts) r ≡ true → plan r ≡ first_fit (lines_of_code fronts ++ key_lines graph.keys) r) → front' ≡ fronts → keys ≡ graph.keys
        → map op_of placed ≡ map (placed_op plan) (map op_of front') → map op_of instrs ≡ map op_of placed ++ map (λ t. placed_op plan (key_op t)) keys
        → map op_of instrs ≡ map (placed_op (first_fit (register_lines model legs graph))) (register_ops model legs graph)
    unfolding register_ops
    the_instrs plan front' placed instrs keys h s k e g =
        let ops = nodes_ops (den_place model legs graph) graph.terms 0 graph.nodes in
        g
        ∙ ap₂ (λ xs ys. xs ++ ys) (e ∙ ap (λ xs. map (placed_op plan) (map op_of xs)) s ∙ ap (map (placed_op plan)) same_fronts) (ap (map (λ t. placed_op plan (key_op t))) k ∙ sym (map-map (placed_op plan) key_op graph.keys))
        ∙ sym (map-append (placed_op plan) ops (map key_op graph.keys))
        ∙ agreeing_plans plan (first_fit (register_lines model legs graph)) (register_ops model legs graph)
        (λ r t. h r (front_named r t) ∙ ap (λ ls. first_fit ls r) the_lines)
