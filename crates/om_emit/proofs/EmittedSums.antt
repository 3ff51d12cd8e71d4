-- The machine's sums of the code of a graph.
use Rattle.std.proofs.Common.{◌≡◌, ℕ, ◌<◌, List, [], ◌∷◌, inl, inr, length, map, replicate, refl, sym, ◌∙◌, ap, ap₂, subst}
use Rattle.std.specs.List.{AllByRecursion, concat}
use Rattle.om_ring.specs.Members.{In}
use Rattle.om_ring.specs.Ops.{Ops}
use Rattle.om_model.specs.FeynmanRules.{Table}
use Rattle.om_model.specs.declared.model.Model.{Model}
use Rattle.om_model.specs.declared.process.Process.{Process}
use Rattle.om_graph.specs.declared.Graph.{Graph}
use Rattle.om_code.specs.declared.code.Instr.{Instr}
use Rattle.om_code.specs.declared.code.Instr.TheVariants.{Load, Fuse, Prop, Key}
use Rattle.om_code.specs.declared.code.Code.{Code}
use Rattle.om_code.specs.Waves.{Incoming}
use Rattle.om_code.specs.Spans.{is_named, width}
use Rattle.om_code.specs.SlotPlans.{first_fit}
use Rattle.om_code.specs.Registers.{run, start}
use Rattle.om_code.specs.Ops.{Op, load, fuse, prop, key, op_of, named_in, placed_op, step_of}
use Rattle.om_emit.specs.GraphCode.{IsCodeOf, register_ops, register_lines}
use Rattle.om_code.specs.Contents.{NamesSlots, step_at, code_meaning, plus_content, empty_content}
use Rattle.om_emit.specs.Laws.{EmittedCodeGivesSums}
use Rattle.om_ring.proofs.Members.{member_from_in, in_left, in_right}
use Rattle.om_code.proofs.FirstFit.{first_fit-narrow}
use Rattle.om_emit.proofs.NamedNodes.{AllBelow}
use Rattle.om_emit.proofs.CodeSums.{code_gives_sums}
use Rattle.om_code.proofs.ContentRuns.{meaning_is_run}

-- the slots of a plan are below a number
placed_names : (plan : ℕ → ℕ) (n : ℕ) (rs : List ℕ) → ((r : ℕ) → In r rs → plan r < n) → AllByRecursion (λ k. k < n) (map plan rs)
placed_names plan n [] h = tt
placed_names plan n (r ∷ rs) h = (h r (inl refl), placed_names plan n rs (λ q i. h q (inr i)))

placed_below : (plan : ℕ → ℕ) (n : ℕ) (x : Op) → ((r : ℕ) → In r (named_in x) → plan r < n) → AllByRecursion (λ k. k < n) (named_in (placed_op plan x))
placed_below plan n (load to k) h = (h to (inl refl), tt)
placed_below plan n (fuse to minus vertex choice branches) h = (h to (inl refl), placed_names plan n branches (λ q i. h q (inr i)))
placed_below plan n (prop of den) h = (h of (inl refl), tt)
placed_below plan n (key flow minus vertex choice branches) h = placed_names plan n branches h

all_placed_below : (plan : ℕ → ℕ) (n : ℕ) (xs : List Op) → ((r : ℕ) → In r (concat (map named_in xs)) → plan r < n) → AllBelow n (map (placed_op plan) xs)
all_placed_below plan n [] h = tt
all_placed_below plan n (x ∷ xs) h = (placed_below plan n x (λ r i. h r (in_left r (named_in x) (concat (map named_in xs)) i)), all_placed_below plan n xs (λ r i. h r (in_right r (named_in x) (concat (map named_in xs)) i)))

named_slots : (n : ℕ) (x : Instr) → AllByRecursion (λ k. k < n) (named_in (op_of x)) → NamesSlots n x
named_slots n (Load to k) h = h.0
named_slots n (Fuse to minus vertex choice b) h = (h.0, h.1)
named_slots n (Prop of den) h = h.0
named_slots n (Key flow minus vertex choice b) h = h

all_named_slots : (n : ℕ) (xs : List Instr) → AllBelow n (map op_of xs) → AllByRecursion (NamesSlots n) xs
all_named_slots n [] h = tt
all_named_slots n (x ∷ xs) h = (named_slots n x h.0, all_named_slots n xs h.1)

below_width : (xs : List Op) (r : ℕ) → In r (concat (map named_in xs)) → first_fit (map named_in xs) r < width (map named_in xs)
unfolding is_named
below_width xs r i = (first_fit-narrow (map named_in xs)).below r (member_from_in (concat (map named_in xs)) r i)

-- the slots that the code of a graph names
pub code_names_slots : (model : Model) (process : Process) (graph : Graph) (code : Code) → IsCodeOf model process graph code → AllByRecursion (NamesSlots code.slots) code.instrs
code_names_slots model process graph code is =
    let ops = register_ops model (length process.legs) graph in
    let lines = register_lines model (length process.legs) graph in
    let few : AllBelow (width lines) (map (placed_op (first_fit lines)) ops) = all_placed_below (first_fit lines) (width lines) ops (below_width ops) in
    let slots : code.slots ≡ width lines = is.slots ∙ (first_fit-narrow lines).used in
    let P : List Op → Type 0 = λ xs. AllBelow (width lines) xs in
    let Q : ℕ → Type 0 = λ n. AllByRecursion (NamesSlots n) code.instrs in
    subst Q (sym slots) (all_named_slots (width lines) code.instrs (subst P (sym is.instrs) few))

module _ {E : Type 0} (o : Ops E) where
  same_step : (c : Code) (t : Table E) (e : Incoming E) (x : Instr) → step_at o c t e x ≡ step_of (code_meaning o c t e) (op_of x)
  same_step c t e (Load to k) = refl
  same_step c t e (Fuse to minus vertex choice b) = refl
  same_step c t e (Prop of den) = refl
  same_step c t e (Key flow minus vertex choice b) = refl

  same_steps : (c : Code) (t : Table E) (e : Incoming E) (xs : List Instr) → map (step_at o c t e) xs ≡ map (step_of (code_meaning o c t e)) (map op_of xs)
  same_steps c t e [] = refl
  same_steps c t e (x ∷ xs) = ap₂ (λ y ys. y ∷ ys) (same_step c t e x) (same_steps c t e xs)

  pub emitted_code_gives_sums : EmittedCodeGivesSums o
  emitted_code_gives_sums model process graph code t e wave is built waves =
      let names = code_names_slots model process graph code is in
      let nought = replicate (length code.flows) o.zero in
      meaning_is_run o code t e is.version names
      ∙ ap (λ xs. (run (plus_content o code t e) xs (start (empty_content o code t e) nought)).sums) (same_steps code t e code.instrs)
      ∙ code_gives_sums (plus_content o code t e) (empty_content o code t e) nought (code_meaning o code t e) model process graph code wave is built waves
