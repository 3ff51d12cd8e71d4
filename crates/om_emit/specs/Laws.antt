-- The laws of the codes of graphs.
use Rattle.std.specs.Prelude.{◌≡◌, ℕ, ◌≤◌, false, List, map, length, replicate}
use Rattle.om_ring.specs.Ops.{Ops}
use Rattle.om_model.specs.declared.model.Model.{Model}
use Rattle.om_model.specs.declared.process.Process.{Process}
use Rattle.om_model.specs.FeynmanRules.{Table}
use Rattle.om_graph.specs.declared.Graph.{Graph}
use Rattle.om_keystone.specs.Built.{IsBuilt}
use Rattle.om_code.specs.declared.code.Code.{Code}
use Rattle.om_code.specs.Contents.{Content, code_meaning, empty_content, plus_content}
use Rattle.om_code.specs.Meaning.{sums_of}
use Rattle.om_code.specs.Ops.{Meaning, op_of, placed_op, step_of}
use Rattle.om_code.specs.Registers.{Step, run, start, lines_of, placed, finds, AreApart}
use Rattle.om_code.specs.SlotPlans.{IsSlotPlan, slots_used}
use Rattle.om_code.specs.Spans.{width}
use Rattle.om_code.specs.Waves.{Incoming}
use Rattle.om_emit.specs.GraphCode.{den_place, register_ops, register_lines, IsCodeOf}
use Rattle.om_emit.specs.NodeContents.{AreNodeContents, closed_sums}
use Rattle.om_emit.specs.NodeCode.{Node, Keystone, IsGraphOf, graph_code, keystone_sums}

-- the code of nodes, with the slots of any slot plan, gives the sums of their keystones
abbrev pub CodeGivesKeystones : (W S : Type 0) → (W → W → W) → Type 0
CodeGivesKeystones W S plus =
    (blank : W) (sums : S) (nodes : List (Node W)) (keystones : List (Keystone W S)) (wave : ℕ → W) (plan : ℕ → ℕ)
    → IsGraphOf plus blank nodes keystones wave → IsSlotPlan (lines_of (graph_code nodes keystones)) plan
    → (run plus (map (placed plan) (graph_code nodes keystones)) (start blank sums)).sums ≡ keystone_sums wave sums keystones

-- the code of a graph, with the slots of any slot plan in place of its registers, gives the sums of its keystones from what its nodes
-- hold
abbrev pub GraphCodeGivesSums : (W S : Type 0) → (W → W → W) → Type 0
GraphCodeGivesSums W S plus =
    (blank : W) (sums : S) (m : Meaning W S) (model : Model) (n : ℕ) (graph : Graph) (held : ℕ → W) (plan : ℕ → ℕ)
    → IsBuilt graph → AreNodeContents {S = S} plus blank m (den_place model n graph) graph.terms held 0 graph.nodes
    → IsSlotPlan (register_lines model n graph) plan
    → (run plus (map (step_of m) (map (placed_op plan) (register_ops model n graph))) (start blank sums)).sums
    ≡ closed_sums m held sums graph.keys

-- with the slots of any slot plan the instructions of a graph find what they found in the registers of its nodes, no slot gathers in
-- the end, and no fuse has its own slot among its branches
pub record GraphKeepsFinds {W S : Type 0} (plus : W → W → W) (blank : W) (sums : S) (xs : List (Step W S)) (plan : ℕ → ℕ) : Type 0 where
  pub finds : finds plus (map (placed plan) xs) (start blank sums) ≡ finds plus xs (start blank sums)
  pub settled : (k : ℕ) → (run plus (map (placed plan) xs) (start blank sums)).gathering k ≡ false
  pub apart : AreApart (map (placed plan) xs)

abbrev pub GraphCodeKeepsFinds : (W S : Type 0) → (W → W → W) → Type 0
GraphCodeKeepsFinds W S plus =
    (blank : W) (sums : S) (m : Meaning W S) (model : Model) (n : ℕ) (graph : Graph) (plan : ℕ → ℕ)
    → IsBuilt graph → IsSlotPlan (register_lines model n graph) plan
    → GraphKeepsFinds plus blank sums (map (step_of m) (register_ops model n graph)) plan

-- the code of a graph gives the sums of its keystones from what its nodes hold
abbrev pub CodeGivesSums : (W S : Type 0) → (W → W → W) → Type 0
CodeGivesSums W S plus =
    (blank : W) (sums : S) (m : Meaning W S) (model : Model) (process : Process) (graph : Graph) (code : Code) (held : ℕ → W)
    → IsCodeOf model process graph code → IsBuilt graph
    → AreNodeContents {S = S} plus blank m (den_place model (length process.legs) graph) graph.terms held 0 graph.nodes
    → (run plus (map (step_of m) (map op_of code.instrs)) (start blank sums)).sums ≡ closed_sums m held sums graph.keys

-- the sums that the code of a graph means are those of its keystones, from what its nodes hold
abbrev pub EmittedCodeGivesSums : {E : Type 0} → Ops E → Type 0
EmittedCodeGivesSums {E} o =
    (model : Model) (process : Process) (graph : Graph) (code : Code) (t : Table E) (e : Incoming E) (held : ℕ → Content E)
    → IsCodeOf model process graph code → IsBuilt graph → (let m = code_meaning o code t e in
    AreNodeContents {S = List E} (plus_content o code t e) (empty_content o code t e) m (den_place model (length process.legs) graph)
    graph.terms held 0 graph.nodes
    → sums_of o code t e ≡ closed_sums m held (replicate (length code.flows) o.zero) graph.keys)

-- the code of a graph has as many slots as the width of its instruction list, and no slot plan has fewer
pub record HasFewestSlots (model : Model) (process : Process) (graph : Graph) (code : Code) : Type 0 where
  pub width : code.slots ≡ width (register_lines model (length process.legs) graph)
  pub fewest : (plan : ℕ → ℕ) → IsSlotPlan (register_lines model (length process.legs) graph) plan
      → code.slots ≤ slots_used (register_lines model (length process.legs) graph) plan

abbrev pub CodesHaveFewestSlots : Type 0
CodesHaveFewestSlots = (model : Model) (process : Process) (graph : Graph) (code : Code) → IsCodeOf model process graph code
    → HasFewestSlots model process graph code
