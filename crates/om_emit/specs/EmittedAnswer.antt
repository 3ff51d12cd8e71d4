-- The meaning of the code of a canonical graph is the answer to the event.
use Rattle.std.specs.Prelude.{◌≡◌, ℕ, List, [], ◌∷◌, map, Some, slice_get, ◌↔◌}
use Rattle.om_ring.specs.Ops.{Ops}
use Rattle.om_colour.specs.declared.Flow.{Flow}
use Rattle.om_model.specs.declared.model.Model.{Model}
use Rattle.om_model.specs.declared.process.Process.{Process}
use Rattle.om_model.specs.Model.{scattering_of}
use Rattle.om_model.specs.ModelLines.{lines_of}
use Rattle.om_model.specs.FeynmanRules.{Table}
use Rattle.om_model.specs.Entries.{feynman_rules}
use Rattle.om_model.specs.Tree.{Tree}
use Rattle.om_model.specs.Diagrams.{AreDiagrams}
use Rattle.om_model.specs.Order.{numbers_lt, rising_of}
use Rattle.om_model.specs.Answer.{Answer, IsAnswer}
use Rattle.om_model.specs.Answer.Answer.{unbalanced, pole, values}
use Rattle.om_model.specs.ModelAnswer.{IsModelAnswer}
use Rattle.om_model.specs.ModelTable.{model_table}
use Rattle.om_model.specs.WellFormed.{IsWellFormed}
use Rattle.om_model.specs.ProcessOf.{IsProcessOf}
use Rattle.om_graph.specs.declared.Graph.{Graph}
use Rattle.om_graph.specs.Reactions.{reaction_of}
use Rattle.om_keystone.specs.CanonicalGraph.{IsCanonicalOf}
use Rattle.om_code.specs.declared.code.Code.{Code}
use Rattle.om_code.specs.Waves.{Incoming, event_of}
use Rattle.om_code.specs.Meaning.{MachineAnswer, IsMeaning, edge_of_den}
use Rattle.om_code.specs.Meaning.MachineAnswer.{unbalanced as machine_unbalanced, pole as machine_pole, values as machine_values}
use Rattle.om_machine.specs.declared.answer.Outcome.{Outcome}
use Rattle.om_machine.specs.Events.{IsMadeFor}
use Rattle.om_machine.specs.Loaded.{answer_of}
use Rattle.om_machine.specs.Machines.{SameTable}
use Rattle.om_emit.specs.GraphCode.{IsCodeOf}

-- each flow with its sum
abbrev pub with_sums : {E : Type 0} → List Flow → List E → List (List ℕ × E)
with_sums [] xs = []
with_sums (w ∷ ws) [] = []
with_sums (w ∷ ws) (x ∷ xs) = (w.ends, x) ∷ with_sums ws xs

-- what the machine answers, of a code with these flows
abbrev pub answer_with : {E : Type 0} → List Flow → MachineAnswer E → Answer E
answer_with flows machine_unbalanced = unbalanced
answer_with flows (machine_pole d) = pole (edge_of_den d)
answer_with flows (machine_values xs) = values (with_sums flows xs)

-- an answer that the code means
abbrev pub MeansAnswer : {E : Type 0} → Ops E → Code → Table E → Incoming E → Answer E → Type 0
MeansAnswer {E} o c t e b =
    (a : MachineAnswer E) × IsMeaning o c t e a × (b ≡ answer_with c.flows a)

-- nothing to be loaded, fused or summed
pub record HasNoLines (c : Code) : Type 0 where
  pub flows : c.flows ≡ []
  pub dens : c.dens ≡ []
  pub slots : c.slots ≡ 0
  pub instrs : c.instrs ≡ []

module _ (Holds : Model → Process → Code → Type 0) where
  -- said of the code of the canonical graph of each process over a well-formed model
  abbrev pub OfEmittedCodes : Type 0
  OfEmittedCodes =
      (m : Model) (p : Process) → IsWellFormed m → IsProcessOf m p
      → (g : Graph) → IsCanonicalOf (reaction_of m p) g
      → (c : Code) → IsCodeOf m p g c → Holds m p c

-- With the numbers of any table, what the code means for an event is the answer to the event by all
-- diagrams: unbalanced; the least edge of a diagram whose denominator has no inverse; or for each
-- flow the sum over its diagrams.
abbrev pub EmittedCodeGivesAnswer : {E : Type 0} → Ops E → Type 0
EmittedCodeGivesAnswer {E} o = OfEmittedCodes (λ m p c.
    (t : Table E) (e : Incoming E) → IsMadeFor c e → (a : Answer E) → MeansAnswer o c t e a
    ↔ IsAnswer o (scattering_of m p) (feynman_rules o m t) (lines_of m p) (event_of o e) a)

-- What a machine of the code with the numbers of the model gives for an event is the answer to it.
abbrev pub EvaluatedIsAnswer : {E : Type 0} → Ops E → Type 0
EvaluatedIsAnswer {E} o = OfEmittedCodes (λ m p c.
    (t : Table E) (e : Incoming E) → SameTable o t (model_table o m) → IsMadeFor c e
    → (outcome : Outcome) (sums : List E) → IsMeaning o c t e (answer_of outcome sums)
    → IsModelAnswer o m p (event_of o e) (answer_with c.flows (answer_of outcome sums)))

-- the sum of a flow stands at its place
abbrev pub SumsStandAtFlows : Type 0 → Type 0
SumsStandAtFlows E = (flows : List Flow) (sums : List E) (k : ℕ) (w : Flow) (x : E)
    → slice_get flows k ≡ Some w → slice_get sums k ≡ Some x
    → slice_get (with_sums flows sums) k ≡ Some (w.ends, x)

-- the flows of the code are those of the diagrams, each once and in order
abbrev pub EmittedFlowsAreTheirs : Type 0
EmittedFlowsAreTheirs = OfEmittedCodes (λ m p c.
    (ts : List Tree) → AreDiagrams (scattering_of m p) ts
    → map (λ w. w.ends) c.flows ≡ rising_of numbers_lt (map (lines_of m p).flow ts))

-- there is no diagram exactly where there is no flow, and then the code has no line
abbrev pub NoDiagramNoFlow : Type 0
NoDiagramNoFlow = OfEmittedCodes (λ m p c.
    (AreDiagrams (scattering_of m p) [] ↔ (c.flows ≡ [])) × (c.flows ≡ [] → HasNoLines c))
