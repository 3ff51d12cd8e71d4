-- What `eval` does and leaves, by how it ends.
use Rattle.std.specs.Prelude.{ℕ, ◌≡◌, List, map}
use Rattle.om_ring.specs.Ops.{Ops}
use Rattle.om_model.specs.Answer.{Answer}
use Rattle.om_model.specs.Diagrams.{AreDiagrams}
use Rattle.om_model.specs.Model.{scattering_of}
use Rattle.om_model.specs.ModelAnswer.{IsModelAnswer}
use Rattle.om_model.specs.Tree.{Tree}
use Rattle.om_model.specs.declared.model.Model.{Model}
use Rattle.om_model.specs.declared.process.Process.{Process}
use Rattle.om_code.specs.Waves.{event_of}
use Rattle.om_event.specs.declared.kind.WaveKind.{WaveKind}
use Rattle.om_event.specs.Events.{Legs}
use Rattle.om_event.specs.Next.{incoming_of}
use Rattle.om_top.specs.AnswerText.{answer_text}
use Rattle.om_top.specs.Outside.{Side, IsUntouched}
use Rattle.om_top.specs.Refusals.{WithModel, WithProcess, WithGraph}
use Rattle.om_top.specs.Streamed.{Streamed, UnlessNone, kinds_of}
use Rattle.om_top.specs.declared.ending.Ending.{Ending}

module _ {E : Type 0} (o : Ops E) (show : E → List ℕ) (m : Model) (p : Process) where
  -- for event number e the text of its answer is owed
  abbrev pub OwesAnswer : ℕ → Legs E → List ℕ → Type 0
  OwesAnswer e legs text = (a : Answer E) × IsModelAnswer o m p (event_of o (incoming_of legs)) a × (text ≡ answer_text show m e a)

  -- the kinds of the waves of the legs
  abbrev pub process_kinds : List WaveKind
  process_kinds = kinds_of m.particles (map (λ leg. leg.field) p.legs)

  -- the events were answered, or there is no diagram
  abbrev pub Evaluates : Side → Side → Ending → Type 0
  Evaluates input out ending =
      (ts : List Tree) × AreDiagrams (scattering_of m p) ts × UnlessNone ts input out (Streamed OwesAnswer o process_kinds input out) ending

-- `eval` on a file, a text of a process, an input and an output: with a model, with a process, with a graph, the answers to the events
abbrev pub EvalRan : {E : Type 0} → Ops E → (E → List ℕ) → Side → List ℕ → Side → Side → Ending → Type 0
EvalRan o show file text input out =
    let quiet = IsUntouched input × IsUntouched out in
    WithModel o file quiet (WithProcess text quiet (WithGraph quiet (λ m p g. Evaluates o show m p input out)))
