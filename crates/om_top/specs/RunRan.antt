-- What `run` does and leaves, by how it ends.
use Rattle.std.specs.Prelude.{ℕ, ◌≡◌, List}
use Rattle.om_ring.specs.Ops.{Ops}
use Rattle.om_model.specs.Answer.{Answer}
use Rattle.om_model.specs.ModelTable.{model_table}
use Rattle.om_code.specs.declared.code.Code.{Code}
use Rattle.om_emit.specs.EmittedAnswer.{MeansAnswer}
use Rattle.om_event.specs.Events.{Legs}
use Rattle.om_event.specs.Next.{incoming_of}
use Rattle.om_machine.specs.Events.{IsMadeFor}
use Rattle.om_top.specs.AnswerText.{answer_text}
use Rattle.om_top.specs.Outside.{Side, IsUntouched}
use Rattle.om_top.specs.Refusals.{WithProgram}
use Rattle.om_top.specs.Streamed.{Streamed, UnlessNone, kinds_of}
use Rattle.om_top.specs.declared.ending.Ending.{Ending}
use Rattle.om_top.specs.declared.ending.Ending.TheVariants.{NoMemory}

module _ {E : Type 0} (o : Ops E) (show : E → List ℕ) (c : Code) where
  -- for event number e the text of what the code means is owed
  abbrev pub OwesMeaning : ℕ → Legs E → List ℕ → Type 0
  OwesMeaning e legs text =
      IsMadeFor c (incoming_of legs) × (a : Answer E) × MeansAnswer o c (model_table o c.model) (incoming_of legs) a × (text ≡ answer_text show c.model e a)

  -- the events were answered, or there is no flow
  abbrev pub RunsCode : Side → Side → Ending → Type 0
  RunsCode input out = UnlessNone c.flows input out (Streamed OwesMeaning o (kinds_of c.model.particles c.legs) input out)

-- the same, or want of memory before anything was read or written
abbrev pub RunsOrNot : {E : Type 0} → Ops E → (E → List ℕ) → Code → Side → Side → Ending → Type 0
RunsOrNot o show c input out NoMemory = IsUntouched input × IsUntouched out
RunsOrNot o show c input out ending = RunsCode o show c input out ending

-- `run` on a file, an input and an output: with a program, the answers to the events
abbrev pub RunRan : {E : Type 0} → Ops E → (E → List ℕ) → Side → Side → Side → Ending → Type 0
RunRan o show file input out = WithProgram o file (IsUntouched input × IsUntouched out) (λ c. RunsCode o show c input out)
