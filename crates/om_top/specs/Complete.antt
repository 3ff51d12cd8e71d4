-- When a command is done.
use Rattle.std.specs.Prelude.{ℕ, ◌≡◌, ◌≢◌, ◌⊎◌, List, [], Some}
use Rattle.om_ring.specs.Ops.{Ops}
use Rattle.om_model.specs.Model.{scattering_of}
use Rattle.om_model.specs.declared.model.Model.{Model}
use Rattle.om_model.specs.declared.process.Process.{Process}
use Rattle.om_graph.specs.declared.Graph.{Graph}
use Rattle.om_code.specs.declared.code.Code.{Code}
use Rattle.om_event.specs.Events.{Legs, at_end, events_of}
use Rattle.om_event.specs.declared.kind.WaveKind.{WaveKind}
use Rattle.om_sample.specs.Sums.{IsSample}
use Rattle.om_sample.specs.Texts.{sample_text}
use Rattle.om_top.specs.AnswerText.{no_amplitude}
use Rattle.om_top.specs.Causes.{AreAccepted, HasDiagram}
use Rattle.om_top.specs.CheckRan.{check_text}
use Rattle.om_top.specs.Command.{check, eval, write, run, sample}
use Rattle.om_top.specs.EvalRan.{OwesAnswer, process_kinds}
use Rattle.om_top.specs.Loads.{IsGraphOf, IsModelFile, IsProgramFile}
use Rattle.om_top.specs.Outside.{Outside, Failed, Gained, IsDone, IsUntouched}
use Rattle.om_top.specs.Ran.{Ran}
use Rattle.om_top.specs.RunRan.{OwesMeaning}
use Rattle.om_top.specs.Streamed.{GainedLines, kinds_of}
use Rattle.om_top.specs.WriteRan.{WritesNamed}
use Rattle.om_top.specs.declared.command.Written.{Written}
use Rattle.om_top.specs.declared.ending.Ending.{Ending}
use Rattle.om_top.specs.declared.ending.Ending.TheVariants.{Done, NoMemory}

-- all was done, and this stands; or memory ran out
abbrev pub DoneOr : Type 0 → Ending → Type 0
DoneOr stands e = ((e ≡ Done) × stands) ⊎ (e ≡ NoMemory)

-- the input was taken to its end, and exactly the lines of its events were written
abbrev pub AnswersAll : {E : Type 0} → (ℕ → Legs E → List ℕ → Type 0) → Ops E → List WaveKind → List ℕ → Outside → Type 0
AnswersAll Owes o kinds input x = IsDone x.input × GainedLines Owes x.out (events_of o kinds input).events

-- the input is untouched, and exactly one line was written
abbrev pub SaysNone : Outside → Type 0
SaysNone x = IsUntouched x.input × Gained x.out no_amplitude

module _ {E : Type 0} (o : Ops E) (show : E → List ℕ) where
  -- Where the file and the text are those of a model and a process whose graph isn't too large and no count of faults rose: with a
  -- diagram and an input of events and nothing more all are answered; without a diagram one line is written, whatever the input is.
  pub record EvalCompletes (x : Outside) (e : Ending) (name text file : List ℕ) (m : Model) (p : Process) : Type 0 where
    pub some : (input : List ℕ) → HasDiagram (scattering_of m p) → x.input.before ≡ Some input → (events_of o (process_kinds o show m p) input).ending ≡ at_end
        → ¬ Failed x.input → DoneOr (AnswersAll (OwesAnswer o show m p) o (process_kinds o show m p) input x) e
    pub none : ¬ HasDiagram (scattering_of m p) → DoneOr (SaysNone x) e

  abbrev pub EvalIsComplete : Type 0
  EvalIsComplete = (x : Outside) (e : Ending) (name text file : List ℕ) (m : Model) (p : Process) → Ran o show (Some (eval name text)) x e
      → (x.file name).before ≡ Some file → AreAccepted o file text m p → ¬ Failed (x.file name) → ¬ Failed x.out → EvalCompletes x e name text file m p

  -- the same with the file of a program, by its flows
  pub record RunCompletes (x : Outside) (e : Ending) (c : Code) : Type 0 where
    pub some : (input : List ℕ) → c.flows ≢ [] → x.input.before ≡ Some input → (events_of o (kinds_of c.model.particles c.legs) input).ending ≡ at_end
        → ¬ Failed x.input → DoneOr (AnswersAll (OwesMeaning o show c) o (kinds_of c.model.particles c.legs) input x) e
    pub none : c.flows ≡ [] → DoneOr (SaysNone x) e

  abbrev pub RunIsComplete : Type 0
  RunIsComplete = (x : Outside) (e : Ending) (name file : List ℕ) (c : Code) → Ran o show (Some (run name)) x e
      → (x.file name).before ≡ Some file → IsProgramFile o file c → ¬ Failed (x.file name) → ¬ Failed x.out → RunCompletes x e c

  -- the other commands write their text
  abbrev pub CheckIsComplete : Type 0
  CheckIsComplete = (x : Outside) (e : Ending) (name file : List ℕ) (m : Model) → Ran o show (Some (check name)) x e
      → (x.file name).before ≡ Some file → IsModelFile o file m → ¬ Failed (x.file name) → ¬ Failed x.out → DoneOr (Gained x.out (check_text m)) e

  abbrev pub WriteIsComplete : Type 0
  WriteIsComplete = (x : Outside) (e : Ending) (written : Written) (name text file : List ℕ) (m : Model) (p : Process) → Ran o show (Some (write written name text)) x e
      → (x.file name).before ≡ Some file → AreAccepted o file text m p → ¬ Failed (x.file name) → ¬ Failed x.out
      → DoneOr ((g : Graph) × IsGraphOf m p g × WritesNamed written m p g x.out Done) e

  abbrev pub SampleIsComplete : Type 0
  SampleIsComplete = (x : Outside) (e : Ending) (seed legs : ℕ) → Ran o show (Some (sample seed legs)) x e → ¬ Failed x.out
      → DoneOr ((poles : ℕ) × (total : E) × IsSample o seed legs poles total × Gained x.out (sample_text show legs poles total)) e
