-- When each refusal and each fault comes, and what stands then.
use Rattle.std.specs.Prelude.{ℕ, ◌≡◌, ◌≢◌, ◌<◌, ◌↔◌, ◌⊎◌, Bool, true, false, List, [], ◌∷◌, length, Option, Some, None, Err}
use Rattle.om_ring.specs.Ops.{Ops}
use Rattle.om_ring.specs.Members.{In}
use Rattle.om_model.specs.Diagrams.{counts}
use Rattle.om_model.specs.Model.{scattering_of}
use Rattle.om_model.specs.ProcessText.{process_of}
use Rattle.om_model.specs.Theory.{Scattering}
use Rattle.om_model.specs.Tree.{Tree}
use Rattle.om_model.specs.declared.model.Model.{Model}
use Rattle.om_model.specs.declared.process.Process.{Process}
use Rattle.om_model.specs.declared.process.ProcessFault.{ProcessFault}
use Rattle.om_modelfile.specs.declared.fault.ModelFault.{ModelFault}
use Rattle.om_graph.specs.declared.Graph.{Graph}
use Rattle.om_code.specs.declared.code.Code.{Code}
use Rattle.om_event.specs.Events.{at_end, events_of}
use Rattle.om_event.specs.declared.kind.WaveKind.{WaveKind}
use Rattle.om_top.specs.Command.{Command, check, eval, write, run, sample}
use Rattle.om_top.specs.EvalRan.{process_kinds}
use Rattle.om_top.specs.Loads.{HoldsModel, HoldsProgram, IsGraphOf, IsModelFile, IsProgramFile, IsTooLarge, SaysFault, SaysProcess, SaysProgramFault}
use Rattle.om_top.specs.Message.{status_of}
use Rattle.om_top.specs.Outside.{Outside, Failed, IsQuiet}
use Rattle.om_top.specs.Ran.{Ran}
use Rattle.om_top.specs.Streamed.{kinds_of}
use Rattle.om_top.specs.declared.faults.program.ProgramFault.{ProgramFault}
use Rattle.om_top.specs.declared.load.model.TheConstants.{MOST_MODEL_BYTES}
use Rattle.om_top.specs.declared.load.program.TheConstants.{MOST_PROGRAM_BYTES}
use Rattle.om_top.specs.declared.ending.Ending.{Ending}
use Rattle.om_top.specs.declared.ending.Ending.TheVariants as ending

-- after these endings nothing was read from the input and nothing written
abbrev pub is_quiet : Ending → Bool
is_quiet ending.Done = false
is_quiet (ending.EventFault fault) = false
is_quiet ending.InputFault = false
is_quiet ending.OutFault = false
is_quiet _ = true

-- the name of the model's file, where a command begins with one
abbrev pub model_name : Command → Option (List ℕ)
model_name (check model) = Some model
model_name (eval model process) = Some model
model_name (write written model process) = Some model
model_name (run program) = None
model_name (sample seed legs) = None

-- the text of a process of that model, where it goes on with one
abbrev pub process_text : Command → Option (List ℕ)
process_text (check model) = None
process_text (eval model process) = Some process
process_text (write written model process) = Some process
process_text (run program) = None
process_text (sample seed legs) = None

-- the name of the file that it reads
abbrev pub file_name : Command → Option (List ℕ)
file_name (run program) = Some program
file_name command = model_name command

-- the statuses of a command
abbrev pub statuses_of : Command → List ℕ
statuses_of (check model) = 0 ∷ 3 ∷ 7 ∷ 8 ∷ 10 ∷ []
statuses_of (eval model process) = 0 ∷ 3 ∷ 4 ∷ 6 ∷ 7 ∷ 8 ∷ 9 ∷ 10 ∷ []
statuses_of (write written model process) = 0 ∷ 3 ∷ 4 ∷ 7 ∷ 8 ∷ 9 ∷ 10 ∷ []
statuses_of (run program) = 0 ∷ 5 ∷ 6 ∷ 7 ∷ 8 ∷ 10 ∷ []
statuses_of (sample seed legs) = 0 ∷ 8 ∷ 10 ∷ []

-- some diagram counts
abbrev pub HasDiagram : Scattering → Type 0
HasDiagram s = (t : Tree) × (counts s t ≡ true)

-- the text is that of no process
abbrev pub RefusesProcess : Model → List ℕ → Type 0
RefusesProcess m text = (fault : ProcessFault) × (process_of m text ≡ Err fault)

module _ {E : Type 0} (o : Ops E) where
  -- the file of a model has too many bytes, or a fault
  abbrev pub RefusesModel : List ℕ → Type 0
  RefusesModel file = (MOST_MODEL_BYTES < length file) ⊎ ((fault : ModelFault) × SaysFault o file fault)

  -- the file of a program has too many bytes, or a fault
  abbrev pub RefusesProgram : List ℕ → Type 0
  RefusesProgram file = (MOST_PROGRAM_BYTES < length file) ⊎ ((fault : ProgramFault) × SaysProgramFault o file fault)

  -- an input isn't events and nothing more
  abbrev pub RefusesEvents : List WaveKind → List ℕ → Type 0
  RefusesEvents kinds input = (events_of o kinds input).ending ≢ at_end

  -- the file and the text are those of a model and a process whose graph isn't too large
  pub record AreAccepted (file text : List ℕ) (m : Model) (p : Process) : Type 0 where
    pub model : IsModelFile o file m
    pub process : SaysProcess m text p
    pub graph : Graph
    pub is_graph : IsGraphOf m p graph

  -- there was a model, a process and a graph
  abbrev pub HasGraph : List ℕ → List ℕ → Outside → Type 0
  HasGraph name text x = (m : Model) × (p : Process) × (g : Graph) × HoldsModel o (x.file name) m × SaysProcess m text p × IsGraphOf m p g

  -- nothing is refused before anything is written
  abbrev pub IsAccepted : Command → Outside → Type 0
  IsAccepted (check name) x = (m : Model) × HoldsModel o (x.file name) m
  IsAccepted (eval name text) x = HasGraph name text x
  IsAccepted (write written name text) x = HasGraph name text x
  IsAccepted (run name) x = (c : Code) × HoldsProgram o (x.file name) c
  IsAccepted (sample seed legs) x = Unit {0}

  -- nothing is refused, and there is a diagram or a flow
  abbrev pub ReadsEvents : Command → Outside → Type 0
  ReadsEvents (eval name text) x =
      (m : Model) × (p : Process) × (g : Graph) × HoldsModel o (x.file name) m × SaysProcess m text p × IsGraphOf m p g × HasDiagram (scattering_of m p)
  ReadsEvents (run name) x = (c : Code) × HoldsProgram o (x.file name) c × (c.flows ≢ [])
  ReadsEvents command x = ⊥

module _ {E : Type 0} (o : Ops E) (show : E → List ℕ) where
  -- the usage line comes exactly where the words have the form of no command
  abbrev pub UsageCause : Type 0
  UsageCause = (command : Option Command) (x : Outside) (e : Ending) → Ran o show command x e → (status_of e ≡ 2) ↔ (command ≡ None)

  -- where the file is told and didn't fail, and memory didn't run out, a model is refused exactly where the file is to be
  abbrev pub ModelCause : Type 0
  ModelCause = (command : Command) (x : Outside) (e : Ending) (name file : List ℕ) → Ran o show (Some command) x e → model_name command ≡ Some name
      → (x.file name).before ≡ Some file → ¬ Failed (x.file name) → e ≢ ending.NoMemory → (status_of e ≡ 3) ↔ RefusesModel o file

  -- with a model, a process is refused exactly where the text is to be
  abbrev pub ProcessCause : Type 0
  ProcessCause = (command : Command) (x : Outside) (e : Ending) (name text file : List ℕ) (m : Model) → Ran o show (Some command) x e
      → model_name command ≡ Some name → process_text command ≡ Some text → (x.file name).before ≡ Some file → ¬ Failed (x.file name)
      → e ≢ ending.NoMemory → IsModelFile o file m → (status_of e ≡ 4) ↔ RefusesProcess m text

  -- with a process too, it is too large exactly where its possible graph is
  abbrev pub SizeCause : Type 0
  SizeCause = (command : Command) (x : Outside) (e : Ending) (name text file : List ℕ) (m : Model) (p : Process) → Ran o show (Some command) x e
      → model_name command ≡ Some name → process_text command ≡ Some text → (x.file name).before ≡ Some file → ¬ Failed (x.file name)
      → e ≢ ending.NoMemory → IsModelFile o file m → SaysProcess m text p → (status_of e ≡ 9) ↔ IsTooLarge m p

  -- a program is refused exactly where its file is to be
  abbrev pub ProgramCause : Type 0
  ProgramCause = (x : Outside) (e : Ending) (name file : List ℕ) → Ran o show (Some (run name)) x e → (x.file name).before ≡ Some file
      → ¬ Failed (x.file name) → e ≢ ending.NoMemory → (status_of e ≡ 5) ↔ RefusesProgram o file

  -- with a graph and a diagram, where the input is told and nothing failed, events are refused exactly where the input isn't events
  -- and nothing more; without a diagram they never are
  pub record EventsCause : Type 0 where
    pub some : (x : Outside) (e : Ending) (name text file input : List ℕ) (m : Model) (p : Process) → Ran o show (Some (eval name text)) x e
        → (x.file name).before ≡ Some file → AreAccepted o file text m p → HasDiagram (scattering_of m p) → x.input.before ≡ Some input
        → ¬ Failed (x.file name) → ¬ Failed x.input → ¬ Failed x.out → e ≢ ending.NoMemory
        → (status_of e ≡ 6) ↔ RefusesEvents o (process_kinds o show m p) input
    pub none : (x : Outside) (e : Ending) (name text file : List ℕ) (m : Model) (p : Process) → Ran o show (Some (eval name text)) x e
        → (x.file name).before ≡ Some file → AreAccepted o file text m p → ¬ HasDiagram (scattering_of m p) → ¬ Failed (x.file name) → status_of e ≢ 6

  -- the same with a program, by its flows
  pub record ProgramEventsCause : Type 0 where
    pub some : (x : Outside) (e : Ending) (name file input : List ℕ) (c : Code) → Ran o show (Some (run name)) x e → (x.file name).before ≡ Some file
        → IsProgramFile o file c → c.flows ≢ [] → x.input.before ≡ Some input → ¬ Failed (x.file name) → ¬ Failed x.input → ¬ Failed x.out
        → e ≢ ending.NoMemory → (status_of e ≡ 6) ↔ RefusesEvents o (kinds_of c.model.particles c.legs) input
    pub none : (x : Outside) (e : Ending) (name file : List ℕ) (c : Code) → Ran o show (Some (run name)) x e → (x.file name).before ≡ Some file
        → IsProgramFile o file c → c.flows ≡ [] → ¬ Failed (x.file name) → status_of e ≢ 6

  -- A fault comes only where the count of its object rose: one of the file only in a command that reads one, one of the output only
  -- where nothing is refused before, and one of the input only where there is a diagram or a flow too.
  pub record FaultCauses (command : Command) (x : Outside) (e : Ending) : Type 0 where
    pub file : e ≡ ending.FileFault → (name : List ℕ) × (file_name command ≡ Some name) × Failed (x.file name)
    pub input : e ≡ ending.InputFault → Failed x.input × ReadsEvents o command x
    pub out : e ≡ ending.OutFault → Failed x.out × IsAccepted o command x

  abbrev pub FaultsHaveCauses : Type 0
  FaultsHaveCauses = (command : Command) (x : Outside) (e : Ending) → Ran o show (Some command) x e → FaultCauses command x e

  -- after a refusal that comes before the input, a fault of the file or want of memory nothing was read and nothing written
  abbrev pub QuietEndings : Type 0
  QuietEndings = (command : Option Command) (x : Outside) (e : Ending) → Ran o show command x e → is_quiet e ≡ true → IsQuiet x

  -- a command ends with one of its statuses
  abbrev pub CommandEndings : Type 0
  CommandEndings = (command : Command) (x : Outside) (e : Ending) → Ran o show (Some command) x e → In (status_of e) (statuses_of command)
