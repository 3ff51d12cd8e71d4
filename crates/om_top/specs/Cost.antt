-- How many calls of the ring a run makes at most.
use Rattle.std.specs.Prelude.{ℕ, ◌≡◌, ◌⊎◌, ◌+◌, ◌*◌, List, length, Option, Some, None, Result, Ok, Err}
use Rattle.om_ring.specs.Ops.{Ops}
use Rattle.om_model.specs.declared.model.Model.{Model}
use Rattle.om_model.specs.declared.process.Process.{Process}
use Rattle.om_modelfile.specs.ModelOf.{form_of, rows_read}
use Rattle.om_graph.specs.declared.Graph.{Graph}
use Rattle.om_code.specs.declared.code.Code.{Code}
use Rattle.om_machine.specs.Bound.{part}
use Rattle.om_emit.specs.GraphCode.{IsCodeOf}
use Rattle.om_asm.specs.Program.{program_of}
use Rattle.om_asm.specs.Rows.{BadLine}
use Rattle.om_event.specs.Events.{Ending as Ended, at_end, bad, too_many, events_of}
use Rattle.om_event.specs.declared.kind.WaveKind.{WaveKind}
use Rattle.om_sample.specs.Model.{sample_model, sample_process}
use Rattle.om_sample.specs.declared.limits.TheConstants.{SAMPLE_EVENTS}
use Rattle.om_top.specs.Command.{Command, check, eval, write, run, sample}
use Rattle.om_top.specs.Loads.{IsGraphOf, IsModelFile, IsProgramFile, SaysProcess}
use Rattle.om_top.specs.Outside.{Outside, Side, Gave, Holds}
use Rattle.om_machine.specs.Machines.{LoadedCode}
use Rattle.om_top.specs.Streamed.{kinds_of}
use Rattle.om_top.specs.declared.load.named.Named.{Named}
use Rattle.om_top.specs.declared.ending.Ending.{Ending}

-- 200 for each particle and vertex of a model
abbrev pub rows_calls : Model → ℕ
rows_calls m = 200 * (length m.particles + length m.vertices)

-- the reading of the file of a model: 200 for each particle and vertex that is held to the rules
abbrev pub file_calls : List ℕ → ℕ
file_calls file = 200 * rows_read (form_of file)

-- the loading of the code of a text, where it has one
abbrev pub loading_calls : Result Code BadLine → ℕ
loading_calls (Ok c) = rows_calls c.model
loading_calls (Err line) = 0

abbrev pub program_calls : List ℕ → ℕ
program_calls file = loading_calls (program_of file)

-- an event, read and answered
abbrev pub event_calls : Code → ℕ
event_calls c = part c + 32 * length c.legs

-- the event of a bad line was begun
abbrev pub one_begun : Ended → ℕ
one_begun at_end = 0
one_begun (bad n k cause) = 1
one_begun too_many = 0

-- the number of events of which some bytes hold a byte
abbrev pub events_begun : {E : Type 0} → Ops E → List WaveKind → List ℕ → ℕ
events_begun o kinds given = let said = events_of o kinds given in length said.events + one_begun said.ending

-- `check`, and each command that makes no other calls: those of the reading of the file, whose bytes these are where it tells them
abbrev pub FileMayCall : Side → ℕ → Type 0
FileMayCall side n = (file : List ℕ) × Holds side file × (n ≡ file_calls file)

-- the loading of a model
abbrev pub LoadMayCall : Side → Result Model Ending → ℕ → Type 0
LoadMayCall side (Ok m) n = n ≡ rows_calls m
LoadMayCall side (Err ending) n = FileMayCall side n

-- the loading of a model, a process and its graph
abbrev pub NamedMayCall : Side → Result Named Ending → ℕ → Type 0
NamedMayCall side (Ok x) n = n ≡ rows_calls x.model
NamedMayCall side (Err ending) n = FileMayCall side n

-- the loading of a program
abbrev pub TextMayCall : Side → ℕ → Type 0
TextMayCall side n = (file : List ℕ) × Holds side file × (n ≡ program_calls file)

abbrev pub ProgramMayCall : {E : Type 0} → Side → Result (LoadedCode E) Ending → ℕ → Type 0
ProgramMayCall side (Ok m) n = n ≡ rows_calls m.code.model
ProgramMayCall side (Err ending) n = TextMayCall side n

-- the code of the process of a sample with so many legs
pub record IsSampleCode (legs : ℕ) (c : Code) : Type 0 where
  pub graph : Graph
  pub is_graph : IsGraphOf sample_model (sample_process legs) graph
  pub is_code : IsCodeOf sample_model (sample_process legs) graph c

-- a sample: nothing; the loading of its code; and beside that 8 for each leg and the code's calls, for each event
abbrev pub SampleMayCall : ℕ → ℕ → Type 0
SampleMayCall legs n =
    (n ≡ rows_calls sample_model)
    ⊎ ((c : Code) × IsSampleCode legs c × (n ≡ rows_calls sample_model + SAMPLE_EVENTS * (part c + 8 * length c.legs)))

module _ {E : Type 0} (o : Ops E) where
  -- the events that the input gave, answered by a code
  abbrev pub EventsMayCall : Code → Side → ℕ → Type 0
  EventsMayCall c input n = (given : List ℕ) × Gave input given × (n ≡ events_begun o (kinds_of c.model.particles c.legs) given * event_calls c)

  -- the code of a process of the file and the text
  pub record IsCodeFor (file text : List ℕ) (c : Code) : Type 0 where
    pub model : Model
    pub process : Process
    pub graph : Graph
    pub is_file : IsModelFile o file model
    pub says : SaysProcess model text process
    pub is_graph : IsGraphOf model process graph
    pub is_code : IsCodeOf model process graph c

  -- beside the reading of the file and the loading of a code: nothing, or the events that were given
  abbrev pub EvalMayAdd : List ℕ → List ℕ → Side → ℕ → Type 0
  EvalMayAdd file text input n = (n ≡ 0) ⊎ ((c : Code) × IsCodeFor file text c × EventsMayCall c input n)

  abbrev pub EvalMayCall : Side → List ℕ → Side → ℕ → Type 0
  EvalMayCall side text input n = (file : List ℕ) × Holds side file × (more : ℕ) × EvalMayAdd file text input more × (n ≡ 2 * file_calls file + more)

  -- beside the loading of the code: nothing, or the events that were given
  abbrev pub RunMayAdd : List ℕ → Side → ℕ → Type 0
  RunMayAdd file input n = (n ≡ 0) ⊎ ((c : Code) × IsProgramFile o file c × EventsMayCall c input n)

  abbrev pub RunMayCall : Side → Side → ℕ → Type 0
  RunMayCall side input n = (file : List ℕ) × Holds side file × (more : ℕ) × RunMayAdd file input more × (n ≡ program_calls file + more)

  -- a command makes so many calls at most
  abbrev pub CommandMayCall : Command → Outside → ℕ → Type 0
  CommandMayCall (check name) x n = FileMayCall (x.file name) n
  CommandMayCall (eval name text) x n = EvalMayCall (x.file name) text x.input n
  CommandMayCall (write written name text) x n = FileMayCall (x.file name) n
  CommandMayCall (run name) x n = RunMayCall (x.file name) x.input n
  CommandMayCall (sample seed legs) x n = SampleMayCall legs n

  -- a run makes so many calls at most
  abbrev pub MayCall : Option Command → Outside → ℕ → Type 0
  MayCall None x n = n ≡ 0
  MayCall (Some command) x n = CommandMayCall command x n
