-- What the files and texts that words name give: a model, a process, a graph, a program.
use Rattle.std.specs.Prelude.{ℕ, ◌≡◌, ◌^◌, ◌≤◌, ◌<◌, List, length, IfSome, Result, Ok, Err}
use Rattle.om_ring.specs.Ops.{Ops}
use Rattle.om_model.specs.ProcessText.{process_of}
use Rattle.om_model.specs.declared.model.Model.{Model}
use Rattle.om_model.specs.declared.process.Process.{Process}
use Rattle.om_modelfile.specs.ModelOf.{SaysModel}
use Rattle.om_modelfile.specs.declared.fault.ModelFault.{ModelFault}
use Rattle.om_modelfile.specs.declared.fault.ModelFault.TheVariants.{Memory}
use Rattle.om_graph.specs.declared.Graph.{Graph}
use Rattle.om_graph.specs.declared.TheConstants.{MOST_TERMS}
use Rattle.om_graph.specs.Possible.{IsPossible, term_count}
use Rattle.om_graph.specs.Reactions.{reaction_of}
use Rattle.om_keystone.specs.CanonicalGraph.{IsCanonicalOf}
use Rattle.om_asm.specs.Program.{program_of}
use Rattle.om_asm.specs.Rows.{bad}
use Rattle.om_code.specs.declared.code.Code.{Code}
use Rattle.om_code.specs.declared.code.CodeFault.TheVariants.{Broken}
use Rattle.om_code.specs.Lines.{IsFaultOf}
use Rattle.om_code.specs.Verified.{IsVerified}
use Rattle.om_machine.specs.LoadFaults.{IsLoadFault}
use Rattle.om_model.specs.ModelTable.{model_table}
use Rattle.om_model.specs.ProcessOf.{IsProcessOf}
use Rattle.om_machine.specs.Machines.{HasInverses, KeepsInverses, LoadedCode, SameTable, table_of}
use Rattle.om_top.specs.declared.load.named.Named.{Named}
use Rattle.om_machine.specs.declared.loading.LoadFault.TheVariants.{NoInverse}
use Rattle.om_top.specs.Outside.{Side, Failed, Holds}
use Rattle.om_top.specs.declared.faults.program.ProgramFault.{ProgramFault}
use Rattle.om_top.specs.declared.faults.program.ProgramFault.TheVariants as program
use Rattle.om_top.specs.declared.load.model.TheConstants.{MOST_MODEL_BYTES}
use Rattle.om_top.specs.declared.load.program.TheConstants.{MOST_PROGRAM_BYTES}
use Rattle.om_top.specs.declared.ending.Ending.{Ending}
use Rattle.om_top.specs.declared.ending.Ending.TheVariants as ending

-- where it is told, the file has more bytes than that
abbrev pub HasMore : ℕ → Side → Type 0
HasMore most file = IfSome file.before (λ bytes. most < length bytes)

module _ {E : Type 0} (o : Ops E) where
  -- these bytes say a fault; want of memory is none
  abbrev pub SaysFault : List ℕ → ModelFault → Type 0
  SaysFault bytes Memory = ⊥
  SaysFault bytes fault = SaysModel o bytes (Err fault)

  -- these are the bytes of a file of this model
  pub record IsModelFile (bytes : List ℕ) (model : Model) : Type 0 where
    pub within : length bytes ≤ MOST_MODEL_BYTES
    pub says : SaysModel o bytes (Ok model)

  -- these are the bytes of a file with this fault
  pub record IsFaultyFile (bytes : List ℕ) (fault : ModelFault) : Type 0 where
    pub within : length bytes ≤ MOST_MODEL_BYTES
    pub says : SaysFault bytes fault

  -- some bytes, which are those of the file where it tells them, are a file of this model
  abbrev pub HoldsModel : Side → Model → Type 0
  HoldsModel file model = (bytes : List ℕ) × Holds file bytes × IsModelFile bytes model

  -- some bytes, which are those of the file where it tells them, are a file with this fault
  abbrev pub HoldsFault : Side → ModelFault → Type 0
  HoldsFault file fault = (bytes : List ℕ) × Holds file bytes × IsFaultyFile bytes fault

  -- why these bytes give no model
  abbrev pub ReadsNoModel : List ℕ → Ending → Type 0
  ReadsNoModel bytes (ending.ModelFault fault) = SaysFault bytes fault
  ReadsNoModel bytes ending.NoMemory = Unit {0}
  ReadsNoModel bytes _ = ⊥

  -- the model of some bytes, or why there is none
  abbrev pub ReadsModel : List ℕ → Result Model Ending → Type 0
  ReadsModel bytes (Ok model) = SaysModel o bytes (Ok model)
  ReadsModel bytes (Err e) = ReadsNoModel bytes e

  -- why there is no model
  abbrev pub LoadsNoModel : Side → Ending → Type 0
  LoadsNoModel file ending.ModelTooLong = HasMore MOST_MODEL_BYTES file
  LoadsNoModel file (ending.ModelFault fault) = HoldsFault file fault
  LoadsNoModel file ending.FileFault = Failed file
  LoadsNoModel file ending.NoMemory = Unit {0}
  LoadsNoModel file _ = ⊥

  -- the model of the file, or why there is none
  abbrev pub LoadsModel : Side → Result Model Ending → Type 0
  LoadsModel file (Ok model) = HoldsModel file model
  LoadsModel file (Err e) = LoadsNoModel file e

-- the text is that of this process of the model
abbrev pub SaysProcess : Model → List ℕ → Process → Type 0
SaysProcess m text process = process_of m text ≡ Ok process

-- why there is no process
abbrev pub LoadsNoProcess : Model → List ℕ → Ending → Type 0
LoadsNoProcess m text (ending.ProcessFault fault) = process_of m text ≡ Err fault
LoadsNoProcess m text ending.NoMemory = Unit {0}
LoadsNoProcess m text _ = ⊥

-- the process of the text, or why there is none
abbrev pub LoadsProcess : Model → List ℕ → Result Process Ending → Type 0
LoadsProcess m text (Ok process) = SaysProcess m text process
LoadsProcess m text (Err e) = LoadsNoProcess m text e

-- the possible graph has too many terms and keystone terms
abbrev pub IsTooLarge : Model → Process → Type 0
IsTooLarge m p = (g : Graph) × IsPossible (reaction_of m p) g × (MOST_TERMS < term_count g)

-- the canonical graph of a process whose possible graph has few enough terms and keystone terms
pub record IsGraphOf (m : Model) (p : Process) (g : Graph) : Type 0 where
  pub canonical : IsCanonicalOf (reaction_of m p) g
  pub possible : Graph
  pub is_possible : IsPossible (reaction_of m p) possible
  pub few : term_count possible ≤ MOST_TERMS

-- why there is no graph
abbrev pub LoadsNoGraph : Model → Process → Ending → Type 0
LoadsNoGraph m p ending.GraphTooLarge = IsTooLarge m p
LoadsNoGraph m p ending.NoMemory = Unit {0}
LoadsNoGraph m p _ = ⊥

-- the graph of the process, or why there is none
abbrev pub LoadsGraph : Model → Process → Result Graph Ending → Type 0
LoadsGraph m p (Ok g) = IsGraphOf m p g
LoadsGraph m p (Err e) = LoadsNoGraph m p e

module _ {E : Type 0} (o : Ops E) where
  -- These bytes say a verified code all of whose rows have their inverses.
  pub record SaysProgram (bytes : List ℕ) (c : Code) : Type 0 where
    pub reads : program_of bytes ≡ Ok c
    pub verified : IsVerified c
    pub inverses : HasInverses o c

  -- These bytes say a fault of a program: the first bad line; the first line of a code that breaks a rule; or the line of the first row
  -- of a verified code without inverse.
  abbrev pub SaysProgramFault : List ℕ → ProgramFault → Type 0
  SaysProgramFault bytes (program.Text line kind) = program_of bytes ≡ Err (bad line kind)
  SaysProgramFault bytes (program.Rule line kind) = (c : Code) × (program_of bytes ≡ Ok c) × IsFaultOf c (Broken line kind)
  SaysProgramFault bytes (program.NoInverse line) = (c : Code) × (program_of bytes ≡ Ok c) × IsVerified c × IsLoadFault o c (NoInverse line)

  -- these are the bytes of a file of this program
  pub record IsProgramFile (bytes : List ℕ) (c : Code) : Type 0 where
    pub within : length bytes ≤ MOST_PROGRAM_BYTES
    pub says : SaysProgram bytes c

  -- these are the bytes of a program's file with this fault
  pub record IsFaultyProgram (bytes : List ℕ) (fault : ProgramFault) : Type 0 where
    pub within : length bytes ≤ MOST_PROGRAM_BYTES
    pub says : SaysProgramFault bytes fault

  -- some bytes, which are those of the file where it tells them, are a file of this program
  abbrev pub HoldsProgram : Side → Code → Type 0
  HoldsProgram file c = (bytes : List ℕ) × Holds file bytes × IsProgramFile bytes c

  -- some bytes, which are those of the file where it tells them, are a program's file with this fault
  abbrev pub HoldsProgramFault : Side → ProgramFault → Type 0
  HoldsProgramFault file fault = (bytes : List ℕ) × Holds file bytes × IsFaultyProgram bytes fault

-- why a text gives no verified code
abbrev pub ReadsNoCode : List ℕ → Ending → Type 0
ReadsNoCode bytes (ending.ProgramFault (program.Text line kind)) = program_of bytes ≡ Err (bad line kind)
ReadsNoCode bytes (ending.ProgramFault (program.Rule line kind)) = (c : Code) × (program_of bytes ≡ Ok c) × IsFaultOf c (Broken line kind)
ReadsNoCode bytes ending.NoMemory = Unit {0}
ReadsNoCode bytes _ = ⊥

-- the verified code of a text, or why there is none
abbrev pub ReadsCode : List ℕ → Result Code Ending → Type 0
ReadsCode bytes (Ok c) = (program_of bytes ≡ Ok c) × IsVerified c
ReadsCode bytes (Err e) = ReadsNoCode bytes e

module _ {E : Type 0} (o : Ops E) where
  -- why some bytes give no program
  abbrev pub ReadsNoProgram : List ℕ → Ending → Type 0
  ReadsNoProgram bytes (ending.ProgramFault fault) = SaysProgramFault o bytes fault
  ReadsNoProgram bytes ending.NoMemory = Unit {0}
  ReadsNoProgram bytes _ = ⊥

  -- the machine of the program of some bytes, or why there is none
  abbrev pub ReadsProgram : List ℕ → Result (LoadedCode E) Ending → Type 0
  ReadsProgram bytes (Ok m) = SaysProgram o bytes m.code
  ReadsProgram bytes (Err e) = ReadsNoProgram bytes e

  -- why there is no program
  abbrev pub LoadsNoProgram : Side → Ending → Type 0
  LoadsNoProgram file ending.ProgramTooLong = HasMore MOST_PROGRAM_BYTES file
  LoadsNoProgram file (ending.ProgramFault fault) = HoldsProgramFault o file fault
  LoadsNoProgram file ending.FileFault = Failed file
  LoadsNoProgram file ending.NoMemory = Unit {0}
  LoadsNoProgram file _ = ⊥

  -- the machine of the program of the file, or why there is none
  abbrev pub LoadsProgram : Side → Result (LoadedCode E) Ending → Type 0
  LoadsProgram file (Ok m) = HoldsProgram o file m.code
  LoadsProgram file (Err e) = LoadsNoProgram file e

  -- a machine that is ready for the events of its code
  pub record IsLoaded (m : LoadedCode E) : Type 0 where
    pub table : SameTable o (table_of o m) (model_table o m.code.model)
    pub kept : KeepsInverses o m.code m.masses
    pub few : length m.code.flows < 2 ^ 32

  -- what a model, a process and its graph are by their names
  pub record AreNamed (file : Side) (text : List ℕ) (m : Model) (p : Process) (g : Graph) : Type 0 where
    pub model : HoldsModel o file m
    pub process : SaysProcess m text p
    pub fits : IsProcessOf m p
    pub graph : IsGraphOf m p g

  -- why there is no model, process or graph of these names
  abbrev pub LoadsNoneNamed : Side → List ℕ → Ending → Type 0
  LoadsNoneNamed file text (ending.ProcessFault fault) = (m : Model) × HoldsModel o file m × (process_of m text ≡ Err fault)
  LoadsNoneNamed file text ending.GraphTooLarge = (m : Model) × HoldsModel o file m × (p : Process) × SaysProcess m text p × IsTooLarge m p
  LoadsNoneNamed file text e = LoadsNoModel o file e

  -- the model, the process and its graph, or why they aren't there
  abbrev pub LoadsNamed : Side → List ℕ → Result Named Ending → Type 0
  LoadsNamed file text (Ok x) = AreNamed file text x.model x.process x.graph
  LoadsNamed file text (Err e) = LoadsNoneNamed file text e
