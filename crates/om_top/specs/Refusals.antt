-- What stands where a command begins with a model, a process, a graph or a program, by how it ends. `quiet` is what else stands where it
-- is refused or memory runs out, and `rest` is what stands with the thing.
use Rattle.std.specs.Prelude.{ℕ, ◌≡◌, List, Err}
use Rattle.om_ring.specs.Ops.{Ops}
use Rattle.om_model.specs.ProcessText.{process_of}
use Rattle.om_model.specs.declared.model.Model.{Model}
use Rattle.om_model.specs.declared.process.Process.{Process}
use Rattle.om_graph.specs.declared.Graph.{Graph}
use Rattle.om_code.specs.declared.code.Code.{Code}
use Rattle.om_top.specs.Loads.{HasMore, HoldsFault, HoldsModel, HoldsProgram, HoldsProgramFault, IsGraphOf, IsTooLarge, SaysProcess}
use Rattle.om_top.specs.Outside.{Side, Failed}
use Rattle.om_top.specs.declared.load.model.TheConstants.{MOST_MODEL_BYTES}
use Rattle.om_top.specs.declared.load.program.TheConstants.{MOST_PROGRAM_BYTES}
use Rattle.om_top.specs.declared.ending.Ending.{Ending}
use Rattle.om_top.specs.declared.ending.Ending.TheVariants.{ModelTooLong, ModelFault, ProcessFault, GraphTooLarge, ProgramTooLong, ProgramFault, FileFault, NoMemory}

-- the file of a model: what it says, that it failed, or want of memory
abbrev pub WithModel : {E : Type 0} → Ops E → Side → Type 0 → (Model → Ending → Type 0) → Ending → Type 0
WithModel o file quiet rest ModelTooLong = HasMore MOST_MODEL_BYTES file × quiet
WithModel o file quiet rest (ModelFault fault) = HoldsFault o file fault × quiet
WithModel o file quiet rest FileFault = Failed file × quiet
WithModel o file quiet rest NoMemory = quiet
WithModel o file quiet rest ending = (m : Model) × HoldsModel o file m × rest m ending

-- the text of a process: what is wrong with it
abbrev pub WithProcess : List ℕ → Type 0 → (Model → Process → Ending → Type 0) → Model → Ending → Type 0
WithProcess text quiet rest m (ProcessFault fault) = (process_of m text ≡ Err fault) × quiet
WithProcess text quiet rest m ending = (p : Process) × SaysProcess m text p × rest m p ending

-- the graph of a process: that it is too large
abbrev pub WithGraph : Type 0 → (Model → Process → Graph → Ending → Type 0) → Model → Process → Ending → Type 0
WithGraph quiet rest m p GraphTooLarge = IsTooLarge m p × quiet
WithGraph quiet rest m p ending = (g : Graph) × IsGraphOf m p g × rest m p g ending

-- the file of a program: what it says, that it failed, or want of memory
abbrev pub WithProgram : {E : Type 0} → Ops E → Side → Type 0 → (Code → Ending → Type 0) → Ending → Type 0
WithProgram o file quiet rest ProgramTooLong = HasMore MOST_PROGRAM_BYTES file × quiet
WithProgram o file quiet rest (ProgramFault fault) = HoldsProgramFault o file fault × quiet
WithProgram o file quiet rest FileFault = Failed file × quiet
WithProgram o file quiet rest NoMemory = quiet
WithProgram o file quiet rest ending = (c : Code) × HoldsProgram o file c × rest c ending
