-- The status of each ending and the line that goes with it.
use Rattle.std.specs.Prelude.{ℕ, ◌⊎◌, List, [], ◌++◌, codes, decimal}
use Rattle.om_graph.specs.declared.TheConstants.{MOST_TERMS}
use Rattle.om_top.specs.FaultText.{event_fault_text, model_fault_text, process_fault_text, program_fault_text}
use Rattle.om_top.specs.Outside.{Side, Failed, Gained}
use Rattle.om_top.specs.declared.ending.Ending.{Ending}
use Rattle.om_top.specs.declared.ending.Ending.TheVariants.{Done, Usage, ModelTooLong, ModelFault, ProcessFault, GraphTooLarge, ProgramTooLong, ProgramFault, EventFault, FileFault, InputFault, OutFault, NoMemory}

-- the exit status
abbrev pub status_of : Ending → ℕ
status_of Done = 0
status_of Usage = 2
status_of ModelTooLong = 3
status_of (ModelFault fault) = 3
status_of (ProcessFault fault) = 4
status_of ProgramTooLong = 5
status_of (ProgramFault fault) = 5
status_of (EventFault fault) = 6
status_of FileFault = 7
status_of InputFault = 7
status_of OutFault = 8
status_of GraphTooLarge = 9
status_of NoMemory = 10

-- the line on the standard error, which is empty where all was done
abbrev pub message_of : Ending → List ℕ
message_of Done = []
message_of Usage =
    codes "usage: omega check MODEL, eval MODEL PROCESS, compile MODEL PROCESS, "
    ++ codes "run PROGRAM, graph MODEL PROCESS, sample SEED LEGS\n"
message_of ModelTooLong = codes "model: too long\n"
message_of (ModelFault fault) = codes "model: " ++ model_fault_text fault ++ codes "\n"
message_of (ProcessFault fault) = codes "process: " ++ process_fault_text fault ++ codes "\n"
message_of ProgramTooLong = codes "program: too long\n"
message_of (ProgramFault fault) = codes "program: " ++ program_fault_text fault ++ codes "\n"
message_of (EventFault fault) = codes "events: " ++ event_fault_text fault ++ codes "\n"
message_of FileFault = codes "read fault: file\n"
message_of InputFault = codes "read fault: input\n"
message_of OutFault = codes "write fault\n"
message_of GraphTooLarge = codes "too large: more than " ++ decimal MOST_TERMS ++ codes " terms\n"
message_of NoMemory = codes "want of memory\n"

-- exactly the line was appended, unless the count of faults rose
abbrev pub Told : Side → Ending → Type 0
Told err ending = Gained err (message_of ending) ⊎ Failed err
