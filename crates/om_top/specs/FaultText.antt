-- The texts of the faults of models, processes, programs and inputs.
use Rattle.std.specs.Prelude.{ℕ, codes, decimal, List, ◌++◌}
use Rattle.om_ring.specs.declared.numeral.NumeralFault.{NumeralFault}
use Rattle.om_ring.specs.declared.numeral.NumeralFault.TheVariants.{Empty, BadByte, TooBig, ZeroDen}
use Rattle.om_model.specs.declared.process.ProcessFault.{ProcessFault}
use Rattle.om_model.specs.declared.process.ProcessFault.TheVariants as process
use Rattle.om_model.specs.declared.rules.ModelRule.{ModelRule}
use Rattle.om_model.specs.declared.rules.ModelRule.TheVariants.{RepeatedName, BadPattern, NoInverse, NotSymmetric, Limit}
use Rattle.om_model.specs.declared.rules.Table.{Table}
use Rattle.om_model.specs.declared.rules.Table.TheVariants.{Top, Parameter, Particle, Vertex}
use Rattle.om_asm.specs.declared.fault.AsmKind.{AsmKind}
use Rattle.om_asm.specs.declared.fault.AsmKind.TheVariants as asm
use Rattle.om_code.specs.declared.code.CodeKind.{CodeKind}
use Rattle.om_code.specs.declared.code.CodeKind.TheVariants as code
use Rattle.om_event.specs.declared.cause.Cause.{Cause}
use Rattle.om_event.specs.declared.cause.Cause.TheVariants as cause
use Rattle.om_event.specs.declared.limits.TheConstants.{MOST_EVENTS}
use Rattle.om_top.specs.declared.faults.event.EventFault.{EventFault}
use Rattle.om_top.specs.declared.faults.event.EventFault.TheVariants as events
use Rattle.om_top.specs.declared.faults.program.ProgramFault.{ProgramFault}
use Rattle.om_top.specs.declared.faults.program.ProgramFault.TheVariants as program
use Rattle.om_modelfile.specs.declared.fault.ModelFault.{ModelFault}
use Rattle.om_modelfile.specs.declared.fault.ModelFault.TheVariants.{NotToml, MissingKey, WrongKind, UnknownKey, BadNumber, BadName, UnknownName, TooMuch, Rule, Memory}

abbrev pub table_name : Table → List ℕ
table_name Top = codes "top"
table_name Parameter = codes "parameter"
table_name Particle = codes "particle"
table_name Vertex = codes "vertex"

abbrev pub rule_name : ModelRule → List ℕ
rule_name RepeatedName = codes "RepeatedName"
rule_name BadPattern = codes "BadPattern"
rule_name NoInverse = codes "NoInverse"
rule_name NotSymmetric = codes "NotSymmetric"
rule_name Limit = codes "Limit"

-- why a text is no numeral; a bad byte is told without its place
abbrev pub cause_name : NumeralFault → List ℕ
cause_name Empty = codes "Empty"
cause_name (BadByte place) = codes "BadByte"
cause_name TooBig = codes "TooBig"
cause_name ZeroDen = codes "ZeroDen"

-- a name with the table and the row that it speaks of
abbrev pub placed : List ℕ → Table → ℕ → List ℕ
placed name table row = name ++ codes " at " ++ table_name table ++ codes " " ++ decimal row

-- a fault by its name, and that of a rule by the rule's
abbrev pub model_fault_text : ModelFault → List ℕ
model_fault_text NotToml = codes "NotToml"
model_fault_text (MissingKey table row) = placed (codes "MissingKey") table row
model_fault_text (WrongKind table row) = placed (codes "WrongKind") table row
model_fault_text (UnknownKey table row) = placed (codes "UnknownKey") table row
model_fault_text (BadNumber table row cause) = codes "BadNumber " ++ placed (cause_name cause) table row
model_fault_text (BadName table row) = placed (codes "BadName") table row
model_fault_text (UnknownName table row) = placed (codes "UnknownName") table row
model_fault_text (TooMuch table row) = placed (codes "TooMuch") table row
model_fault_text (Rule broken) = placed (rule_name broken.rule) broken.table broken.row
model_fault_text Memory = codes "Memory"

-- a name with the byte of a text that it speaks of
abbrev pub at_byte : List ℕ → ℕ → List ℕ
at_byte name place = name ++ codes " at byte " ++ decimal place

-- what is wrong with the text of a process
abbrev pub process_fault_text : ProcessFault → List ℕ
process_fault_text (process.Syntax place) = at_byte (codes "syntax") place
process_fault_text (process.Unknown place) = at_byte (codes "unknown name") place
process_fault_text (process.Legs count) = decimal count ++ codes " legs"
process_fault_text (process.Edge place) = at_byte (codes "edge") place
process_fault_text process.Memory = codes "Memory"

abbrev pub asm_kind_name : AsmKind → List ℕ
asm_kind_name asm.Grammar = codes "Grammar"
asm_kind_name asm.Name = codes "Name"

abbrev pub code_kind_name : CodeKind → List ℕ
code_kind_name code.Row = codes "Row"
code_kind_name code.Legs = codes "Legs"
code_kind_name code.Flow = codes "Flow"
code_kind_name code.Den = codes "Den"
code_kind_name code.Number = codes "Number"
code_kind_name code.Register = codes "Register"
code_kind_name code.Fit = codes "Fit"
code_kind_name code.Sets = codes "Sets"

-- a line of a program and what is wrong with it
abbrev pub at_line : ℕ → List ℕ → List ℕ
at_line line name = codes "line " ++ decimal line ++ codes ": " ++ name

-- what is wrong with a program
abbrev pub program_fault_text : ProgramFault → List ℕ
program_fault_text (program.Text line kind) = at_line line (asm_kind_name kind)
program_fault_text (program.Rule line kind) = at_line line (code_kind_name kind)
program_fault_text (program.NoInverse line) = at_line line (codes "NoInverse")

abbrev pub event_cause_name : Cause → List ℕ
event_cause_name cause.TooLong = codes "TooLong"
event_cause_name cause.Count = codes "Count"
event_cause_name cause.LegNumber = codes "LegNumber"
event_cause_name cause.BadNumeral = codes "BadNumeral"
event_cause_name cause.NoInverse = codes "NoInverse"
event_cause_name cause.Cut = codes "Cut"

-- what is wrong with an input
abbrev pub event_fault_text : EventFault → List ℕ
event_fault_text (events.Bad event line cause) = codes "event " ++ decimal event ++ codes " line " ++ decimal line ++ codes ": " ++ event_cause_name cause
event_fault_text events.TooMany = codes "more than " ++ decimal MOST_EVENTS
