-- What is wrong with a row, and where it stands.
use Rattle.std.specs.Prelude.{◌≡◌, ℕ, Result, Ok, Err}
use Rattle.om_model.specs.declared.rules.Table.{Table}
use Rattle.om_modelfile.specs.declared.fault.ModelFault.{ModelFault}
use Rattle.om_modelfile.specs.declared.fault.ModelFault.TheVariants as placed
use Rattle.om_modelfile.specs.declared.fault.RowFault.{RowFault}
use Rattle.om_modelfile.specs.declared.fault.RowFault.TheVariants.{MissingKey, WrongKind, UnknownKey, BadNumber, BadName, UnknownName, TooMuch, Memory}

-- the fault of a row, with its table and its number
abbrev pub at_row : Table → ℕ → RowFault → ModelFault
at_row table row MissingKey = placed.MissingKey table row
at_row table row WrongKind = placed.WrongKind table row
at_row table row UnknownKey = placed.UnknownKey table row
at_row table row (BadNumber fault) = placed.BadNumber table row fault
at_row table row BadName = placed.BadName table row
at_row table row UnknownName = placed.UnknownName table row
at_row table row TooMuch = placed.TooMuch table row
at_row table row Memory = placed.Memory

-- the row has this fault; any answer may be want of memory
abbrev pub Fails : {Y : Type 0} → RowFault → Result Y RowFault → Type 0
Fails Memory said = Unit {0}
Fails fault said = said ≡ Err fault

-- what a reader of a row answers, seen by `view`, is what the row says
abbrev pub Gives : {X Y : Type 0} → (X → Y) → Result X RowFault → Result Y RowFault → Type 0
Gives view (Ok x) said = said ≡ Ok (view x)
Gives view (Err fault) said = Fails fault said

-- the file has this fault, which is no broken rule; any answer may be want of memory
abbrev pub FailsAt : {Y : Type 0} → ModelFault → Result Y ModelFault → Type 0
FailsAt placed.Memory said = Unit {0}
FailsAt (placed.Rule fault) said = ⊥
FailsAt fault said = said ≡ Err fault

-- what a reader of a part of a file answers, seen by `view`, is what the file says
abbrev pub Answers : {X Y : Type 0} → (X → Y) → Result X ModelFault → Result Y ModelFault → Type 0
Answers view (Ok x) said = said ≡ Ok (view x)
Answers view (Err fault) said = FailsAt fault said
