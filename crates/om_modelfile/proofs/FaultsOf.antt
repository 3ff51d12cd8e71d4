-- A fault that is passed on.
use Rattle.std.proofs.Common.{◌≡◌, ℕ, Result, Err}
use Rattle.om_model.specs.declared.rules.Table.{Table}
use Rattle.om_modelfile.specs.declared.fault.ModelFault.{ModelFault}
use Rattle.om_modelfile.specs.declared.fault.RowFault.{RowFault}
use Rattle.om_modelfile.specs.declared.fault.RowFault.TheVariants.{MissingKey, WrongKind, UnknownKey, BadNumber, BadName, UnknownName, TooMuch, Memory}
use Rattle.om_modelfile.specs.Faults.{Fails, FailsAt, at_row}

pub Fails-through : {X Y : Type 0} (fault : RowFault) (a : Result X RowFault) (b : Result Y RowFault) → (a ≡ Err fault → b ≡ Err fault) → Fails fault a → Fails fault b
Fails-through MissingKey a b f h = f h
Fails-through WrongKind a b f h = f h
Fails-through UnknownKey a b f h = f h
Fails-through (BadNumber cause) a b f h = f h
Fails-through BadName a b f h = f h
Fails-through UnknownName a b f h = f h
Fails-through TooMuch a b f h = f h
Fails-through Memory a b f h = tt

-- a fault of a row is one of the file
pub FailsAt-at_row : {X Y : Type 0} (table : Table) (row : ℕ) (fault : RowFault) (a : Result X RowFault) (b : Result Y ModelFault) → (a ≡ Err fault → b ≡ Err (at_row table row fault)) → Fails fault a → FailsAt (at_row table row fault) b
FailsAt-at_row table row MissingKey a b f h = f h
FailsAt-at_row table row WrongKind a b f h = f h
FailsAt-at_row table row UnknownKey a b f h = f h
FailsAt-at_row table row (BadNumber cause) a b f h = f h
FailsAt-at_row table row BadName a b f h = f h
FailsAt-at_row table row UnknownName a b f h = f h
FailsAt-at_row table row TooMuch a b f h = f h
FailsAt-at_row table row Memory a b f h = tt
