-- Steps that may fail, one after the other.
use Rattle.std.specs.Prelude.{ℕ, ◌+◌, Bool, true, false, List, [], ◌∷◌, Result, Ok, Err}
use Rattle.om_ring.specs.ResultSteps.{◌>>=◌}
use Rattle.om_model.specs.declared.rules.Table.{Table}
use Rattle.om_modelfile.specs.declared.fault.ModelFault.{ModelFault}
use Rattle.om_modelfile.specs.declared.fault.RowFault.{RowFault}
use Rattle.om_modelfile.specs.Faults.{at_row}

-- the test holds, or this is wrong
abbrev pub unless : Bool → RowFault → Result (Unit {0}) RowFault
unless true fault = Ok tt
unless false fault = Err fault

-- each member in turn, the first with the number k, up to the first fault
unfoldable pub each_from : {A B F : Type 0} → (ℕ → A → Result B F) → ℕ → List A → Result (List B) F
each_from read k [] = Ok []
each_from read k (x ∷ xs) = do
  y ← read k x
  ys ← each_from read (k + 1) xs
  Ok (y ∷ ys)

-- a fault of a row gets its place
abbrev pub in_row : {A : Type 0} → Table → ℕ → Result A RowFault → Result A ModelFault
in_row table row (Ok x) = Ok x
in_row table row (Err fault) = Err (at_row table row fault)

-- the rows of a table, counted from 1
abbrev pub rows_of : {A B : Type 0} → Table → (A → Result B RowFault) → List A → Result (List B) ModelFault
rows_of table row_of rows = each_from (λ row x. in_row table row (row_of x)) 1 rows
