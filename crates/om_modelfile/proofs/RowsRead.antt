-- The rows of a table, which count from 1, and where a fault stands.
use Rattle.std.proofs.Common.{◌≡◌, ℕ, ◌+◌, ◌<◌, List, [], ◌∷◌, ◌++◌, length, get_or, map, Result, Ok, Err, ap, sym, ◌∙◌, subst, arith}
use Rattle.om_model.specs.declared.rules.Table.{Table}
use Rattle.om_modelfile.specs.declared.fault.ModelFault.{ModelFault}
use Rattle.om_modelfile.specs.declared.fault.RowFault.{RowFault}
use Rattle.om_modelfile.specs.Each.{in_row, rows_of}
use Rattle.om_modelfile.specs.Faults.{Fails, FailsAt, at_row}
use Rattle.om_modelfile.proofs.FaultsOf.{FailsAt-at_row}
use Rattle.om_modelfile.proofs.Reading.{IsRead, one_more, has_fault}

module _ {X A B : Type 0} (row_of : A → Result B RowFault) (view : X → A) (table : Table) (xs : List X) where
  -- the rows before place i were read
  abbrev pub AreRead : ℕ → List B → Type 0
  AreRead i done = IsRead (λ row x. in_row table row (row_of x)) view 1 xs i done

  pub row_more : (i : ℕ) (x : X) (done more : List B) (y : B) → i < length xs → x ≡ get_or xs i x → AreRead i done → row_of (view x) ≡ Ok y → more ≡ done ++ y ∷ [] → AreRead (i + 1) more
  row_more i x done more y h at before here grown =
      one_more (λ row x. in_row table row (row_of x)) view 1 xs i x x done more y h at before (ap (in_row table (1 + i)) here) grown

  pub row_fails : (i : ℕ) (x : X) (done : List B) (fault : RowFault) (told : ModelFault) → i < length xs → x ≡ get_or xs i x → AreRead i done → told ≡ at_row table (i + 1) fault → Fails fault (row_of (view x)) → FailsAt told (rows_of table row_of (map view xs))
  row_fails i x done fault told h at before is here =
      let number : 1 + i ≡ i + 1 = omega arith in
      let placed : FailsAt (at_row table (i + 1) fault) (rows_of table row_of (map view xs)) =
      FailsAt-at_row table (i + 1) fault (row_of (view x)) (rows_of table row_of (map view xs))
      (λ e. has_fault (λ row x. in_row table row (row_of x)) view 1 xs i x x done (at_row table (i + 1) fault) h at before (ap (in_row table (1 + i)) e ∙ ap (λ (row : ℕ). Err (at_row table row fault)) number))
      here
      in
      subst (λ f. FailsAt f (rows_of table row_of (map view xs))) (sym is) placed
