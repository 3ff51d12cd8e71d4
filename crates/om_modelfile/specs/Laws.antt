-- Laws, as statements.
use Rattle.std.specs.Prelude.{◌≡◌, ◌≢◌, ℕ, List, Result, Err}
use Rattle.om_ring.specs.Ops.{Ops}
use Rattle.om_model.specs.declared.model.Model.{Model}
use Rattle.om_modelfile.specs.declared.fault.ModelFault.{ModelFault}
use Rattle.om_modelfile.specs.declared.fault.ModelFault.TheVariants.{Memory}
use Rattle.om_modelfile.specs.ModelOf.{SaysModel}

-- a file says one model or one fault, but for want of memory
abbrev pub OneAnswer : {E : Type 0} → Ops E → Type 0
OneAnswer o = (bytes : List ℕ) (a b : Result Model ModelFault) → SaysModel o bytes a → SaysModel o bytes b → a ≢ Err Memory → b ≢ Err Memory → a ≡ b
