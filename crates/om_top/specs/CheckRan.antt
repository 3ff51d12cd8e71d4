-- What `check` does and leaves, by how it ends.
use Rattle.std.specs.Prelude.{ℕ, ◌++◌, codes, decimal, length, List}
use Rattle.om_ring.specs.Ops.{Ops}
use Rattle.om_model.specs.declared.model.Model.{Model}
use Rattle.om_top.specs.Outside.{Side, IsUntouched, Writes}
use Rattle.om_top.specs.Refusals.{WithModel}
use Rattle.om_top.specs.declared.ending.Ending.{Ending}

-- the line of a model
abbrev pub check_text : Model → List ℕ
check_text m = codes "model " ++ m.name ++ codes " particles " ++ decimal (length m.particles) ++ codes " vertices " ++ decimal (length m.vertices) ++ codes "\n"

-- with a model its line was written, or a prefix of it where a write failed
abbrev pub CheckRan : {E : Type 0} → Ops E → Side → Side → Ending → Type 0
CheckRan o file out = WithModel o file (IsUntouched out) (λ m. Writes out (check_text m))
