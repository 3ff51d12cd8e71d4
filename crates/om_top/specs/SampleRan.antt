-- What `sample` does and leaves, by how it ends.
use Rattle.std.specs.Prelude.{ℕ, List}
use Rattle.om_ring.specs.Ops.{Ops}
use Rattle.om_sample.specs.Sums.{IsSample}
use Rattle.om_sample.specs.Texts.{sample_text}
use Rattle.om_top.specs.Outside.{Side, IsUntouched, Writes}
use Rattle.om_top.specs.declared.ending.Ending.{Ending}
use Rattle.om_top.specs.declared.ending.Ending.TheVariants.{NoMemory}

-- `sample` of a seed and a number of legs on an output: the line of what its events sum up to
abbrev pub SampleRan : {E : Type 0} → Ops E → (E → List ℕ) → ℕ → ℕ → Side → Ending → Type 0
SampleRan o show seed legs out NoMemory = IsUntouched out
SampleRan {E} o show seed legs out ending = (poles : ℕ) × (total : E) × IsSample o seed legs poles total × Writes out (sample_text show legs poles total) ending
