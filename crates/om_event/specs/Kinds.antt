-- The kinds of the waves of an event.
use Rattle.std.specs.Prelude.{◌≡◌, ◌↔◌, List, length, map}
use Rattle.om_kernel.specs.Waves.{Kind, a_scalar, a_row, a_column, a_vector, kind_of}
use Rattle.om_code.specs.declared.code.Code.{Code}
use Rattle.om_code.specs.Waves.{Incoming}
use Rattle.om_machine.specs.Events.{IsMadeFor, kind_of_field}
use Rattle.om_event.specs.declared.kind.WaveKind.{WaveKind}
use Rattle.om_event.specs.declared.kind.WaveKind.TheVariants.{Scalar, Row, Column, Vector}

-- the kind of wave that a reader keeps for a leg
abbrev pub kind_named : WaveKind → Kind
kind_named Scalar = a_scalar
kind_named Row = a_row
kind_named Column = a_column
kind_named Vector = a_vector

-- the kinds are those of the legs of a code
abbrev pub AreKindsOf : Code → List WaveKind → Type 0
AreKindsOf c kinds = map kind_named kinds ≡ map (kind_of_field c.model.particles) c.legs

-- a momentum for each leg, and a wave of the leg's kind
pub record HasKinds {E : Type 0} (kinds : List WaveKind) (e : Incoming E) : Type 0 where
  pub momenta : length e.momenta ≡ length kinds
  pub waves : map kind_of e.waves ≡ map kind_named kinds

-- an event is made for a code exactly where its waves have the kinds of the legs of the code
abbrev pub MadeByKinds : Type 0 → Type 0
MadeByKinds E = (c : Code) (kinds : List WaveKind) → AreKindsOf c kinds → (e : Incoming E) → IsMadeFor c e ↔ HasKinds kinds e
