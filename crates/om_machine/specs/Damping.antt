-- What the width of a particle adds to its denominators.
use Rattle.std.specs.Prelude.{◌≡◌, ℕ, List}
use Rattle.om_ring.specs.Ops.{Ops}
use Rattle.om_machine.specs.declared.momenta.Damping.{Damping}
use Rattle.om_machine.specs.declared.numbers.Masses.{Masses}
use Rattle.om_machine.specs.Momenta.{row_of_masses}

module _ {E : Type 0} (o : Ops E) (masses : List (Masses E)) where
  -- i times mass and width of a particle row
  abbrev pub damping : ℕ → E
  damping row = let m = row_of_masses o masses row in o.times (o.times o.imag m.mass) m.width

  abbrev pub IsDamping : Damping E → Type 0
  IsDamping d = d.value ≡ damping d.row
