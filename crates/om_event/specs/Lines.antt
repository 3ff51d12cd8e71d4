-- What a line of an event says.
use Rattle.std.specs.Prelude.{ℕ, ◌+◌, ◌==◌, if◌then◌else◌, List, [], ◌∷◌, length, Option, Some, None, Result, Ok, Err, bytes_eq, decimal, slice_index_or}
use Rattle.om_ring.specs.Ops.{Ops}
use Rattle.om_ring.specs.ResultSteps.{◌>>=◌}
use Rattle.om_ring.specs.Products.{value_of}
use Rattle.om_ring.specs.NumeralOf.{numeral_of}
use Rattle.om_ring.specs.declared.numeral.Numeral.{Numeral}
use Rattle.om_ring.specs.declared.numeral.NumeralFault.{NumeralFault}
use Rattle.om_lorentz.specs.declared.vectors.Four.{Four}
use Rattle.om_kernel.specs.declared.waves.Wave.{Wave}
use Rattle.om_kernel.specs.declared.waves.Wave.TheVariants as wave
use Rattle.om_event.specs.declared.cause.Cause.{Cause}
use Rattle.om_event.specs.declared.cause.Cause.TheVariants.{Count, LegNumber, BadNumeral, NoInverse}
use Rattle.om_event.specs.declared.kind.WaveKind.{WaveKind}
use Rattle.om_event.specs.declared.kind.WaveKind.TheVariants.{Scalar, Row, Column, Vector}
use Rattle.om_event.specs.declared.line.Leg.{Leg}
use Rattle.om_event.specs.Pieces.{pieces}

-- how many numerals a wave function has
abbrev pub wave_size : WaveKind → ℕ
wave_size Scalar = 1
wave_size Row = 4
wave_size Column = 4
wave_size Vector = 4

module _ {E : Type 0} (o : Ops E) where
  abbrev pub valued : Option E → Result E Cause
  valued None = Err NoInverse
  valued (Some x) = Ok x

  abbrev pub value_read : Result Numeral NumeralFault → Result E Cause
  value_read (Ok x) = valued (value_of o x)
  value_read (Err fault) = Err BadNumeral

  -- the value of a piece that is a numeral
  unfoldable pub value_in : List ℕ → Result E Cause
  value_in piece = value_read (numeral_of piece)

  -- the values of some pieces, or the first fault from the left
  abbrev pub values_in : List (List ℕ) → Result (List E) Cause
  values_in [] = Ok []
  values_in (piece ∷ pieces) = do
    x ← value_in piece
    xs ← values_in pieces
    Ok (x ∷ xs)

  -- four components from a place on
  abbrev pub four_at : List E → ℕ → Four E
  four_at xs n = record {
    t = slice_index_or xs n o.zero;
    x = slice_index_or xs (n + 1) o.zero;
    y = slice_index_or xs (n + 2) o.zero;
    z = slice_index_or xs (n + 3) o.zero;
  }

  abbrev pub wave_from : WaveKind → List E → Wave E
  wave_from Scalar xs = wave.Scalar (slice_index_or xs 4 o.zero)
  wave_from Row xs = wave.Row (four_at xs 4)
  wave_from Column xs = wave.Column (four_at xs 4)
  wave_from Vector xs = wave.Vector (four_at xs 4)

  -- the momentum is written first, and then the wave function
  abbrev pub leg_from : WaveKind → List E → Leg E
  leg_from kind xs = record { momentum = four_at xs 0; wave = wave_from kind xs }

  -- the leg that some pieces give, by the number of the leg and its numerals
  abbrev pub leg_of_pieces : WaveKind → ℕ → List (List ℕ) → Result (Leg E) Cause
  leg_of_pieces kind k [] = Err Count
  leg_of_pieces kind k (number ∷ numerals) =
      if length numerals == 4 + wave_size kind
      then (if bytes_eq number (decimal k) then (values_in numerals >>= λ xs. Ok (leg_from kind xs)) else Err LegNumber)
      else Err Count

  -- what the line of leg k says, without its line feed; or the first cause in order
  unfoldable pub leg_in : WaveKind → ℕ → List ℕ → Result (Leg E) Cause
  leg_in kind k line = leg_of_pieces kind k (pieces line)
