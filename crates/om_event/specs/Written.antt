-- The text of a line, written out of numerals, and what it says.
use Rattle.std.specs.Prelude.{ℕ, ◌≡◌, ◌≤◌, ◌<◌, ◌+◌, List, ◌∷◌, ◌++◌, length, take, Result, Ok, Err, decimal}
use Rattle.om_ring.specs.Ops.{Ops}
use Rattle.om_ring.specs.ResultSteps.{◌>>=◌}
use Rattle.om_ring.specs.Products.{value_of}
use Rattle.om_ring.specs.Numerals.{NumeralFits, numeral_text}
use Rattle.om_ring.specs.declared.numeral.Numeral.{Numeral}
use Rattle.om_lorentz.specs.declared.vectors.Four.{Four}
use Rattle.om_kernel.specs.declared.waves.Wave.{Wave}
use Rattle.om_kernel.specs.declared.waves.Wave.TheVariants as wave
use Rattle.om_event.specs.declared.cause.Cause.{Cause}
use Rattle.om_event.specs.declared.line.Leg.{Leg}
use Rattle.om_event.specs.declared.kind.WaveKind.{WaveKind}
use Rattle.om_event.specs.declared.kind.WaveKind.TheVariants.{Scalar, Row, Column, Vector}
use Rattle.om_event.specs.declared.limits.TheConstants.{MOST_LINE_BYTES}
use Rattle.om_event.specs.Fronts.{line_len}
use Rattle.om_event.specs.Lines.{leg_in, valued}

-- a numeral, a byte, and the rest
abbrev pub number_before : Numeral → ℕ → List ℕ → List ℕ
number_before x stop rest = numeral_text x ++ stop ∷ rest

-- four numerals with spaces between them, a byte, and the rest
abbrev pub four_before : Four Numeral → ℕ → List ℕ → List ℕ
four_before p stop rest = number_before p.t 32 (number_before p.x 32 (number_before p.y 32 (number_before p.z stop rest)))

-- the numerals of a wave, a line feed, and the rest
abbrev pub wave_before : Wave Numeral → List ℕ → List ℕ
wave_before (wave.Scalar x) rest = number_before x 10 rest
wave_before (wave.Row p) rest = four_before p 10 rest
wave_before (wave.Column p) rest = four_before p 10 rest
wave_before (wave.Vector p) rest = four_before p 10 rest

-- the line of leg k, and the rest
abbrev pub leg_before : ℕ → Leg Numeral → List ℕ → List ℕ
leg_before k leg rest = decimal k ++ 32 ∷ four_before leg.momentum 32 (wave_before leg.wave rest)

-- the wave of a kind, of which a scalar's component is the first of four
abbrev pub wave_of : {E : Type 0} → WaveKind → Four E → Wave E
wave_of Scalar p = wave.Scalar p.t
wave_of Row p = wave.Row p
wave_of Column p = wave.Column p
wave_of Vector p = wave.Vector p

abbrev pub leg_of : {E : Type 0} → WaveKind → Four E → Four E → Leg E
leg_of kind p w = record { momentum = p; wave = wave_of kind w }

-- the numbers fit 64 bits
pub record FourFits (p : Four Numeral) : Type 0 where
  pub t : NumeralFits p.t
  pub x : NumeralFits p.x
  pub y : NumeralFits p.y
  pub z : NumeralFits p.z

abbrev pub WaveFits : Wave Numeral → Type 0
WaveFits (wave.Scalar x) = NumeralFits x
WaveFits (wave.Row p) = FourFits p
WaveFits (wave.Column p) = FourFits p
WaveFits (wave.Vector p) = FourFits p

pub record LegFits (leg : Leg Numeral) : Type 0 where
  pub momentum : FourFits leg.momentum
  pub wave : WaveFits leg.wave

-- what is said where something was read into a place, or a cause is told
abbrev pub said : {U X : Type 0} → Result U Cause → X → Result X Cause
said (Ok done) x = Ok x
said (Err cause) x = Err cause

-- some bytes begin with the line of leg k, of so many bytes before its line feed
pub record IsWritten (k : ℕ) (text : List ℕ) (leg : Leg Numeral) (len : ℕ) : Type 0 where
  pub rest : List ℕ
  pub is : text ≡ leg_before k leg rest
  pub size : len + 1 + length rest ≡ length text

module _ {E : Type 0} (o : Ops E) where
  -- the values of numerals, or the first from the left that has none
  unfoldable pub value_at : Numeral → Result E Cause
  value_at x = valued o (value_of o x)

  unfoldable pub four_value : Four Numeral → Result (Four E) Cause
  four_value p = do
    t ← value_at p.t
    x ← value_at p.x
    y ← value_at p.y
    z ← value_at p.z
    Ok (record { t = t; x = x; y = y; z = z })

  unfoldable pub value_as : (Four E → Wave E) → Four Numeral → Result (Wave E) Cause
  value_as made p = do
    q ← four_value p
    Ok (made q)

  unfoldable pub scalar_value : Numeral → Result (Wave E) Cause
  scalar_value x = do
    v ← value_at x
    Ok (wave.Scalar v)

  abbrev pub wave_value : Wave Numeral → Result (Wave E) Cause
  wave_value (wave.Scalar x) = scalar_value x
  wave_value (wave.Row p) = value_as wave.Row p
  wave_value (wave.Column p) = value_as wave.Column p
  wave_value (wave.Vector p) = value_as wave.Vector p

  unfoldable pub leg_value : Leg Numeral → Result (Leg E) Cause
  leg_value leg = do
    p ← four_value leg.momentum
    w ← wave_value leg.wave
    Ok (record { momentum = p; wave = w })

  -- the first line says this of leg k, and has so many bytes before its line feed
  pub record IsLineOf (kind : WaveKind) (k : ℕ) (text : List ℕ) (said : Result (Leg E) Cause) (n : ℕ) : Type 0 where
    pub read : leg_in o kind k (take n text) ≡ said
    pub len : n ≡ line_len text
    pub few : n ≤ MOST_LINE_BYTES
    pub more : n < length text
