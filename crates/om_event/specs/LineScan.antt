-- Reading the numbers of a line from its front.
use Rattle.std.specs.Prelude.{ℕ, ◌≡◌, List, Result, Ok, Err}
use Rattle.om_ring.specs.Ops.{Ops}
use Rattle.om_ring.specs.ResultSteps.{◌>>=◌}
use Rattle.om_lorentz.specs.declared.vectors.Four.{Four}
use Rattle.om_kernel.specs.declared.waves.Wave.{Wave}
use Rattle.om_kernel.specs.declared.waves.Wave.TheVariants as wave
use Rattle.om_event.specs.declared.cause.Cause.{Cause}
use Rattle.om_event.specs.declared.kind.WaveKind.{WaveKind}
use Rattle.om_event.specs.declared.kind.WaveKind.TheVariants.{Scalar, Row, Column, Vector}
use Rattle.om_event.specs.Pieces.{front_piece, behind_piece}
use Rattle.om_event.specs.declared.line.Leg.{Leg}
use Rattle.om_event.specs.Lines.{value_in}

-- what was read is answered, seen by view
abbrev pub IsReadAs : {X Y : Type 0} → (X → Y) → Result X Cause → Result Y Cause → Type 0
IsReadAs view (Ok x) read = read ≡ Ok (view x)
IsReadAs view (Err cause) read = read ≡ Err cause

module _ {E : Type 0} (o : Ops E) where
  -- the number that the first piece is, and what follows the piece
  unfoldable pub number_at : List ℕ → Result (E × List ℕ) Cause
  number_at text = do
    x ← value_in o (front_piece text)
    Ok (x, behind_piece text)

  -- four components
  unfoldable pub four_in : List ℕ → Result (Four E × List ℕ) Cause
  four_in text = do
    t ← number_at text
    x ← number_at t.1
    y ← number_at x.1
    z ← number_at y.1
    Ok (record { t = t.0; x = x.0; y = y.0; z = z.0 }, z.1)

  -- a wave that has four
  unfoldable pub wave_of_four : (Four E → Wave E) → List ℕ → Result (Wave E) Cause
  wave_of_four made text = do
    p ← four_in text
    Ok (made p.0)

  unfoldable pub wave_of_one : List ℕ → Result (Wave E) Cause
  wave_of_one text = do
    x ← number_at text
    Ok (wave.Scalar x.0)

  abbrev pub wave_in : WaveKind → List ℕ → Result (Wave E) Cause
  wave_in Scalar text = wave_of_one text
  wave_in Row text = wave_of_four wave.Row text
  wave_in Column text = wave_of_four wave.Column text
  wave_in Vector text = wave_of_four wave.Vector text

  -- the numbers of a leg
  unfoldable pub numbers_in : WaveKind → List ℕ → Result (Leg E) Cause
  numbers_in kind text = do
    p ← four_in text
    w ← wave_in kind p.1
    Ok (record { momentum = p.0; wave = w })
