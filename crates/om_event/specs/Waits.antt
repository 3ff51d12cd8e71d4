-- What waiting for a line gives.
use Rattle.std.specs.Prelude.{ℕ, ◌≡◌, ◌<◌, ◌≤◌, List, length, Option}
use Rattle.om_ring.specs.Ops.{Ops}
use Rattle.om_io.specs.Causes.{Rose}
use Rattle.om_event.specs.declared.front.ReadLine.{ReadLine}
use Rattle.om_event.specs.declared.kind.WaveKind.{WaveKind}
use Rattle.om_event.specs.declared.line.Leg.{Leg}
use Rattle.om_event.specs.declared.limits.TheConstants.{MOST_LINE_BYTES}
use Rattle.om_event.specs.declared.waited.Waited.{Waited}
use Rattle.om_event.specs.declared.waited.Waited.TheVariants as waited
use Rattle.om_event.specs.Fronts.{line_len}
use Rattle.om_event.specs.Next.{NoneLeft}
use Rattle.om_event.specs.Written.{IsLineOf, said}

-- a line that isn't whole and isn't too long
abbrev pub IsShort : List ℕ → Type 0
IsShort bytes = (line_len bytes ≡ length bytes) × (length bytes ≤ MOST_LINE_BYTES)

-- what stands at the front of some bytes
abbrev pub Stands : List ℕ → Waited ℕ → Type 0
Stands bytes (waited.Line n) = (n ≡ line_len bytes) × (n ≤ MOST_LINE_BYTES) × (n < length bytes)
Stands bytes waited.TooLong = MOST_LINE_BYTES < line_len bytes
Stands bytes waited.Ended = IsShort bytes
Stands bytes waited.Failed = IsShort bytes

-- the same where a line was read for leg k, into the place of a leg
abbrev pub StandsAs : {E : Type 0} → Ops E → WaveKind → ℕ → List ℕ → Leg E → Waited ReadLine → Type 0
StandsAs o kind k bytes leg (waited.Line line) = IsLineOf o kind k bytes (said line.leg leg) line.len
StandsAs o kind k bytes leg waited.TooLong = MOST_LINE_BYTES < line_len bytes
StandsAs o kind k bytes leg waited.Ended = IsShort bytes
StandsAs o kind k bytes leg waited.Failed = IsShort bytes

-- at an end, none is left where the source tells its bytes
abbrev pub EndsAt : {T : Type 0} → Waited T → Option (List ℕ) → Type 0
EndsAt waited.Ended left = NoneLeft left
EndsAt _ left = Unit {0}

-- at a failure the count of faults rose
abbrev pub FailsAt : {T : Type 0} → Waited T → ℕ → ℕ → Type 0
FailsAt waited.Failed before now = Rose before now
FailsAt _ before now = Unit {0}

-- without a line no step was taken
abbrev pub IsIdle : {T : Type 0} → Waited T → ℕ → ℕ → Type 0
IsIdle (waited.Line line) before now = Unit {0}
IsIdle _ before now = now ≡ before
