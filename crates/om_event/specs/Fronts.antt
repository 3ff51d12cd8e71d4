-- What stands at the front of some bytes, where the next event begins.
use Rattle.std.specs.Prelude.{ℕ, ◌+◌, ◌==◌, not, nat_le, Bool, if◌then◌else◌, List, [], ◌∷◌, ◌++◌, length, Result, Ok, Err}
use Rattle.std.specs.List.{prefix_len}
use Rattle.om_ring.specs.Ops.{Ops}
use Rattle.om_event.specs.declared.cause.Cause.{Cause}
use Rattle.om_event.specs.declared.cause.Cause.TheVariants.{TooLong}
use Rattle.om_event.specs.declared.kind.WaveKind.{WaveKind}
use Rattle.om_event.specs.declared.line.Leg.{Leg}
use Rattle.om_event.specs.Lines.{leg_in}
use Rattle.om_event.specs.declared.limits.TheConstants.{MOST_LINE_BYTES}

pub data Front (E : Type 0) : Type 0 where
  -- a whole event, and what follows it
  whole : List (Leg E) → List ℕ → Front E
  -- a bad line, and the leg that it is for
  bad_line : ℕ → Cause → Front E
  -- no whole event and no bad line: the bytes end where these bytes of the line of a leg have come
  begun : ℕ → List ℕ → Front E

-- a leg before those of the event
abbrev pub with_leg : {E : Type 0} → Leg E → Front E → Front E
with_leg leg (whole legs rest) = whole (leg ∷ legs) rest
with_leg leg (bad_line k cause) = bad_line k cause
with_leg leg (begun k line) = begun k line

abbrev pub with_legs : {E : Type 0} → List (Leg E) → Front E → Front E
with_legs [] front = front
with_legs (leg ∷ legs) front = with_leg leg (with_legs legs front)

-- a line that is read, or its fault
abbrev pub after_line : {E : Type 0} → ℕ → Result (Leg E) Cause → Front E → Front E
after_line k (Ok leg) front = with_leg leg front
after_line k (Err cause) front = bad_line k cause

-- the byte isn't a line feed
abbrev pub in_line : ℕ → Bool
in_line b = not (b == 10)

-- how many bytes stand before the first line feed, or the end
abbrev pub line_len : List ℕ → ℕ
line_len bytes = prefix_len in_line bytes

module _ {E : Type 0} (o : Ops E) where
  -- what stands at the front of some bytes after the bytes of a line that has begun; the lines for legs of these kinds are to
  -- come, of which the first is leg k
  abbrev pub front_from : List WaveKind → ℕ → List ℕ → List ℕ → Front E
  front_from [] k line bytes = whole [] bytes
  front_from (kind ∷ kinds) k line [] = begun k line
  front_from (kind ∷ kinds) k line (b ∷ bs) =
      if b == 10 then after_line k (leg_in o kind k line) (front_from kinds (k + 1) [] bs)
      else (if nat_le MOST_LINE_BYTES (length line) then bad_line k TooLong
      else front_from (kind ∷ kinds) k (line ++ b ∷ []) bs)

  abbrev pub front_of : List WaveKind → List ℕ → Front E
  front_of kinds bytes = front_from kinds 1 [] bytes
