-- What the bytes of a text say: events, one after the other, and how the text ends.
use Rattle.std.specs.Prelude.{ℕ, ◌+◌, ◌==◌, nat_le, if◌then◌else◌, List, [], ◌∷◌, ◌++◌, length, Ok, Err}
use Rattle.om_ring.specs.Ops.{Ops}
use Rattle.om_event.specs.declared.cause.Cause.{Cause}
use Rattle.om_event.specs.declared.cause.Cause.TheVariants.{TooLong, Cut}
use Rattle.om_event.specs.declared.kind.WaveKind.{WaveKind}
use Rattle.om_event.specs.declared.line.Leg.{Leg}
use Rattle.om_event.specs.declared.limits.TheConstants.{MOST_EVENTS, MOST_LINE_BYTES}
use Rattle.om_event.specs.Lines.{leg_in}

pub data Ending : Type 0 where
  -- after whole events
  at_end : Ending
  -- the first bad line: its event, its leg and the cause
  bad : ℕ → ℕ → Cause → Ending
  -- a byte follows the last event that is read
  too_many : Ending

-- an event by its legs
abbrev pub Legs : Type 0 → Type 0
Legs E = List (Leg E)

pub record Events (E : Type 0) : Type 0 where
  pub events : List (List (Leg E))
  pub ending : Ending

abbrev pub ends : {E : Type 0} → Ending → Events E
ends ending = record { events = []; ending = ending }

-- an event before those that follow it
abbrev pub with_event : {E : Type 0} → List (Leg E) → Events E → Events E
with_event event es = record { events = event ∷ es.events; ending = es.ending }

-- how a text ends after n events, the lines of some legs, and the bytes of a line that has begun
abbrev pub end_after : {E : Type 0} → ℕ → List (Leg E) → List ℕ → Events E
end_after n [] [] = ends at_end
end_after n legs line = ends (bad (n + 1) (length legs + 1) Cut)

module _ {E : Type 0} (o : Ops E) (kinds : List WaveKind) where
  -- What some bytes say after n events, the lines of some legs of the next one, and the bytes of a line that has begun.
  -- Lines for the legs of the kinds in to_come are wanted before the event is whole.
  abbrev pub events_from : ℕ → List (Leg E) → List WaveKind → List ℕ → List ℕ → Events E
  events_from n legs to_come line [] = end_after n legs line
  events_from n legs [] line (b ∷ bs) = ends too_many
  events_from n legs (kind ∷ later) line (b ∷ bs) =
      if n == MOST_EVENTS then ends too_many
      else (if b == 10 then elim (leg_in o kind (length legs + 1) line) as (λ _. Events E) [
        | Err cause ↦ ends (bad (n + 1) (length legs + 1) cause)
        | Ok leg ↦ elim later as (λ _. Events E) [
          | [] ↦ with_event (legs ++ leg ∷ []) (events_from (n + 1) [] kinds [] bs)
          | next ∷ others ↦ events_from n (legs ++ leg ∷ []) (next ∷ others) [] bs
        ]
      ]
      else (if nat_le MOST_LINE_BYTES (length line) then ends (bad (n + 1) (length legs + 1) TooLong)
      else events_from n legs (kind ∷ later) (line ++ b ∷ []) bs))

  -- what the bytes of a text say
  abbrev pub events_of : List ℕ → Events E
  events_of bytes = events_from 0 [] kinds [] bytes
