-- How the events of a text go with what stands at its front.
use Rattle.std.specs.Prelude.{ℕ, ◌≡◌, ◌≢◌, ◌+◌, List, []}
use Rattle.om_ring.specs.Ops.{Ops}
use Rattle.om_event.specs.declared.cause.Cause.{Cause}
use Rattle.om_event.specs.declared.cause.Cause.TheVariants.{Cut}
use Rattle.om_event.specs.declared.kind.WaveKind.{WaveKind}
use Rattle.om_event.specs.declared.line.Leg.{Leg}
use Rattle.om_event.specs.declared.limits.TheConstants.{MOST_EVENTS}
use Rattle.om_event.specs.Events.{Events, ends, at_end, bad, too_many, with_event, events_from, events_of}
use Rattle.om_event.specs.Fronts.{front_of, whole, bad_line, begun}

module _ {E : Type 0} (o : Ops E) (kinds : List WaveKind) where
  -- what a text says whose first n events were read
  abbrev pub events_after : ℕ → List ℕ → Events E
  events_after n bytes = events_from o kinds n [] kinds [] bytes

  -- What a text says after n events: the event at its front and what follows it, or how it ends.
  pub record GoByFronts : Type 0 where
    pub all : (bytes : List ℕ) → events_of o kinds bytes ≡ events_after 0 bytes
    pub event : (n : ℕ) (bytes rest : List ℕ) (legs : List (Leg E)) → n ≢ MOST_EVENTS → front_of o kinds bytes ≡ whole legs rest
        → events_after n bytes ≡ with_event legs (events_after (n + 1) rest)
    pub bad_lines : (n : ℕ) (bytes : List ℕ) (k : ℕ) (cause : Cause) → n ≢ MOST_EVENTS → front_of o kinds bytes ≡ bad_line k cause
        → events_after n bytes ≡ ends (bad (n + 1) k cause)
    pub cut : (n : ℕ) (bytes line : List ℕ) (k : ℕ) → n ≢ MOST_EVENTS → bytes ≢ [] → front_of o kinds bytes ≡ begun k line
        → events_after n bytes ≡ ends (bad (n + 1) k Cut)
    pub end : (n : ℕ) → events_after n [] ≡ ends at_end
    pub many : (bytes : List ℕ) → bytes ≢ [] → events_after MOST_EVENTS bytes ≡ ends too_many
