-- What a stream of events leaves, by how it ends: the lines of the events up to the first fault or failed write.
use Rattle.std.specs.Prelude.{ℕ, ◌≡◌, ◌⊎◌, ◌+◌, ◌∷◌, ◌++◌, [], List, map, Option, Some, None}
use Rattle.om_ring.specs.Ops.{Ops}
use Rattle.om_model.specs.declared.model.Particle.{Particle}
use Rattle.om_kernel.specs.Waves.{Kind, a_scalar, a_row, a_column, a_vector}
use Rattle.om_machine.specs.Events.{kind_of_field}
use Rattle.om_event.specs.Events.{Events, Legs, Ending as Ended, at_end, bad, too_many, events_of}
use Rattle.om_event.specs.declared.cause.Cause.TheVariants.{Cut}
use Rattle.om_event.specs.declared.kind.WaveKind.{WaveKind}
use Rattle.om_event.specs.declared.kind.WaveKind.TheVariants.{Scalar, Row, Column, Vector}
use Rattle.om_event.specs.declared.reader.Next.{Next}
use Rattle.om_event.specs.declared.reader.Next.TheVariants as next
use Rattle.om_top.specs.Outside.{Side, Failed, Gained, GainedPrefix, Gave, IsDone, IsUntouched}
use Rattle.om_top.specs.AnswerText.{no_amplitude}
use Rattle.om_top.specs.declared.faults.event.EventFault.{EventFault}
use Rattle.om_top.specs.declared.faults.event.EventFault.TheVariants as fault
use Rattle.om_top.specs.declared.ending.Ending.{Ending}
use Rattle.om_top.specs.declared.ending.Ending.TheVariants.{Done, EventFault as Refused, InputFault, OutFault}

-- the kinds of the waves of legs with these fields
abbrev pub wave_kind : Kind → WaveKind
wave_kind a_scalar = Scalar
wave_kind a_row = Row
wave_kind a_column = Column
wave_kind a_vector = Vector

abbrev pub kinds_of : List Particle → List ℕ → List WaveKind
kinds_of particles fields = map (λ f. wave_kind (kind_of_field particles f)) fields

-- the ending of a text that is refused so
abbrev pub ended_by : EventFault → Ended
ended_by (fault.Bad event line cause) = bad event line cause
ended_by fault.TooMany = too_many

-- no bad line and no event too many was seen: after whole events, or inside one
abbrev pub IsOpen : Ended → Type 0
IsOpen ended = (ended ≡ at_end) ⊎ ((n : ℕ) × (k : ℕ) × (ended ≡ bad n k Cut))

-- Owes e legs text: these lines are owed for event number e
module _ {E : Type 0} (Owes : ℕ → Legs E → List ℕ → Type 0) where
  -- the lines of events, the first of which has number e
  abbrev pub Lines : ℕ → List (Legs E) → List ℕ → Type 0
  Lines e [] text = text ≡ []
  Lines e (event ∷ events) text = (first : List ℕ) × (later : List ℕ) × Owes e event first × Lines (e + 1) events later × (text ≡ first ++ later)

  -- exactly the lines of these events were appended
  abbrev pub GainedLines : Side → List (Legs E) → Type 0
  GainedLines out events = (text : List ℕ) × Lines 1 events text × Gained out text

  -- a prefix of the lines of the first of these events was appended
  abbrev pub GainedFirstLines : Side → List (Legs E) → Type 0
  GainedFirstLines out events =
      (answered : List (Legs E)) × (later : List (Legs E)) × (text : List ℕ)
      × (events ≡ answered ++ later) × Lines 1 answered text × GainedPrefix out text

  module _ (o : Ops E) (kinds : List WaveKind) (input out : Side) (given : List ℕ) where
    -- what the bytes say that the input gave
    abbrev pub said : Events E
    said = events_of o kinds given

    -- the whole input says the same: nothing is left of it, or whatever follows changes nothing
    abbrev pub IsWhole : Type 0
    IsWhole = IsDone input ⊎ ((rest : List ℕ) → events_of o kinds (given ++ rest) ≡ said)

    -- the input gave these bytes, and lines went out
    abbrev pub StreamedGiven : Ending → Type 0
    StreamedGiven Done = IsDone input × (said.ending ≡ at_end) × GainedLines out said.events
    StreamedGiven (Refused fault) = IsWhole × (said.ending ≡ ended_by fault) × GainedLines out said.events
    StreamedGiven InputFault = Failed input × IsOpen said.ending × GainedLines out said.events
    StreamedGiven OutFault = Failed out × GainedFirstLines out said.events
    StreamedGiven _ = ⊥

  -- the events of an input were answered
  abbrev pub Streamed : Ops E → List WaveKind → Side → Side → Ending → Type 0
  Streamed o kinds input out ending = (given : List ℕ) × Gave input given × StreamedGiven o kinds input out given ending

-- how a run ends, unless an event came
abbrev pub ending_of : Next → Option Ending
ending_of next.Event = None
ending_of next.End = Some Done
ending_of (next.Bad event line cause) = Some (Refused (fault.Bad event line cause))
ending_of next.TooMany = Some (Refused fault.TooMany)
ending_of next.Failed = Some InputFault

-- without anything to answer by: the input is untouched, and the output gained one line
abbrev pub HasNoAmplitude : Side → Side → Ending → Type 0
HasNoAmplitude input out Done = IsUntouched input × Gained out no_amplitude
HasNoAmplitude input out OutFault = Failed out × IsUntouched input × GainedPrefix out no_amplitude
HasNoAmplitude input out _ = ⊥

-- by the list of what there is to answer by, diagrams or flows
abbrev pub UnlessNone : {A : Type 0} → List A → Side → Side → (Ending → Type 0) → Ending → Type 0
UnlessNone [] input out streamed ending = HasNoAmplitude input out ending
UnlessNone (x ∷ xs) input out streamed ending = streamed ending
