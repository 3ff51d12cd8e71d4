-- What asking for the next event gives.
use Rattle.std.specs.Prelude.{ℕ, ◌≡◌, ◌≢◌, ◌+◌, List, [], map, Option, IfSome, Bool, true, false, ◌==◌, MatchBool}
use Rattle.om_ring.specs.Ops.{Ops}
use Rattle.om_event.specs.declared.cause.Cause.{Cause}
use Rattle.om_event.specs.declared.cause.Cause.TheVariants.{Cut, TooLong, Count, LegNumber, BadNumeral, NoInverse}
use Rattle.om_event.specs.declared.kind.WaveKind.{WaveKind}
use Rattle.om_event.specs.declared.line.Leg.{Leg}
use Rattle.om_event.specs.declared.reader.Next.{Next}
use Rattle.om_event.specs.declared.reader.Next.TheVariants as next
use Rattle.om_event.specs.declared.limits.TheConstants.{MOST_EVENTS}
use Rattle.om_event.specs.Events.{Legs}
use Rattle.om_event.specs.Fronts.{front_of, whole, bad_line, begun}
use Rattle.om_code.specs.Waves.{Incoming}

-- where the source tells its bytes, none is left
abbrev pub NoneLeft : Option (List ℕ) → Type 0
NoneLeft left = IfSome left (λ bytes. bytes ≡ [])

-- A reader: the kinds of the waves of its legs, the bytes that it was given and hasn't used, how many events it has given, and
-- whether it may be asked for more.
pub record Reading : Type 0 where
  pub kinds : List WaveKind
  pub held : List ℕ
  pub given : ℕ
  pub live : Bool

-- after an event the reader has given one more, and after any other answer it isn't live
abbrev pub Stays : Reading → Reading → Next → Type 0
Stays old new next.Event = (new.given ≡ old.given + 1) × (new.live ≡ true)
Stays old new _ = new.live ≡ false

-- these legs enter
pub record Enters {E : Type 0} (legs : List (Leg E)) (e : Incoming E) : Type 0 where
  pub momenta : e.momenta ≡ map (λ leg. leg.momentum) legs
  pub waves : e.waves ≡ map (λ leg. leg.wave) legs

-- what enters through some legs
abbrev pub incoming_of : {E : Type 0} → Legs E → Incoming E
incoming_of legs = record { momenta = map (λ leg. leg.momentum) legs; waves = map (λ leg. leg.wave) legs }

-- after the last event that is read: nothing, or a byte
abbrev pub GivesEnd : List ℕ → Next → Type 0
GivesEnd bytes next.Event = ⊥
GivesEnd bytes next.End = bytes ≡ []
GivesEnd bytes (next.Bad n line cause) = ⊥
GivesEnd bytes next.TooMany = bytes ≢ []
GivesEnd bytes next.Failed = bytes ≡ []

module _ {E : Type 0} (o : Ops E) (kinds : List WaveKind) where
  -- the first line that isn't whole is that of leg k
  abbrev pub IsOpen : List ℕ → ℕ → Type 0
  IsOpen bytes k = (line : List ℕ) × (front_of o kinds bytes ≡ begun k line)

  -- the line of leg k is bad
  abbrev pub Refuses : List ℕ → ℕ → Cause → Type 0
  Refuses bytes k Cut = (bytes ≢ []) × IsOpen bytes k
  Refuses bytes k TooLong = front_of o kinds bytes ≡ bad_line k TooLong
  Refuses bytes k Count = front_of o kinds bytes ≡ bad_line k Count
  Refuses bytes k LegNumber = front_of o kinds bytes ≡ bad_line k LegNumber
  Refuses bytes k BadNumeral = front_of o kinds bytes ≡ bad_line k BadNumeral
  Refuses bytes k NoInverse = front_of o kinds bytes ≡ bad_line k NoInverse

  -- What asking for event n gives. bytes: what was held and what came; held: what is held now; e: the event now.
  abbrev pub GivesEvent : ℕ → List ℕ → List ℕ → Incoming E → Next → Type 0
  GivesEvent n bytes held e next.Event = (legs : List (Leg E)) × (front_of o kinds bytes ≡ whole legs held) × Enters legs e
  GivesEvent n bytes held e next.End = bytes ≡ []
  GivesEvent n bytes held e (next.Bad m line cause) = (m ≡ n) × Refuses bytes line cause
  GivesEvent n bytes held e next.TooMany = ⊥
  GivesEvent n bytes held e next.Failed = (k : ℕ) × IsOpen bytes k

-- what asking a reader for the next event gives
abbrev pub Gives : {E : Type 0} → Ops E → Reading → List ℕ → List ℕ → Incoming E → Next → Type 0
Gives o old bytes held e next = MatchBool (old.given == MOST_EVENTS) (GivesEnd bytes next) (GivesEvent o old.kinds (old.given + 1) bytes held e next)

-- where the source tells its bytes, none is left at the end
abbrev pub AtEnd : Next → Option (List ℕ) → Type 0
AtEnd next.End left = NoneLeft left
AtEnd (next.Bad n line Cut) left = NoneLeft left
AtEnd _ left = Unit {0}
