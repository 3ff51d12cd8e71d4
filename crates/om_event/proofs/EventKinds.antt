-- The events of a text have the kinds that they are read for.
use Rattle.std.proofs.Common.{◌≡◌, ℕ, ◌+◌, List, [], ◌∷◌, ◌++◌, length, map, Bool, true, false, cond, Ok, Err, refl, ap, sym, ◌∙◌, append_assoc, append-nil}
use Rattle.std.specs.Prelude.{◌==◌, nat_le, Result, bytes_eq, decimal}
use Rattle.std.specs.List.{AllByRecursion}
use Rattle.std.proofs.lemmas.List.{map-append, length-map}
use Rattle.om_ring.specs.Ops.{Ops}
use Rattle.om_ring.specs.ResultSteps.{◌>>=◌}
use Rattle.om_kernel.specs.Waves.{Kind, kind_of}
use Rattle.om_event.specs.declared.cause.Cause.{Cause}
use Rattle.om_event.specs.declared.cause.Cause.TheVariants.{Count, LegNumber, TooLong}
use Rattle.om_event.specs.declared.kind.WaveKind.{WaveKind}
use Rattle.om_event.specs.declared.kind.WaveKind.TheVariants.{Scalar, Row, Column, Vector}
use Rattle.om_event.specs.declared.line.Leg.{Leg}
use Rattle.om_event.specs.declared.limits.TheConstants.{MOST_EVENTS, MOST_LINE_BYTES}
use Rattle.om_event.specs.Events.{Events, Legs, bad, ends, events_from, events_of, too_many, with_event}
use Rattle.om_event.specs.Kinds.{HasKinds, kind_named}
use Rattle.om_event.specs.Lines.{leg_from, leg_in, leg_of_pieces, values_in, wave_size}
use Rattle.om_event.specs.Next.{incoming_of}
use Rattle.om_event.specs.Pieces.{pieces}

module _ {E : Type 0} (o : Ops E) where
  -- the kind of a leg's wave
  kind_at : Leg E → Kind
  kind_at leg = kind_of leg.wave

  from_values : (kind : WaveKind) (r : Result (List E) Cause) (leg : Leg E) → (r >>= λ xs. Ok (leg_from o kind xs)) ≡ Ok leg → kind_at leg ≡ kind_named kind
  unfolding kind_at
  from_values Scalar (Ok xs) leg e = let q : leg_from o Scalar xs ≡ leg = cc in ap (λ (l : Leg E). kind_of l.wave) (sym q)
  from_values Row (Ok xs) leg e = let q : leg_from o Row xs ≡ leg = cc in ap (λ (l : Leg E). kind_of l.wave) (sym q)
  from_values Column (Ok xs) leg e = let q : leg_from o Column xs ≡ leg = cc in ap (λ (l : Leg E). kind_of l.wave) (sym q)
  from_values Vector (Ok xs) leg e = let q : leg_from o Vector xs ≡ leg = cc in ap (λ (l : Leg E). kind_of l.wave) (sym q)
  from_values kind (Err cause) leg e = cc

  from_pieces : (kind : WaveKind) (k : ℕ) (words : List (List ℕ)) (leg : Leg E) → leg_of_pieces o kind k words ≡ Ok leg → kind_at leg ≡ kind_named kind
  from_pieces kind k [] leg e = cc
  from_pieces kind k (number ∷ numerals) leg e = by (length numerals == 4 + wave_size kind) (bytes_eq number (decimal k)) e
    where
      by : (a b : Bool) → cond a (cond b (values_in o numerals >>= λ xs. Ok (leg_from o kind xs)) (Err LegNumber)) (Err Count) ≡ Ok leg → kind_at leg ≡ kind_named kind
      by true true e = from_values kind (values_in o numerals) leg e
      by true false e = cc
      by false b e = cc

  leg_kind : (kind : WaveKind) (k : ℕ) (line : List ℕ) (leg : Leg E) → leg_in o kind k line ≡ Ok leg → kind_at leg ≡ kind_named kind
  unfolding leg_in
  leg_kind kind k line leg e = from_pieces kind k (pieces line) leg e

  module _ (kinds : List WaveKind) where
    abbrev OfKinds : Legs E → Type 0
    OfKinds legs = map kind_at legs ≡ map kind_named kinds

    -- so far, and to come
    abbrev Fits : Legs E → List WaveKind → Type 0
    Fits legs to_come = map kind_at legs ++ map kind_named to_come ≡ map kind_named kinds

    one_more : (legs : Legs E) (leg : Leg E) (kind : WaveKind) (later : List WaveKind) → kind_at leg ≡ kind_named kind → Fits legs (kind ∷ later) → Fits (legs ++ leg ∷ []) later
    one_more legs leg kind later e h =
        ap (λ ks. ks ++ map kind_named later) (map-append kind_at legs (leg ∷ []) ∙ ap (λ k. map kind_at legs ++ k ∷ []) e)
        ∙ append_assoc (map kind_at legs) (kind_named kind ∷ []) (map kind_named later) ∙ h

    after_feed : (n : ℕ) (legs : Legs E) (kind : WaveKind) (later : List WaveKind) (line bs : List ℕ) → Fits legs (kind ∷ later) → (r : Result (Leg E) Cause)
        → ((leg : Leg E) → r ≡ Ok leg → kind_at leg ≡ kind_named kind)
        → AllByRecursion OfKinds (events_from o kinds (n + 1) [] kinds [] bs).events
        → ((leg : Leg E) (next : WaveKind) (others : List WaveKind) → Fits (legs ++ leg ∷ []) (next ∷ others) → AllByRecursion OfKinds (events_from o kinds n (legs ++ leg ∷ []) (next ∷ others) [] bs).events)
        → AllByRecursion OfKinds (elim r as (λ _. Events E) [
          | Err cause ↦ ends (bad (n + 1) (length legs + 1) cause)
          | Ok leg ↦ elim later as (λ _. Events E) [
            | [] ↦ with_event (legs ++ leg ∷ []) (events_from o kinds (n + 1) [] kinds [] bs)
            | next ∷ others ↦ events_from o kinds n (legs ++ leg ∷ []) (next ∷ others) [] bs
          ]
        ]).events
    after_feed n legs kind later line bs h (Err cause) its whole more = tt
    after_feed n legs kind [] line bs h (Ok leg) its whole more = (sym (append-nil (map kind_at (legs ++ leg ∷ []))) ∙ one_more legs leg kind [] (its leg refl) h, whole)
    after_feed n legs kind (next ∷ others) line bs h (Ok leg) its whole more = more leg next others (one_more legs leg kind (next ∷ others) (its leg refl) h)

    all_kinds : (n : ℕ) (legs : Legs E) (to_come : List WaveKind) (line bytes : List ℕ) → Fits legs to_come → AllByRecursion OfKinds (events_from o kinds n legs to_come line bytes).events
    all_kinds n [] to_come [] [] h = tt
    all_kinds n [] to_come (b ∷ line) [] h = tt
    all_kinds n (leg ∷ legs) to_come line [] h = tt
    all_kinds n legs [] line (b ∷ bs) h = tt
    all_kinds n legs (kind ∷ later) line (b ∷ bs) h =
        by (n == MOST_EVENTS) (b == 10) (nat_le MOST_LINE_BYTES (length line)) (leg_in o kind (length legs + 1) line) (leg_kind kind (length legs + 1) line)
        (all_kinds (n + 1) [] kinds [] bs refl)
        (λ leg next others q. all_kinds n (legs ++ leg ∷ []) (next ∷ others) [] bs q)
        (all_kinds n legs (kind ∷ later) (line ++ b ∷ []) bs h)
      where
        by : (many feed long : Bool) (r : Result (Leg E) Cause) → ((leg : Leg E) → r ≡ Ok leg → kind_at leg ≡ kind_named kind)
            → AllByRecursion OfKinds (events_from o kinds (n + 1) [] kinds [] bs).events
            → ((leg : Leg E) (next : WaveKind) (others : List WaveKind) → Fits (legs ++ leg ∷ []) (next ∷ others) → AllByRecursion OfKinds (events_from o kinds n (legs ++ leg ∷ []) (next ∷ others) [] bs).events)
            → AllByRecursion OfKinds (events_from o kinds n legs (kind ∷ later) (line ++ b ∷ []) bs).events
            → AllByRecursion OfKinds (cond many (ends too_many) (cond feed (elim r as (λ _. Events E) [
              | Err cause ↦ ends (bad (n + 1) (length legs + 1) cause)
              | Ok leg ↦ elim later as (λ _. Events E) [
                | [] ↦ with_event (legs ++ leg ∷ []) (events_from o kinds (n + 1) [] kinds [] bs)
                | next ∷ others ↦ events_from o kinds n (legs ++ leg ∷ []) (next ∷ others) [] bs
              ]
            ]) (cond long (ends (bad (n + 1) (length legs + 1) TooLong)) (events_from o kinds n legs (kind ∷ later) (line ++ b ∷ []) bs)))).events
        by true feed long r its whole more longer = tt
        by false true long r its whole more longer = after_feed n legs kind later line bs h r its whole more
        by false false true r its whole more longer = tt
        by false false false r its whole more longer = longer

    -- each event has a momentum for each kind, and a wave of it
    has_kinds : (legs : Legs E) → OfKinds legs → HasKinds kinds (incoming_of legs)
    unfolding kind_at
    has_kinds legs h = record {
      momenta = length-map legs (λ leg. leg.momentum) ∙ sym (length-map legs (λ leg. kind_of leg.wave)) ∙ ap length h ∙ length-map kinds kind_named;
      waves = waves_of legs ∙ h;
    }
      where
        waves_of : (ls : Legs E) → map kind_of (map (λ leg. leg.wave) ls) ≡ map (λ leg. kind_of leg.wave) ls
        waves_of [] = refl
        waves_of (l ∷ ls) = ap (λ ks. kind_of l.wave ∷ ks) (waves_of ls)

    all_have : (events : List (Legs E)) → AllByRecursion OfKinds events → AllByRecursion (λ legs. HasKinds kinds (incoming_of legs)) events
    all_have [] h = tt
    all_have (legs ∷ events) h = (has_kinds legs h.0, all_have events h.1)

    pub events_have_kinds : (bytes : List ℕ) → AllByRecursion (λ legs. HasKinds kinds (incoming_of legs)) (events_of o kinds bytes).events
    events_have_kinds bytes = all_have (events_of o kinds bytes).events (all_kinds 0 [] kinds [] bytes refl)
