-- The events of a text, front by front.
use Rattle.std.proofs.Common.{◌≡◌, ◌≢◌, ℕ, ◌+◌, ◌<◌, nat_eq, false, List, [], ◌∷◌, ◌++◌, length, refl, ap, ◌∙◌, arith, inl, inr}
use Rattle.std.specs.Prelude.{nat_le, Result, Ok, Err}
use Rattle.std.proofs.lemmas.Bool.{cases_Bool, ne_eqb}
use Rattle.std.proofs.lemmas.List.{append_assoc, length-append}
use Rattle.om_ring.specs.Ops.{Ops}
use Rattle.om_event.specs.declared.cause.Cause.{Cause}
use Rattle.om_event.specs.declared.cause.Cause.TheVariants.{Cut}
use Rattle.om_event.specs.declared.kind.WaveKind.{WaveKind}
use Rattle.om_event.specs.declared.line.Leg.{Leg}
use Rattle.om_event.specs.Lines.{leg_in}
use Rattle.om_event.specs.declared.limits.TheConstants.{MOST_EVENTS, MOST_LINE_BYTES}
use Rattle.om_event.specs.Events.{Events, ends, bad, too_many, with_event, end_after, events_from}
use Rattle.om_event.specs.Fronts.{Front, whole, bad_line, begun, with_leg, after_line, front_from, front_of}
use Rattle.om_event.specs.Laws.{GoByFronts, events_after}

module _ {E : Type 0} (o : Ops E) (kinds : List WaveKind) (n : ℕ) where
  -- what a text says by what stands at its front, behind the lines of some legs
  abbrev pub said_by : List (Leg E) → Front E → Events E
  said_by legs (whole more rest) = with_event (legs ++ more) (events_from o kinds (n + 1) [] kinds [] rest)
  said_by legs (bad_line k cause) = ends (bad (n + 1) k cause)
  said_by legs (begun k line) = ends (bad (n + 1) k Cut)

  said_with : (legs : List (Leg E)) (leg : Leg E) (front : Front E) → said_by (legs ++ leg ∷ []) front ≡ said_by legs (with_leg leg front)
  said_with legs leg (whole more rest) = ap (λ (t : List (Leg E)). with_event t (events_from o kinds (n + 1) [] kinds [] rest)) (append_assoc legs (leg ∷ []) more)
  said_with legs leg (bad_line k cause) = refl
  said_with legs leg (begun k line) = refl

  cut_after : (legs : List (Leg E)) (line : List ℕ) → 0 < length legs + length line → end_after n legs line ≡ ends (bad (n + 1) (length legs + 1) Cut)
  cut_after [] [] h = absurd (omega (arith, h))
  cut_after [] (b ∷ bs) h = refl
  cut_after (leg ∷ legs) line h = refl

  -- after a line feed
  line_case : (r : Result (Leg E) Cause) (legs : List (Leg E)) (later : List WaveKind) (bs : List ℕ)
      → ((legs : List (Leg E)) (next : WaveKind) (others : List WaveKind) → 0 < length legs → events_from o kinds n legs (next ∷ others) [] bs ≡ said_by legs (front_from o (next ∷ others) (length legs + 1) [] bs))
      → (elim r as (λ _. Events E) [
        | Err cause ↦ ends (bad (n + 1) (length legs + 1) cause)
        | Ok leg ↦ elim later as (λ _. Events E) [
          | [] ↦ with_event (legs ++ leg ∷ []) (events_from o kinds (n + 1) [] kinds [] bs)
          | next ∷ others ↦ events_from o kinds n (legs ++ leg ∷ []) (next ∷ others) [] bs
        ]
      ]) ≡ said_by legs (after_line (length legs + 1) r (front_from o later (length legs + 1 + 1) [] bs))
  line_case (Err cause) legs later bs ih = refl
  line_case (Ok leg) legs [] bs ih = refl
  line_case (Ok leg) legs (next ∷ others) bs ih =
      let l : length (legs ++ leg ∷ []) ≡ length legs + 1 = length-append legs (leg ∷ []) in
      ih (legs ++ leg ∷ []) next others (omega (arith, l)) ∙ ap (λ m. said_by (legs ++ leg ∷ []) (front_from o (next ∷ others) (m + 1) [] bs)) l
      ∙ said_with legs leg (front_from o (next ∷ others) (length legs + 1 + 1) [] bs)

  -- the events are those that the front says
  pub by_front : nat_eq n MOST_EVENTS ≡ false → (legs : List (Leg E)) (kind : WaveKind) (later : List WaveKind) (line bytes : List ℕ)
      → 0 < length legs + length line + length bytes
      → events_from o kinds n legs (kind ∷ later) line bytes ≡ said_by legs (front_from o (kind ∷ later) (length legs + 1) line bytes)
  by_front few legs kind later line [] h = cut_after legs line (omega (arith, h))
  by_front few legs kind later line (b ∷ bs) h = rw few (elim (cases_Bool (nat_eq b 10)) [
    | inl e ↦ rw e (line_case (leg_in o kind (length legs + 1) line) legs later bs (λ ls next others p. by_front few ls next others [] bs (omega (arith, p))))
    | inr e ↦ rw e (elim (cases_Bool (nat_le MOST_LINE_BYTES (length line))) [
      | inl f ↦ rw f refl
      | inr f ↦ rw f (by_front few legs kind later (line ++ b ∷ []) bs (let l : length (line ++ b ∷ []) ≡ length line + 1 = length-append line (b ∷ []) in omega (arith, l)))
    ])
  ])

no_bytes : (kinds : List WaveKind) (bytes : List ℕ) → bytes ≢ [] → 0 < length bytes
no_bytes kinds [] h = absurd (h refl)
no_bytes kinds (b ∷ bs) h = omega arith

module _ {E : Type 0} (o : Ops E) (kind : WaveKind) (later : List WaveKind) where
  few : (n : ℕ) → n ≢ MOST_EVENTS → nat_eq n MOST_EVENTS ≡ false
  few n h = ne_eqb n MOST_EVENTS h

  many_more : (bytes : List ℕ) → bytes ≢ [] → events_after o (kind ∷ later) MOST_EVENTS bytes ≡ ends too_many
  many_more [] h = absurd (h refl)
  many_more (b ∷ bs) h = refl

  front-some : (bytes : List ℕ) (legs : List (Leg E)) (rest : List ℕ) → front_of o (kind ∷ later) bytes ≡ whole legs rest → 0 < length bytes
  front-some [] legs rest h = cc
  front-some (b ∷ bs) legs rest h = omega arith

  front-bad : (bytes : List ℕ) (k : ℕ) (cause : Cause) → front_of o (kind ∷ later) bytes ≡ bad_line k cause → 0 < length bytes
  front-bad [] k cause h = cc
  front-bad (b ∷ bs) k cause h = omega arith

  pub go_by_fronts : GoByFronts o (kind ∷ later)
  go_by_fronts = record {
    all = λ bytes. refl;
    event = λ n bytes rest legs h f. by_front o (kind ∷ later) n (few n h) [] kind later [] bytes (let l = front-some bytes legs rest f in omega (arith, l)) ∙ ap (said_by o (kind ∷ later) n []) f;
    bad_lines = λ n bytes k cause h f. by_front o (kind ∷ later) n (few n h) [] kind later [] bytes (let l = front-bad bytes k cause f in omega (arith, l)) ∙ ap (said_by o (kind ∷ later) n []) f;
    cut = λ n bytes line k h some f. by_front o (kind ∷ later) n (few n h) [] kind later [] bytes (let l = no_bytes later bytes some in omega (arith, l)) ∙ ap (said_by o (kind ∷ later) n []) f;
    end = λ n. refl;
    many = many_more;
  }

-- the same for the kinds of a code's legs
pub goes_by_fronts : {E : Type 0} (o : Ops E) (kinds : List WaveKind) → kinds ≢ [] → GoByFronts o kinds
goes_by_fronts o [] h = absurd (h refl)
goes_by_fronts o (kind ∷ later) h = go_by_fronts o kind later
