-- Answering events one after the other.
use Rattle.std.proofs.Common.{◌≡◌, ◌≢◌, ℕ, ◌+◌, ◌≤◌, ◌⊎◌, nat_eq, Bool, true, false, List, [], ◌∷◌, ◌++◌, length, Option, Some, refl, ap, sym, subst, ◌∙◌, arith, inl, inr, append_assoc, append-nil, take}
use Rattle.std.specs.Prelude.{MatchBool}
use Rattle.std.proofs.lemmas.Bool.{eqb-false, eqb-true}
use Rattle.std.proofs.lemmas.List.{length-append}
use Rattle.om_ring.specs.Ops.{Ops}
use Rattle.om_io.specs.Bytes.{after_told, before_told, AppendsPrefix}
use Rattle.om_io.specs.Causes.{Rose}
use Rattle.om_io.proofs.Told.{after_told-nil, appended_more, before_told-nil, gave_more, prefix_after}
use Rattle.om_code.specs.Waves.{Incoming}
use Rattle.om_event.specs.Events.{Events, Legs, Ending as Ended, at_end, bad, too_many, ends, with_event, events_of}
use Rattle.om_event.specs.Fronts.{Front, whole, bad_line, front_of}
use Rattle.om_event.specs.Laws.{GoByFronts, events_after}
use Rattle.om_event.specs.Next.{AtEnd, GivesEnd, GivesEvent, IsOpen as FrontIsOpen, NoneLeft, Refuses}
use Rattle.om_event.specs.declared.cause.Cause.{Cause}
use Rattle.om_event.specs.declared.cause.Cause.TheVariants.{TooLong, Count, LegNumber, BadNumeral, NoInverse, Cut}
use Rattle.om_event.specs.declared.kind.WaveKind.{WaveKind}
use Rattle.om_event.specs.declared.limits.TheConstants.{MOST_EVENTS}
use Rattle.om_event.specs.declared.reader.Next.{Next}
use Rattle.om_event.specs.declared.reader.Next.TheVariants as next
use Rattle.om_event.proofs.EventFronts.{goes_by_fronts}
use Rattle.om_event.proofs.FrontsStay.{Stays, stays}
use Rattle.om_top.specs.Cost.{events_begun, one_begun}
use Rattle.om_top.specs.Outside.{Side}
use Rattle.om_top.specs.Streamed.{Lines, Streamed, StreamedGiven, GainedLines, ending_of}
use Rattle.om_top.specs.declared.ending.Ending.{Ending}
use Rattle.om_top.specs.declared.ending.Ending.TheVariants.{Done, EventFault, InputFault, OutFault}
use Rattle.om_top.specs.declared.faults.event.EventFault.TheVariants as fault

-- what some bytes say behind events that were answered
abbrev pub behind : {E : Type 0} → List (Legs E) → Events E → Events E
behind answered es = record { events = answered ++ es.events; ending = es.ending }

behind_more : {E : Type 0} (answered : List (Legs E)) (legs : Legs E) (es : Events E) → behind answered (with_event legs es) ≡ behind (answered ++ legs ∷ []) es
behind_more {E} answered legs es = ap (λ (l : List (Legs E)). let r : Events E = record { events = l; ending = es.ending } in r) (sym (append_assoc answered (legs ∷ []) es.events))

module _ {E : Type 0} (Owes : ℕ → Legs E → List ℕ → Type 0) where
  -- the lines of one event more
  pub lines_more : (e n : ℕ) (answered : List (Legs E)) (legs : Legs E) (text line : List ℕ) → n ≡ e + length answered → Lines Owes e answered text → Owes n legs line
      → Lines Owes e (answered ++ legs ∷ []) (text ++ line)
  lines_more e n [] legs text line at h owes = (line, [], subst (λ k. Owes k legs line) (let same : n ≡ e = omega (arith, at) in same) owes, refl, ap (λ (t : List ℕ). t ++ line) h ∙ sym (append-nil line))
  lines_more e n (x ∷ xs) legs text line at h owes = (
    h.0,
    h.1 ++ line,
    h.2,
    lines_more (e + 1) n xs legs h.1 line (omega (arith, at)) h.3 owes,
    ap (λ (t : List ℕ). t ++ line) h.4 ∙ append_assoc h.0 h.1 line,
  )

  module _ (o : Ops E) (kinds : List WaveKind) where
    -- After k events. first, now: what the input told at first and tells now; out_first, out_now: what the output told; held: the bytes
    -- that the reader holds
    pub record Progress (first now out_first out_now : Option (List ℕ)) (held : List ℕ) (k : ℕ) : Type 0 where
      pub came : List ℕ
      pub answered : List (Legs E)
      pub text : List ℕ
      pub gave : first ≡ before_told came now
      pub says : (rest : List ℕ) → events_of o kinds (came ++ rest) ≡ behind answered (events_after o kinds k (held ++ rest))
      pub count : length answered ≡ k
      pub lines : Lines Owes 1 answered text
      pub gained : out_now ≡ after_told out_first text

  module _ (o : Ops E) (kinds : List WaveKind) (some : kinds ≢ []) where
    fronts : GoByFronts o kinds
    fronts = goes_by_fronts o kinds some

    pub starts : (first out : Option (List ℕ)) → Progress o kinds first first out out [] 0
    starts first out = record {
      came = [];
      answered = [];
      text = [];
      gave = sym (before_told-nil first);
      says = λ rest. fronts.all rest;
      count = refl;
      lines = refl;
      gained = sym (after_told-nil out);
    }

    module _ (first mid last out_first out_now : Option (List ℕ)) (held : List ℕ) (k : ℕ) (p : Progress o kinds first mid out_first out_now held k) (came : List ℕ) (gave : mid ≡ before_told came last) where
      abbrev bytes : List ℕ
      bytes = held ++ came

      abbrev pub given : List ℕ
      given = p.came ++ came

      pub gave_all : first ≡ before_told given last
      gave_all = gave_more first mid last p.came came p.gave gave

      -- what the bytes say that were given, and then more
      said_more : (rest : List ℕ) → events_of o kinds (given ++ rest) ≡ behind p.answered (events_after o kinds k (bytes ++ rest))
      said_more rest =
          ap (events_of o kinds) (append_assoc p.came came rest) ∙ p.says (came ++ rest)
          ∙ ap (λ (t : List ℕ). behind p.answered (events_after o kinds k t)) (sym (append_assoc held came rest))

      said_now : events_of o kinds given ≡ behind p.answered (events_after o kinds k bytes)
      said_now = p.says came

      -- the front stays
      whole_more : (legs : Legs E) (rest more : List ℕ) → front_of o kinds bytes ≡ whole legs rest → front_of o kinds (bytes ++ more) ≡ whole legs (rest ++ more)
      whole_more legs rest more e = subst (λ (f : Front E). Stays more f (front_of o kinds (bytes ++ more))) e (stays more o kinds 1 [] bytes)

      bad_more : (n : ℕ) (cause : Cause) (more : List ℕ) → front_of o kinds bytes ≡ bad_line n cause → front_of o kinds (bytes ++ more) ≡ bad_line n cause
      bad_more n cause more e = subst (λ (f : Front E). Stays more f (front_of o kinds (bytes ++ more))) e (stays more o kinds 1 [] bytes)

      -- an event was read
      module _ (within : k ≢ MOST_EVENTS) (legs : Legs E) (rest : List ℕ) (e : front_of o kinds bytes ≡ whole legs rest) where
        said_event : (more : List ℕ) → events_of o kinds (given ++ more) ≡ behind (p.answered ++ legs ∷ []) (events_after o kinds (k + 1) (rest ++ more))
        said_event more =
            said_more more
            ∙ ap (behind p.answered) (fronts.event k (bytes ++ more) (rest ++ more) legs within (whole_more legs rest more e))
            ∙ behind_more p.answered legs (events_after o kinds (k + 1) (rest ++ more))

        -- and its lines went out
        pub answered_one : (out_next : Option (List ℕ)) (number : ℕ) (line : List ℕ) → number ≡ k + 1 → Owes number legs line → out_next ≡ after_told out_now line
            → Progress o kinds first last out_first out_next rest (k + 1)
        answered_one out_next number line is owes gained = record {
          came = given;
          answered = p.answered ++ legs ∷ [];
          text = p.text ++ line;
          gave = gave_all;
          says = said_event;
          count = omega (arith, p.count, length-append p.answered (legs ∷ []));
          lines = lines_more 1 number p.answered legs p.text line (omega (arith, is, p.count)) p.lines owes;
          gained = appended_more out_first out_now out_next p.text line p.gained gained;
        }

        abbrev pub said_here : Events E
        said_here = events_after o kinds (k + 1) rest

        said_given : events_of o kinds given ≡ behind (p.answered ++ legs ∷ []) said_here
        said_given =
            ap (events_of o kinds) (sym (append-nil given)) ∙ said_event []
            ∙ ap (λ (t : List ℕ). behind (p.answered ++ legs ∷ []) (events_after o kinds (k + 1) t)) (append-nil rest)

        -- or the output failed
        pub broken_one : (input out : Side) → input.before ≡ first → input.after ≡ last → out.before ≡ out_first → (number : ℕ) (line : List ℕ) → number ≡ k + 1 → Owes number legs line
            → AppendsPrefix out_now out.after line → Rose out.faults_before out.faults_after → Streamed Owes o kinds input out OutFault
        broken_one input out a b d number line is owes prefix rose = (
          given,
          a ∙ gave_all ∙ ap (before_told given) (sym b),
          (
            rose,
            (
              p.answered ++ legs ∷ [],
              said_here.events,
              p.text ++ line,
              ap (λ (es : Events E). es.events) said_given,
              lines_more 1 number p.answered legs p.text line (omega (arith, is, p.count)) p.lines owes,
              (
                  let h = prefix_after out_first out_now out.after p.text line p.gained prefix in
                  (h.0, h.1, h.2 ∙ ap (λ (t : Option (List ℕ)). after_told t (take h.0 (p.text ++ line))) (sym d))
                  ),
            ),
          ),
        )

        -- so many events were begun
        pub one_more : k + 1 ≤ length (events_of o kinds given).events
        one_more = omega (arith, ap (λ (es : Events E). length es.events) said_given, length-append (p.answered ++ legs ∷ []) said_here.events, length-append p.answered (legs ∷ []), p.count)

      -- the bytes end here, or are refused
      module _ (ended : Ended) (e : events_after o kinds k bytes ≡ ends ended) where
        said_ended : events_of o kinds given ≡ behind p.answered (ends ended)
        said_ended = said_now ∙ ap (behind p.answered) e

        ending_is : (events_of o kinds given).ending ≡ ended
        ending_is = ap (λ (es : Events E). es.ending) said_ended

        events_are : (events_of o kinds given).events ≡ p.answered
        events_are = ap (λ (es : Events E). es.events) said_ended ∙ append-nil p.answered

        gained_all : (out : Side) → out.before ≡ out_first → out.after ≡ out_now → GainedLines Owes out (events_of o kinds given).events
        gained_all out a b = (p.text, subst (λ (xs : List (Legs E)). Lines Owes 1 xs p.text) (sym events_are) p.lines, b ∙ p.gained ∙ ap (λ (t : Option (List ℕ)). after_told t p.text) (sym a))

        -- so does what follows them
        stays_ended : ((more : List ℕ) → events_after o kinds k (bytes ++ more) ≡ ends ended) → (more : List ℕ) → events_of o kinds (given ++ more) ≡ events_of o kinds given
        stays_ended h more = said_more more ∙ ap (behind p.answered) (h more) ∙ sym said_ended

        count_is : (events_of o kinds given).events ≡ p.answered → length (events_of o kinds given).events ≡ k
        count_is h = ap length h ∙ p.count

      -- no byte is left, or came
      at_end_now : bytes ≡ [] → events_after o kinds k bytes ≡ ends at_end
      at_end_now h = ap (events_after o kinds k) h ∙ fronts.end k

      no_less : bytes ≢ [] → (more : List ℕ) → bytes ++ more ≢ []
      no_less h more e = h (nothing bytes more e)
        where
          nothing : (xs ys : List ℕ) → xs ++ ys ≡ [] → xs ≡ []
          nothing [] ys e = refl
          nothing (x ∷ xs) ys e = cc

      module _ (within : k ≢ MOST_EVENTS) (n : ℕ) where
        cut_here : bytes ≢ [] → FrontIsOpen o kinds bytes n → events_after o kinds k bytes ≡ ends (bad (k + 1) n Cut)
        cut_here h w = fronts.cut k bytes w.0 n within h w.1

      not_none : (x : ℕ) (xs : List ℕ) → bytes ≡ x ∷ xs → bytes ≢ []
      not_none x xs h q = let r : [] ≡ x ∷ xs = sym q ∙ h in absurd cc

      -- so many events were begun
      begun_is : (ended : Ended) → events_after o kinds k bytes ≡ ends ended → events_begun o kinds given ≡ k + one_begun ended
      begun_is ended e =
          ap (λ (es : Events E). length es.events + one_begun es.ending) (said_ended ended e)
          ∙ ap (λ n. n + one_begun ended) (ap length (append-nil p.answered) ∙ p.count)

      -- one more than were answered; or no more, and no byte stands behind them or it is too many
      abbrev pub Begun : Type 0
      Begun = (k + 1 ≤ events_begun o kinds given) ⊎ (((bytes ≡ []) ⊎ (k ≡ MOST_EVENTS)) × (k ≤ events_begun o kinds given))

      none_begun : bytes ≡ [] → Begun
      none_begun h = inr (inl h, omega (arith, begun_is at_end (at_end_now h)))

      begun_refused : k ≢ MOST_EVENTS → (n : ℕ) (cause : Cause) → front_of o kinds bytes ≡ bad_line n cause → Begun
      begun_refused within n cause h = inl (omega (arith, begun_is (bad (k + 1) n cause) (fronts.bad_lines k bytes n cause within h)))

      begun_cut : k ≢ MOST_EVENTS → (n : ℕ) → bytes ≢ [] → FrontIsOpen o kinds bytes n → Begun
      begun_cut within n h w = inl (omega (arith, begun_is (bad (k + 1) n Cut) (cut_here within n h w)))

      begun_bad : k ≢ MOST_EVENTS → (n : ℕ) (cause : Cause) → Refuses o kinds bytes n cause → Begun
      begun_bad within n Cut h = begun_cut within n h.0 h.1
      begun_bad within n TooLong h = begun_refused within n TooLong h
      begun_bad within n Count h = begun_refused within n Count h
      begun_bad within n LegNumber h = begun_refused within n LegNumber h
      begun_bad within n BadNumeral h = begun_refused within n BadNumeral h
      begun_bad within n NoInverse h = begun_refused within n NoInverse h

      begun_failed : k ≢ MOST_EVENTS → (n : ℕ) (bs : List ℕ) → bytes ≡ bs → FrontIsOpen o kinds bytes n → Begun
      begun_failed within n [] h w = none_begun h
      begun_failed within n (x ∷ xs) h w = begun_cut within n (not_none x xs h) w

      module _ (event : Incoming E) (rest : List ℕ) where
        begun_within : k ≢ MOST_EVENTS → (n : Next) (ending : Ending) → ending_of n ≡ Some ending → GivesEvent o kinds (k + 1) bytes rest event n → Begun
        begun_within within next.Event ending is h = cc
        begun_within within next.End ending is h = none_begun h
        begun_within within (next.Bad m line cause) ending is h = begun_bad within line cause h.1
        begun_within within next.TooMany ending is h = absurd h
        begun_within within next.Failed ending is h = begun_failed within h.0 bytes refl h.1

        begun_last : k ≡ MOST_EVENTS → (n : Next) → GivesEnd bytes n → Begun
        begun_last most next.Event h = absurd h
        begun_last most next.End h = none_begun h
        begun_last most (next.Bad m line cause) h = absurd h
        begun_last most next.TooMany h =
            let e : events_after o kinds k bytes ≡ ends too_many = ap (λ n. events_after o kinds n bytes) most ∙ fronts.many bytes h in
            inr (inr most, omega (arith, begun_is too_many e))
        begun_last most next.Failed h = none_begun h

        pub begun_now : (n : Next) (ending : Ending) → ending_of n ≡ Some ending → MatchBool (nat_eq k MOST_EVENTS) (GivesEnd bytes n) (GivesEvent o kinds (k + 1) bytes rest event n) → Begun
        begun_now n ending is h = by (nat_eq k MOST_EVENTS) refl h
          where
            by : (q : Bool) → nat_eq k MOST_EVENTS ≡ q → MatchBool q (GivesEnd bytes n) (GivesEvent o kinds (k + 1) bytes rest event n) → Begun
            by true e h = begun_last (eqb-true k MOST_EVENTS e) n h
            by false e h = begun_within (eqb-false k MOST_EVENTS e) n ending is h

      module _ (input out : Side) (a : input.before ≡ first) (b : input.after ≡ last) (c : out.before ≡ out_first) (d : out.after ≡ out_now) where
        gives : (ending : Ending) → StreamedGiven Owes o kinds input out given ending → Streamed Owes o kinds input out ending
        gives ending h = (given, a ∙ gave_all ∙ ap (before_told given) (sym b), h)

        -- the first bad line
        module _ (within : k ≢ MOST_EVENTS) (n : ℕ) where
          refused : (cause : Cause) → front_of o kinds bytes ≡ bad_line n cause → Streamed Owes o kinds input out (EventFault (fault.Bad (k + 1) n cause))
          refused cause h =
              let e : events_after o kinds k bytes ≡ ends (bad (k + 1) n cause) = fronts.bad_lines k bytes n cause within h in
              gives (EventFault (fault.Bad (k + 1) n cause)) (
                inr (stays_ended (bad (k + 1) n cause) e (λ more. fronts.bad_lines k (bytes ++ more) n cause within (bad_more n cause more h))),
                ending_is (bad (k + 1) n cause) e,
                gained_all (bad (k + 1) n cause) e out c d,
              )

          by_cause : (cause : Cause) → Refuses o kinds bytes n cause → AtEnd (next.Bad (k + 1) n cause) last → Streamed Owes o kinds input out (EventFault (fault.Bad (k + 1) n cause))
          by_cause Cut h done =
              let e = cut_here within n h.0 h.1 in
              gives (EventFault (fault.Bad (k + 1) n Cut)) (inl (subst NoneLeft (sym b) done), ending_is (bad (k + 1) n Cut) e, gained_all (bad (k + 1) n Cut) e out c d)
          by_cause TooLong h done = refused TooLong h
          by_cause Count h done = refused Count h
          by_cause LegNumber h done = refused LegNumber h
          by_cause BadNumeral h done = refused BadNumeral h
          by_cause NoInverse h done = refused NoInverse h

          -- a read failed inside an event, or before one
          failed_in : (bs : List ℕ) → bytes ≡ bs → FrontIsOpen o kinds bytes n → Rose input.faults_before input.faults_after → Streamed Owes o kinds input out InputFault
          failed_in [] h w rose = let e = at_end_now h in gives InputFault (rose, inl (ending_is at_end e), gained_all at_end e out c d)
          failed_in (x ∷ xs) h w rose =
              let e = cut_here within n (not_none x xs h) w in
              gives InputFault (rose, inr (k + 1, n, ending_is (bad (k + 1) n Cut) e), gained_all (bad (k + 1) n Cut) e out c d)

        done_now : bytes ≡ [] → NoneLeft last → Streamed Owes o kinds input out Done
        done_now h done = let e = at_end_now h in gives Done (subst NoneLeft (sym b) done, ending_is at_end e, gained_all at_end e out c d)

        failed_now : bytes ≡ [] → Rose input.faults_before input.faults_after → Streamed Owes o kinds input out InputFault
        failed_now h rose = let e = at_end_now h in gives InputFault (rose, inl (ending_is at_end e), gained_all at_end e out c d)

        too_many_now : k ≡ MOST_EVENTS → bytes ≢ [] → Streamed Owes o kinds input out (EventFault fault.TooMany)
        too_many_now most h =
            let many : (more : List ℕ) → events_after o kinds k (bytes ++ more) ≡ ends too_many = λ more. ap (λ n. events_after o kinds n (bytes ++ more)) most ∙ fronts.many (bytes ++ more) (no_less h more) in
            let e : events_after o kinds k bytes ≡ ends too_many = ap (λ n. events_after o kinds n bytes) most ∙ fronts.many bytes h in
            gives (EventFault fault.TooMany) (inr (stays_ended too_many e many), ending_is too_many e, gained_all too_many e out c d)

        module _ (event : Incoming E) (rest : List ℕ) where
          within_events : k ≢ MOST_EVENTS → (n : Next) (ending : Ending) → ending_of n ≡ Some ending → GivesEvent o kinds (k + 1) bytes rest event n → AtEnd n last
              → (n ≡ next.Failed → Rose input.faults_before input.faults_after) → Streamed Owes o kinds input out ending
          within_events within next.Event ending is h done rose = cc
          within_events within next.End ending is h done rose = let same : Done ≡ ending = cc in subst (Streamed Owes o kinds input out) same (done_now h done)
          within_events within (next.Bad m line cause) ending is h done rose =
              let same : EventFault (fault.Bad m line cause) ≡ ending = cc in
              let at : m ≡ k + 1 = h.0 in
              subst (Streamed Owes o kinds input out) (ap (λ j. EventFault (fault.Bad j line cause)) (sym at) ∙ same)
              (by_cause within line cause h.1 (subst (λ j. AtEnd (next.Bad j line cause) last) at done))
          within_events within next.TooMany ending is h done rose = absurd h
          within_events within next.Failed ending is h done rose = let same : InputFault ≡ ending = cc in subst (Streamed Owes o kinds input out) same (failed_in within h.0 bytes refl h.1 (rose refl))

          after_last : k ≡ MOST_EVENTS → (n : Next) (ending : Ending) → ending_of n ≡ Some ending → GivesEnd bytes n → AtEnd n last
              → (n ≡ next.Failed → Rose input.faults_before input.faults_after) → Streamed Owes o kinds input out ending
          after_last most next.Event ending is h done rose = absurd h
          after_last most next.End ending is h done rose = let same : Done ≡ ending = cc in subst (Streamed Owes o kinds input out) same (done_now h done)
          after_last most (next.Bad m line cause) ending is h done rose = absurd h
          after_last most next.TooMany ending is h done rose = let same : EventFault fault.TooMany ≡ ending = cc in subst (Streamed Owes o kinds input out) same (too_many_now most h)
          after_last most next.Failed ending is h done rose = let same : InputFault ≡ ending = cc in subst (Streamed Owes o kinds input out) same (failed_now h (rose refl))

          -- no event came
          pub ended : (n : Next) (ending : Ending) → ending_of n ≡ Some ending → MatchBool (nat_eq k MOST_EVENTS) (GivesEnd bytes n) (GivesEvent o kinds (k + 1) bytes rest event n) → AtEnd n last
              → (n ≡ next.Failed → Rose input.faults_before input.faults_after) → Streamed Owes o kinds input out ending
          ended n ending is h done rose = by (nat_eq k MOST_EVENTS) refl h
            where
              by : (q : Bool) → nat_eq k MOST_EVENTS ≡ q → MatchBool q (GivesEnd bytes n) (GivesEvent o kinds (k + 1) bytes rest event n) → Streamed Owes o kinds input out ending
              by true e h = after_last (eqb-true k MOST_EVENTS e) n ending is h done rose
              by false e h = within_events (eqb-false k MOST_EVENTS e) n ending is h done rose
