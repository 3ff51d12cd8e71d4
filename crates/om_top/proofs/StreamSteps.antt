-- The steps of a stream: an event that is answered, and the end.
use Rattle.std.proofs.Common.{◌≡◌, ◌≢◌, ℕ, ◌+◌, ◌*◌, ◌≤◌, nat_eq, true, List, [], ◌++◌, length, Option, Some, None, refl, ap, sym, subst, ◌∙◌, arith, inl, inr}
use Rattle.std.specs.Prelude.{MatchBool}
use Rattle.std.proofs.lemmas.Bool.{ne_eqb}
use Rattle.om_ring.specs.Ops.{Ops}
use Rattle.om_io.specs.Bytes.{after_told, before_told, AppendsPrefix}
use Rattle.om_io.specs.Causes.{Rose}
use Rattle.om_io.proofs.Counts.{Rose-longer}
use Rattle.om_model.specs.ModelTable.{model_table}
use Rattle.om_code.specs.declared.code.Code.{Code}
use Rattle.om_code.specs.Meaning.{IsMeaning}
use Rattle.om_code.specs.Verified.{IsVerified}
use Rattle.om_code.specs.Waves.{Incoming}
use Rattle.om_emit.specs.EmittedAnswer.{answer_with}
use Rattle.om_lorentz.specs.declared.structures.Factors.{Factors}
use Rattle.om_machine.specs.Bound.{part}
use Rattle.om_machine.specs.Events.{IsMadeFor}
use Rattle.om_machine.specs.Loaded.{answer_of}
use Rattle.om_machine.specs.Machines.{LoadedCode, SameTable, table_of}
use Rattle.om_machine.specs.Momenta.{table_from}
use Rattle.om_machine.specs.declared.answer.Outcome.{Outcome}
use Rattle.om_machine.specs.declared.numbers.Masses.{Masses}
use Rattle.om_machine.proofs.TableMeaning.{same-meaning}
use Rattle.om_event.specs.Events.{Legs}
use Rattle.om_event.specs.Fronts.{front_of, whole}
use Rattle.om_event.specs.Kinds.{AreKindsOf, HasKinds}
use Rattle.om_event.specs.Next.{AtEnd, Enters, Gives, GivesEnd, GivesEvent, Reading, Stays}
use Rattle.om_event.specs.declared.kind.WaveKind.{WaveKind}
use Rattle.om_event.specs.declared.limits.TheConstants.{MOST_EVENTS}
use Rattle.om_event.specs.declared.reader.Next.{Next}
use Rattle.om_event.specs.declared.reader.Next.TheVariants as next
use Rattle.om_event.proofs.KindsOfCode.{made_by_kinds}
use Rattle.om_top.specs.AnswerText.{answer_text}
use Rattle.om_top.specs.Cost.{EventsMayCall, event_calls, events_begun}
use Rattle.om_top.specs.Loads.{IsLoaded}
use Rattle.om_top.specs.Outside.{Side}
use Rattle.om_top.specs.RunRan.{OwesMeaning}
use Rattle.om_top.specs.Streamed.{Streamed, ending_of, kinds_of}
use Rattle.om_top.specs.declared.ending.Ending.{Ending}
use Rattle.om_top.specs.declared.ending.Ending.TheVariants.{OutFault}
use Rattle.om_top.proofs.CodeAnswers.{IsReading, calls_answered, calls_begun, calls_none, count_kinds, kinds_are, more_calls, owed, some_kinds}
use Rattle.om_top.proofs.Streams.{Progress, answered_one, begun_now, broken_one, ended, gave_all, given, one_more}

-- what a call does to an object, by what it told and how often it failed
abbrev pub told_side : Option (List ℕ) → Option (List ℕ) → ℕ → ℕ → Side
told_side before after faults_before faults_after = record { before = before; after = after; faults_before = faults_before; faults_after = faults_after }

-- no ending for an event alone
pub is_event : (n : Next) → ending_of n ≡ None → n ≡ next.Event
is_event next.Event h = refl
is_event next.End h = cc
is_event (next.Bad m line cause) h = cc
is_event next.TooMany h = cc
is_event next.Failed h = cc

module _ {E : Type 0} (o : Ops E) (show : E → List ℕ) (m0 : LoadedCode E) (verified : IsVerified m0.code) (loaded : IsLoaded o m0) where
  abbrev c : Code
  c = m0.code

  abbrev kinds : List WaveKind
  kinds = kinds_of c.model.particles c.legs

  abbrev Owes : ℕ → Legs E → List ℕ → Type 0
  Owes = OwesMeaning o show c

  some : kinds ≢ []
  some = some_kinds c.model.particles c.legs verified.some_legs

  same_kinds : (r : Reading) → AreKindsOf c r.kinds → r.kinds ≡ kinds
  same_kinds r are = kinds_are c.model.particles c.legs r.kinds are

  -- a machine with the same table
  table_now : (m : LoadedCode E) → m.factors ≡ m0.factors → m.masses ≡ m0.masses → SameTable o (table_of o m) (model_table o c.model)
  table_now m f g =
      subst (λ (x : List (Factors E)). SameTable o (table_from o x m.masses) (model_table o c.model)) (sym f)
      (subst (λ (x : List (Masses E)). SameTable o (table_from o m0.factors x) (model_table o c.model)) (sym g) loaded.table)

  module _ (m : LoadedCode E) (r : Reading) (k : ℕ) (e : Incoming E) (reading : IsReading m0 m r k e) where
    -- an event that is read is made for the code
    pub made_now : (now : Incoming E) → HasKinds r.kinds now → IsMadeFor m.code now
    made_now now h = (made_by_kinds m.code r.kinds (subst (λ (x : Code). AreKindsOf x r.kinds) (sym reading.code) reading.are) now).1 h

    made_first : (now : Incoming E) → HasKinds r.kinds now → IsMadeFor c now
    made_first now h = (made_by_kinds c r.kinds reading.are now).1 h

    -- what the reader gave, by its number of events
    gives_now : (bytes rest : List ℕ) (now : Incoming E) (n : Next) → Gives o r bytes rest now n → MatchBool (nat_eq k MOST_EVENTS) (GivesEnd bytes n) (GivesEvent o kinds (k + 1) bytes rest now n)
    gives_now bytes rest now n h =
        subst (λ j. MatchBool (nat_eq j MOST_EVENTS) (GivesEnd bytes n) (GivesEvent o kinds (j + 1) bytes rest now n)) reading.given
        (subst (λ ks. MatchBool (nat_eq r.given MOST_EVENTS) (GivesEnd bytes n) (GivesEvent o ks (r.given + 1) bytes rest now n)) (same_kinds r reading.are) h)

    event_now : k ≢ MOST_EVENTS → (bytes rest : List ℕ) (now : Incoming E) (n : Next) → n ≡ next.Event → Gives o r bytes rest now n
        → (legs : Legs E) × (front_of o kinds bytes ≡ whole legs rest) × Enters legs now
    event_now within bytes rest now n is h =
        let g : MatchBool (nat_eq k MOST_EVENTS) (GivesEnd bytes n) (GivesEvent o kinds (k + 1) bytes rest now n) = gives_now bytes rest now n h in
        let w : GivesEvent o kinds (k + 1) bytes rest now n = rw (ne_eqb k MOST_EVENTS within) at g in
        subst (GivesEvent o kinds (k + 1) bytes rest now) is w

    module _ (first mid last out_first out_now : Option (List ℕ)) (p : Progress Owes o kinds first mid out_first out_now r.held k) (came : List ℕ) (gave : mid ≡ before_told came last)
        (rest : List ℕ) (now : Incoming E) (n : Next) (gives : Gives o r (r.held ++ came) rest now n) where
      -- no event came
      module _ (ending : Ending) (is : ending_of n ≡ Some ending) where
        pub stream_ended : AtEnd n last → (in_first in_mid in_last out_faults out_later : ℕ) → in_first ≤ in_mid → in_mid ≤ in_last → (n ≡ next.Failed → Rose in_mid in_last)
            → Streamed Owes o kinds (told_side first last in_first in_last) (told_side out_first out_now out_faults out_later) ending
        stream_ended done in_first in_mid in_last out_faults out_later a b rose =
            ended Owes o kinds some first mid last out_first out_now r.held k p came gave (told_side first last in_first in_last) (told_side out_first out_now out_faults out_later) refl refl refl refl now rest n ending is
            (gives_now (r.held ++ came) rest now n gives) done (λ f. Rose-longer in_first in_mid in_last in_last a (rose f) (omega arith))

        pub ended_calls : (in_first in_last cost initial before after : ℕ) → before ≤ initial + k * event_calls c * cost → after ≤ before + length r.kinds * (32 * cost)
            → (r.held ++ came ≡ [] → after ≡ before) → (r.given ≡ MOST_EVENTS → after ≡ before)
            → (x : ℕ) × EventsMayCall o c (told_side first last in_first in_last) x × (after ≤ initial + x * cost)
        ended_calls in_first in_last cost initial before after so_far most idle last_one =
            let all = given Owes o kinds some first mid last out_first out_now r.held k p came gave in
            let begun = events_begun o kinds all in
            let size : length r.kinds ≡ length c.legs = ap length (same_kinds r reading.are) ∙ count_kinds c.model.particles c.legs in (
              begun * event_calls c,
              (all, gave_all Owes o kinds some first mid last out_first out_now r.held k p came gave, refl),
              elim (begun_now Owes o kinds some first mid last out_first out_now r.held k p came gave now rest n ending is (gives_now (r.held ++ came) rest now n gives)) [
                | inl b ↦ calls_begun begun k (part c) (length c.legs) cost initial before after so_far (omega (arith, most, ap (λ l. l * (32 * cost)) size)) b
                | inr w ↦ calls_none begun k (part c) (length c.legs) cost initial before after so_far (elim w.0 [ inl none ↦ idle none | inr many ↦ last_one (reading.given ∙ many) ]) w.1
              ],
            )

      -- an event was read and evaluated
      module _ (is : n ≡ next.Event) (within : k ≢ MOST_EVENTS) (kept : HasKinds r.kinds now) (m' : LoadedCode E) (same : m'.code ≡ m.code) (factors : m'.factors ≡ m.factors) (masses : m'.masses ≡ m.masses)
          (outcome : Outcome) (meaning : IsMeaning o m'.code (table_of o m') now (answer_of outcome m'.sums)) (number : ℕ) (at : number ≡ k + 1) where
        abbrev line : List ℕ
        line = answer_text show m'.code.model number (answer_with m'.code.flows (answer_of outcome m'.sums))

        came_event : (legs : Legs E) × (front_of o kinds (r.held ++ came) ≡ whole legs rest) × Enters legs now
        came_event = event_now within (r.held ++ came) rest now n is gives

        owes : Owes number came_event.0 line
        owes =
            owed o show (λ code t u e a same h. same-meaning o code t u e same a h) m' c (same ∙ reading.code) (table_now m' (factors ∙ reading.factors) (masses ∙ reading.masses)) now came_event.0 came_event.2 (made_first now kept) outcome meaning number

        -- and its lines were written
        pub stream_answered : (out_next : Option (List ℕ)) → out_next ≡ after_told out_now line → Progress Owes o kinds first last out_first out_next rest (k + 1)
        stream_answered out_next gained =
            answered_one Owes o kinds some first mid last out_first out_now r.held k p came gave within came_event.0 rest came_event.1 out_next number line at owes gained

        -- or broke off
        pub stream_broken : (out_next : Option (List ℕ)) → AppendsPrefix out_now out_next line → (in_first in_last out_faults out_mid out_later : ℕ) → out_faults ≤ out_mid → out_mid ≤ out_later → Rose out_mid out_later
            → Streamed Owes o kinds (told_side first last in_first in_last) (told_side out_first out_next out_faults out_later) OutFault
        stream_broken out_next prefix in_first in_last out_faults out_mid out_later a b rose =
            broken_one Owes o kinds some first mid last out_first out_now r.held k p came gave within came_event.0 rest came_event.1 (told_side first last in_first in_last) (told_side out_first out_next out_faults out_later) refl refl refl number line at owes prefix
            (Rose-longer out_faults out_mid out_later out_later a rose (omega arith))

        module _ (cost initial before read after : ℕ) (so_far : before ≤ initial + k * event_calls c * cost) (most : read ≤ before + length r.kinds * (32 * cost)) (evaluated : after ≤ read + part m.code * cost) where
          pub answered_calls : after ≤ initial + (k + 1) * event_calls c * cost
          answered_calls =
              let size : length r.kinds ≡ length c.legs = ap length (same_kinds r reading.are) ∙ count_kinds c.model.particles c.legs in
              calls_answered 0 k (part c) (length c.legs) cost initial before after so_far read (omega (arith, most, ap (λ l. l * (32 * cost)) size)) (omega (arith, evaluated, ap (λ (x : Code). part x * cost) reading.code))

          pub broken_calls : (in_first in_last : ℕ) → (x : ℕ) × EventsMayCall o c (told_side first last in_first in_last) x × (after ≤ initial + x * cost)
          broken_calls in_first in_last =
              let all = given Owes o kinds some first mid last out_first out_now r.held k p came gave in
              let begun = events_begun o kinds all in
              let more = one_more Owes o kinds some first mid last out_first out_now r.held k p came gave within came_event.0 rest came_event.1 in
              (begun * event_calls c, (all, gave_all Owes o kinds some first mid last out_first out_now r.held k p came gave, refl), omega (arith, answered_calls, more_calls begun (k + 1) (event_calls c) cost (omega (arith, more))))

        pub reading_now : (r' : Reading) → Stays r r' n → r'.kinds ≡ r.kinds → IsReading m0 m' r' (k + 1) now
        reading_now r' stays kinds' =
            let s : (r'.given ≡ r.given + 1) × (r'.live ≡ true) = subst (Stays r r') is stays in
            record {
              code = same ∙ reading.code;
              factors = factors ∙ reading.factors;
              masses = masses ∙ reading.masses;
              are = subst (AreKindsOf c) (sym kinds') reading.are;
              live = s.1;
              given = s.0 ∙ ap (λ j. j + 1) reading.given;
              made = subst (λ ks. HasKinds ks now) (sym kinds') kept;
            }
