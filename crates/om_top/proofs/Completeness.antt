-- When a command is done, by cases on how it ended.
use Rattle.std.proofs.Common.{◌≡◌, ◌≢◌, ℕ, List, [], ◌∷◌, ◌++◌, Option, Some, None, IfSome, refl, ap, sym, ◌∙◌, subst, arith, inl, inr, append-nil}
use Rattle.std.specs.Prelude.{◌⊎◌, ◌↔◌}
use Rattle.om_ring.specs.Ops.{Ops}
use Rattle.om_io.specs.Bytes.{before_told}
use Rattle.om_model.specs.Diagrams.{AreDiagrams}
use Rattle.om_model.specs.Model.{scattering_of}
use Rattle.om_model.specs.Tree.{Tree}
use Rattle.om_model.specs.declared.model.Model.{Model}
use Rattle.om_model.specs.declared.process.Process.{Process}
use Rattle.om_graph.specs.declared.Graph.{Graph}
use Rattle.om_code.specs.declared.code.Code.{Code}
use Rattle.om_event.specs.Events.{Events, Legs, at_end, events_of}
use Rattle.om_event.specs.declared.kind.WaveKind.{WaveKind}
use Rattle.om_program_text.specs.ProgramText.{program_text}
use Rattle.om_top.specs.AnswerText.{no_amplitude}
use Rattle.om_ring.specs.Members.{In}
use Rattle.om_listing.specs.Listing.{listing}
use Rattle.om_top.specs.Causes.{AreAccepted, EventsCause, HasDiagram, ProgramEventsCause, RefusesEvents}
use Rattle.om_top.specs.CheckRan.{check_text}
use Rattle.om_top.specs.Complete.{CheckIsComplete, EvalCompletes, RunCompletes, EvalIsComplete, RunIsComplete, SampleIsComplete, WriteIsComplete}
use Rattle.om_top.specs.EvalRan.{EvalRan, Evaluates, OwesAnswer, process_kinds}
use Rattle.om_top.specs.Loads.{IsGraphOf, IsProgramFile}
use Rattle.om_top.specs.Message.{status_of}
use Rattle.om_top.specs.Outside.{Outside, Side, Failed, Gained, Gave, IsDone, IsUntouched, Writes}
use Rattle.om_top.specs.Refusals.{WithGraph, WithModel, WithProcess}
use Rattle.om_top.specs.RunRan.{OwesMeaning, RunRan, RunsCode}
use Rattle.om_top.specs.Streamed.{GainedLines, HasNoAmplitude, IsWhole, Streamed, UnlessNone, ended_by, kinds_of}
use Rattle.om_top.specs.WriteRan.{WritesNamed}
use Rattle.om_top.specs.declared.command.Written.{Written}
use Rattle.om_top.specs.declared.command.Written.TheVariants.{Program, Listing}
use Rattle.om_top.specs.declared.faults.event.EventFault.{EventFault}
use Rattle.om_top.specs.declared.faults.event.EventFault.TheVariants as fault
use Rattle.om_top.specs.declared.ending.Ending.{Ending}
use Rattle.om_top.specs.declared.ending.Ending.TheVariants.{Done, EventFault as Refused, InputFault, OutFault, NoMemory}
use Rattle.om_top.proofs.Accepted.{with_graph, with_model, with_process, with_program}
use Rattle.om_top.proofs.CauseLemmas.{other_status}

-- the rest of an input that is told
record Rest (after : Option (List ℕ)) (given bytes : List ℕ) : Type 0 where
  rest : List ℕ
  left : after ≡ Some rest
  all : bytes ≡ given ++ rest

rest_of : (before after : Option (List ℕ)) (given bytes : List ℕ) → before ≡ Some bytes → before ≡ before_told given after → Rest after given bytes
rest_of before None given bytes p q = cc
rest_of before (Some rest) given bytes p q = record { rest = rest; left = refl; all = cc }

none_left : (after : Option (List ℕ)) (rest : List ℕ) → after ≡ Some rest → IfSome after (λ r. r ≡ []) → rest ≡ []
none_left None rest e h = cc
none_left (Some r) rest e h = let k : r ≡ rest = cc in sym k ∙ h

ended_badly : (f : EventFault) → ended_by f ≢ at_end
ended_badly (fault.Bad n k cause) e = cc
ended_badly fault.TooMany e = cc

module _ {E : Type 0} (Owes : ℕ → Legs E → List ℕ → Type 0) (o : Ops E) (kinds : List WaveKind) (input out : Side) (bytes : List ℕ) (told : input.before ≡ Some bytes) where
  all_given : (given : List ℕ) → Gave input given → IsDone input → bytes ≡ given
  all_given given gave done =
      let r = rest_of input.before input.after given bytes told gave in
      r.all ∙ ap (λ (t : List ℕ). given ++ t) (none_left input.after r.rest r.left done) ∙ append-nil given

  whole_says : (given : List ℕ) → Gave input given → IsWhole Owes o kinds input out given → events_of o kinds bytes ≡ events_of o kinds given
  whole_says given gave w = elim w [
    | inl done ↦ ap (events_of o kinds) (all_given given gave done)
    | inr h ↦ (let r = rest_of input.before input.after given bytes told gave in ap (events_of o kinds) r.all ∙ h r.rest)
  ]

  module _ (ni : ¬ Failed input) (nw : ¬ Failed out) where
    -- the events are refused exactly where they are to be
    pub refused_events : (e : Ending) → Streamed Owes o kinds input out e → (status_of e ≡ 6) ↔ ((events_of o kinds bytes).ending ≢ at_end)
    refused_events Done (given, gave, h) =
        other_status (λ q. omega arith) (λ never. never (ap (λ (es : Events E). es.ending) (ap (events_of o kinds) (all_given given gave h.0)) ∙ h.1))
    refused_events (Refused f) (given, gave, h) =
        (λ q r. ended_badly f (sym h.1 ∙ ap (λ (es : Events E). es.ending) (sym (whole_says given gave h.0)) ∙ r), λ q. refl)
    refused_events InputFault (given, gave, h) = absurd (ni h.0)
    refused_events OutFault (given, gave, h) = absurd (nw h.0)
    refused_events e h = absurd h.2

    -- all events are answered
    pub answers_all : (e : Ending) → (events_of o kinds bytes).ending ≡ at_end → Streamed Owes o kinds input out e
        → (e ≡ Done) × (IsDone input × GainedLines Owes out (events_of o kinds bytes).events)
    answers_all Done ended (given, gave, h) =
        (refl, (h.0, subst (λ (t : List ℕ). GainedLines Owes out (events_of o kinds t).events) (sym (all_given given gave h.0)) h.2))
    answers_all (Refused f) ended (given, gave, h) = absurd (ended_badly f (sym h.1 ∙ ap (λ (es : Events E). es.ending) (sym (whole_says given gave h.0)) ∙ ended))
    answers_all InputFault ended (given, gave, h) = absurd (ni h.0)
    answers_all OutFault ended (given, gave, h) = absurd (nw h.0)
    answers_all e ended h = absurd h.2

-- without anything to answer by
none_six : (input out : Side) (e : Ending) → HasNoAmplitude input out e → status_of e ≢ 6
none_six input out Done h = λ q. omega arith
none_six input out OutFault h = λ q. omega arith
none_six input out e h = absurd h

says_none : (input out : Side) (e : Ending) → ¬ Failed out → HasNoAmplitude input out e → (e ≡ Done) × (IsUntouched input × Gained out no_amplitude)
says_none input out Done nw h = (refl, h)
says_none input out OutFault nw h = absurd (nw h.0)
says_none input out e nw h = absurd h

-- a text was written
text_written : (out : Side) (text : List ℕ) (e : Ending) → ¬ Failed out → Writes out text e → (e ≡ Done) × Gained out text
text_written out text Done nw w = (refl, w)
text_written out text OutFault nw w = absurd (nw w.0)
text_written out text e nw w = absurd w

all_written : (written : Written) (m : Model) (p : Process) (g : Graph) (out : Side) (e : Ending) → ¬ Failed out → WritesNamed written m p g out e → (e ≡ Done) × WritesNamed written m p g out Done
all_written Program m p g out e nw (is, c, code, range, w) = (let d = text_written out (program_text c) e nw w in (d.0, (is, c, code, range, d.1)))
all_written Listing m p g out e nw w = text_written out (listing m g) e nw w

some_left : {A : Type 0} (xs : List A) → xs ≢ [] → (input out : Side) (streamed : Ending → Type 0) (e : Ending) → UnlessNone xs input out streamed e → streamed e
some_left [] some input out streamed e h = absurd (some refl)
some_left (x ∷ xs) some input out streamed e h = h

none_there : {A : Type 0} (xs : List A) → xs ≡ [] → (input out : Side) (streamed : Ending → Type 0) (e : Ending) → UnlessNone xs input out streamed e → HasNoAmplitude input out e
none_there [] none input out streamed e h = h
none_there (x ∷ xs) none input out streamed e h = cc

module _ {E : Type 0} (o : Ops E) (show : E → List ℕ) where
  module _ (m : Model) (p : Process) (ts : List Tree) (are : AreDiagrams (scattering_of m p) ts) where
    some_trees : HasDiagram (scattering_of m p) → ts ≢ []
    some_trees (t, is) none = let i : In t ts = (are.members t).1 is in let j : In t [] = subst (λ (us : List Tree). In t us) none i in j

    no_trees : ¬ HasDiagram (scattering_of m p) → ts ≡ []
    no_trees never = by ts refl
      where
        by : (us : List Tree) → ts ≡ us → ts ≡ []
        by [] e = e
        by (t ∷ us) e = absurd (never (t, (are.members t).0 (subst (λ (vs : List Tree). In t vs) (sym e) (inl refl))))

  -- with an accepted model and process, what stands with a graph
  module _ (x : Outside) (e : Ending) (name text file : List ℕ) (m : Model) (p : Process) (told : (x.file name).before ≡ Some file) (accepted : AreAccepted o file text m p) (nf : ¬ Failed (x.file name)) where
    reached : (quiet : Type 0) (rest : Model → Process → Graph → Ending → Type 0) → WithModel o (x.file name) quiet (WithProcess text quiet (WithGraph quiet rest)) e
        → (e ≡ NoMemory) ⊎ ((g : Graph) × IsGraphOf m p g × rest m p g e)
    reached quiet rest ran = elim (with_model o (x.file name) file told m accepted.model quiet (WithProcess text quiet (WithGraph quiet rest)) e nf ran) [
      | inl none ↦ inl none
      | inr h ↦ inr (with_graph quiet rest m p accepted.graph e accepted.is_graph (with_process text quiet (WithGraph quiet rest) m p e accepted.process h))
    ]

    abbrev Reached : Type 0
    Reached = (e ≡ NoMemory) ⊎ ((g : Graph) × IsGraphOf m p g × Evaluates o show m p x.input x.out e)

    eval_reached : EvalRan o show (x.file name) text x.input x.out e → Reached
    eval_reached ran = reached (IsUntouched x.input × IsUntouched x.out) (λ m p g. Evaluates o show m p x.input x.out) ran

    abbrev by_model : Ending → Type 0
    by_model = Streamed (OwesAnswer o show m p) o (process_kinds o show m p) x.input x.out

    eval_completes : ¬ Failed x.out → Reached → EvalCompletes o show x e name text file m p
    eval_completes nw (inl none) = record { some = λ input d t ended ni. inr none; none = λ never. inr none }
    eval_completes nw (inr (g, is, (ts, are, h))) = record {
      some = λ input d t ended ni. inl (answers_all (OwesAnswer o show m p) o (process_kinds o show m p) x.input x.out input t ni nw e ended (some_left ts (some_trees m p ts are d) x.input x.out by_model e h));
      none = λ never. inl (says_none x.input x.out e nw (none_there ts (no_trees m p ts are never) x.input x.out by_model e h));
    }

    eval_refused : (input : List ℕ) → HasDiagram (scattering_of m p) → x.input.before ≡ Some input → ¬ Failed x.input → ¬ Failed x.out → e ≢ NoMemory → Reached → (status_of e ≡ 6) ↔ RefusesEvents o (process_kinds o show m p) input
    eval_refused input d t ni nw nm (inl none) = absurd (nm none)
    eval_refused input d t ni nw nm (inr (g, is, (ts, are, h))) =
        refused_events (OwesAnswer o show m p) o (process_kinds o show m p) x.input x.out input t ni nw e (some_left ts (some_trees m p ts are d) x.input x.out by_model e h)

    eval_not_refused : ¬ HasDiagram (scattering_of m p) → Reached → status_of e ≢ 6
    eval_not_refused never (inl none) = λ q. let six : status_of NoMemory ≡ 6 = subst (λ (y : Ending). status_of y ≡ 6) none q in omega arith
    eval_not_refused never (inr (g, is, (ts, are, h))) = none_six x.input x.out e (none_there ts (no_trees m p ts are never) x.input x.out by_model e h)

  pub eval_is_complete : EvalIsComplete o show
  eval_is_complete x e name text file m p ran told accepted nf nw = eval_completes x e name text file m p told accepted nf nw (eval_reached x e name text file m p told accepted nf ran)

  pub events_cause : EventsCause o show
  events_cause = record {
    some = λ x e name text file input m p ran told accepted d t nf ni nw nm. eval_refused x e name text file m p told accepted nf input d t ni nw nm (eval_reached x e name text file m p told accepted nf ran);
    none = λ x e name text file m p ran told accepted never nf. eval_not_refused x e name text file m p told accepted nf never (eval_reached x e name text file m p told accepted nf ran);
  }

  -- with a program
  module _ (x : Outside) (e : Ending) (c : Code) where
    abbrev RunReached : Type 0
    RunReached = (e ≡ NoMemory) ⊎ RunsCode o show c x.input x.out e

    abbrev by_code : Ending → Type 0
    by_code = Streamed (OwesMeaning o show c) o (kinds_of c.model.particles c.legs) x.input x.out

    run_completes : ¬ Failed x.out → RunReached → RunCompletes o show x e c
    run_completes nw (inl none) = record { some = λ input d t ended ni. inr none; none = λ never. inr none }
    run_completes nw (inr h) = record {
      some = λ input d t ended ni. inl (answers_all (OwesMeaning o show c) o (kinds_of c.model.particles c.legs) x.input x.out input t ni nw e ended (some_left c.flows d x.input x.out by_code e h));
      none = λ never. inl (says_none x.input x.out e nw (none_there c.flows never x.input x.out by_code e h));
    }

    run_refused : (input : List ℕ) → c.flows ≢ [] → x.input.before ≡ Some input → ¬ Failed x.input → ¬ Failed x.out → e ≢ NoMemory → RunReached → (status_of e ≡ 6) ↔ RefusesEvents o (kinds_of c.model.particles c.legs) input
    run_refused input d t ni nw nm (inl none) = absurd (nm none)
    run_refused input d t ni nw nm (inr h) =
        refused_events (OwesMeaning o show c) o (kinds_of c.model.particles c.legs) x.input x.out input t ni nw e (some_left c.flows d x.input x.out by_code e h)

    run_not_refused : c.flows ≡ [] → RunReached → status_of e ≢ 6
    run_not_refused never (inl none) = λ q. let six : status_of NoMemory ≡ 6 = subst (λ (y : Ending). status_of y ≡ 6) none q in omega arith
    run_not_refused never (inr h) = none_six x.input x.out e (none_there c.flows never x.input x.out by_code e h)

  run_reached : (x : Outside) (e : Ending) (name file : List ℕ) (c : Code) → RunRan o show (x.file name) x.input x.out e → (x.file name).before ≡ Some file → IsProgramFile o file c → ¬ Failed (x.file name) → RunReached x e c
  run_reached x e name file c ran told is nf = with_program o (x.file name) file told c is (IsUntouched x.input × IsUntouched x.out) (λ c. RunsCode o show c x.input x.out) e nf ran

  pub run_is_complete : RunIsComplete o show
  run_is_complete x e name file c ran told is nf nw = run_completes x e c nw (run_reached x e name file c ran told is nf)

  pub program_events_cause : ProgramEventsCause o show
  program_events_cause = record {
    some = λ x e name file input c ran told is some t nf ni nw nm. run_refused x e c input some t ni nw nm (run_reached x e name file c ran told is nf);
    none = λ x e name file c ran told is none nf. run_not_refused x e c none (run_reached x e name file c ran told is nf);
  }

  pub check_is_complete : CheckIsComplete o show
  check_is_complete x e name file m ran told is nf nw = elim (with_model o (x.file name) file told m is (IsUntouched x.out) (λ m. Writes x.out (check_text m)) e nf ran.1) [
    | inl none ↦ inr none
    | inr w ↦ inl (text_written x.out (check_text m) e nw w)
  ]

  pub write_is_complete : WriteIsComplete o show
  write_is_complete x e written name text file m p ran told accepted nf nw =
      elim (reached x e name text file m p told accepted nf (IsUntouched x.out) (λ m p g. WritesNamed written m p g x.out) ran.1) [
        | inl none ↦ inr none
        | inr h ↦ (let w = all_written written m p h.0 x.out e nw h.2 in inl (w.0, (h.0, h.1, w.1)))
      ]

  pub sample_is_complete : SampleIsComplete o show
  sample_is_complete x NoMemory seed legs ran nw = inr refl
  sample_is_complete x Done seed legs ran nw = inl (refl, ran.1)
  sample_is_complete x OutFault seed legs ran nw = absurd (nw ran.1.3.0)
  sample_is_complete x e seed legs ran nw = absurd ran.1.3
