-- The forms that what a command leaves has, and the endings that come with each.
use Rattle.std.proofs.Common.{◌≡◌, ◌≢◌, ℕ, false, List, [], ◌∷◌, Some, refl, arith}
use Rattle.om_ring.specs.Ops.{Ops}
use Rattle.om_model.specs.declared.model.Model.{Model}
use Rattle.om_model.specs.declared.process.Process.{Process}
use Rattle.om_graph.specs.declared.Graph.{Graph}
use Rattle.om_event.specs.Events.{Legs}
use Rattle.om_event.specs.declared.kind.WaveKind.{WaveKind}
use Rattle.om_program_text.specs.ProgramText.{program_text}
use Rattle.om_listing.specs.Listing.{listing}
use Rattle.om_top.specs.Causes.{is_quiet, model_name, process_text}
use Rattle.om_top.specs.CheckRan.{check_text}
use Rattle.om_top.specs.Command.{Command, check, eval, write, run, sample}
use Rattle.om_top.specs.EvalRan.{Evaluates, OwesAnswer, process_kinds}
use Rattle.om_top.specs.Message.{status_of}
use Rattle.om_top.specs.Outside.{Outside, Side, IsUntouched, Writes}
use Rattle.om_top.specs.Ran.{Ran}
use Rattle.om_top.specs.Refusals.{WithModel, WithProcess, WithGraph}
use Rattle.om_top.specs.Streamed.{HasNoAmplitude, Streamed, UnlessNone}
use Rattle.om_top.specs.WriteRan.{WritesNamed}
use Rattle.om_top.specs.declared.command.Written.{Written}
use Rattle.om_top.specs.declared.command.Written.TheVariants.{Program, Listing}
use Rattle.om_top.specs.declared.ending.Ending.{Ending}
use Rattle.om_top.specs.declared.ending.Ending.TheVariants.{Done, ProcessFault, GraphTooLarge, EventFault, InputFault, OutFault}

-- no status of an ending that isn't quiet
abbrev pub NotOwn : ℕ → Type 0
NotOwn n = (0 ≢ n) × (6 ≢ n) × (7 ≢ n) × (8 ≢ n)

pub other_own : (e : Ending) (n : ℕ) → NotOwn n → is_quiet e ≡ false → status_of e ≢ n
other_own Done n h own = h.0
other_own (EventFault fault) n h own = h.1
other_own InputFault n h own = h.2
other_own OutFault n h own = h.3
other_own e n h own = cc

pub not_three : NotOwn 3
not_three = (λ q. omega arith, λ q. omega arith, λ q. omega arith, λ q. omega arith)

pub not_four : NotOwn 4
not_four = (λ q. omega arith, λ q. omega arith, λ q. omega arith, λ q. omega arith)

pub not_five : NotOwn 5
not_five = (λ q. omega arith, λ q. omega arith, λ q. omega arith, λ q. omega arith)

pub not_nine : NotOwn 9
not_nine = (λ q. omega arith, λ q. omega arith, λ q. omega arith, λ q. omega arith)

-- a text was written
pub own_writes : (out : Side) (text : List ℕ) (e : Ending) → Writes out text e → is_quiet e ≡ false
own_writes out text Done w = refl
own_writes out text OutFault w = refl
own_writes out text e w = absurd w

-- of a process some text was written
pub written_text : (written : Written) (m : Model) (p : Process) (g : Graph) (out : Side) (e : Ending) → WritesNamed written m p g out e → (text : List ℕ) × Writes out text e
written_text Program m p g out e h = (program_text h.1, h.4)
written_text Listing m p g out e h = (listing m g, h)

pub own_written : (written : Written) (m : Model) (p : Process) (g : Graph) (out : Side) (e : Ending) → WritesNamed written m p g out e → is_quiet e ≡ false
own_written written m p g out e h = let w = written_text written m p g out e h in own_writes out w.0 e w.1

-- events were answered
pub own_streamed : {E : Type 0} (Owes : ℕ → Legs E → List ℕ → Type 0) (o : Ops E) (kinds : List WaveKind) (input out : Side) (e : Ending) → Streamed Owes o kinds input out e → is_quiet e ≡ false
own_streamed Owes o kinds input out Done h = refl
own_streamed Owes o kinds input out (EventFault fault) h = refl
own_streamed Owes o kinds input out InputFault h = refl
own_streamed Owes o kinds input out OutFault h = refl
own_streamed Owes o kinds input out e h = absurd h.2

own_line : (input out : Side) (e : Ending) → HasNoAmplitude input out e → is_quiet e ≡ false
own_line input out Done h = refl
own_line input out OutFault h = refl
own_line input out e h = absurd h

pub own_unless : {A : Type 0} (xs : List A) (input out : Side) (streamed : Ending → Type 0) (e : Ending) → (streamed e → is_quiet e ≡ false) → UnlessNone xs input out streamed e → is_quiet e ≡ false
own_unless [] input out streamed e own h = own_line input out e h
own_unless (x ∷ xs) input out streamed e own h = own h

module _ {E : Type 0} (o : Ops E) (show : E → List ℕ) where
  -- what a command leaves that begins with a model, a process and its graph
  pub record GoesByGraph (name text : List ℕ) (x : Outside) (e : Ending) : Type 1 where
    pub quiet : Type 0
    pub rest : Model → Process → Graph → Ending → Type 0
    pub own : (m : Model) (p : Process) (g : Graph) → rest m p g e → is_quiet e ≡ false
    pub ran : WithModel o (x.file name) quiet (WithProcess text quiet (WithGraph quiet rest)) e

  -- what a command leaves that begins with a model
  pub record GoesByModel (name : List ℕ) (x : Outside) (e : Ending) : Type 1 where
    pub quiet : Type 0
    pub rest : Model → Ending → Type 0
    pub other : (m : Model) → rest m e → status_of e ≢ 3
    pub ran : WithModel o (x.file name) quiet rest e

  pub own_evaluates : (m : Model) (p : Process) (input out : Side) (e : Ending) → Evaluates o show m p input out e → is_quiet e ≡ false
  own_evaluates m p input out e h = own_unless h.0 input out (Streamed (OwesAnswer o show m p) o (process_kinds o show m p) input out) e (own_streamed (OwesAnswer o show m p) o (process_kinds o show m p) input out e) h.2

  pub by_graph : (command : Command) (x : Outside) (e : Ending) (name text : List ℕ) → Ran o show (Some command) x e → model_name command ≡ Some name → process_text command ≡ Some text → GoesByGraph name text x e
  by_graph (check model) x e name text ran n t = cc
  by_graph (run program) x e name text ran n t = cc
  by_graph (sample seed legs) x e name text ran n t = cc
  by_graph (eval model process) x e name text ran n t =
      let p : model ≡ name = cc in let q : process ≡ text = cc in
      record {
        quiet = IsUntouched x.input × IsUntouched x.out;
        rest = λ m p g. Evaluates o show m p x.input x.out;
        own = λ m p g h. own_evaluates m p x.input x.out e h;
        ran = rw p at (rw q at ran);
      }
  by_graph (write written model process) x e name text ran n t =
      let p : model ≡ name = cc in let q : process ≡ text = cc in
      record {
        quiet = IsUntouched x.out;
        rest = λ m p g. WritesNamed written m p g x.out;
        own = λ m p g h. own_written written m p g x.out e h;
        ran = rw p at (rw q at ran.1);
      }

  -- a process wasn't refused by its model
  never_three : (text : List ℕ) (quiet : Type 0) (rest : Model → Process → Graph → Ending → Type 0) (e : Ending) → ((m : Model) (p : Process) (g : Graph) → rest m p g e → is_quiet e ≡ false)
      → (m : Model) → WithProcess text quiet (WithGraph quiet rest) m e → status_of e ≢ 3
  never_three text quiet rest (ProcessFault fault) own m h = λ q. omega arith
  never_three text quiet rest GraphTooLarge own m h = λ q. omega arith
  never_three text quiet rest e own m h = other_own e 3 not_three (own m h.0 h.2.0 h.2.2)

  graph_model : (name text : List ℕ) (x : Outside) (e : Ending) → GoesByGraph name text x e → GoesByModel name x e
  graph_model name text x e g = record { quiet = g.quiet; rest = WithProcess text g.quiet (WithGraph g.quiet g.rest); other = never_three text g.quiet g.rest e g.own; ran = g.ran }

  pub by_model : (command : Command) (x : Outside) (e : Ending) (name : List ℕ) → Ran o show (Some command) x e → model_name command ≡ Some name → GoesByModel name x e
  by_model (run program) x e name ran n = cc
  by_model (sample seed legs) x e name ran n = cc
  by_model (check model) x e name ran n =
      let p : model ≡ name = cc in
      record { quiet = IsUntouched x.out; rest = λ m e. Writes x.out (check_text m) e; other = λ m h. other_own e 3 not_three (own_writes x.out (check_text m) e h); ran = rw p at ran.1 }
  by_model (eval model process) x e name ran n = graph_model name process x e (by_graph (eval model process) x e name process ran n refl)
  by_model (write written model process) x e name ran n = graph_model name process x e (by_graph (write written model process) x e name process ran n refl)
