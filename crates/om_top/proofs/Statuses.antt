-- The statuses with which the commands end.
use Rattle.std.proofs.Common.{◌≡◌, ℕ, false, List, [], ◌∷◌, refl, inl, inr}
use Rattle.om_ring.specs.Ops.{Ops}
use Rattle.om_ring.specs.Members.{In}
use Rattle.om_model.specs.declared.model.Model.{Model}
use Rattle.om_model.specs.declared.process.Process.{Process}
use Rattle.om_graph.specs.declared.Graph.{Graph}
use Rattle.om_code.specs.declared.code.Code.{Code}
use Rattle.om_top.specs.Causes.{CommandEndings, is_quiet}
use Rattle.om_top.specs.CheckRan.{check_text}
use Rattle.om_top.specs.Command.{check, eval, write, run, sample}
use Rattle.om_top.specs.EvalRan.{Evaluates}
use Rattle.om_top.specs.Message.{status_of}
use Rattle.om_top.specs.Outside.{Side, IsUntouched, Writes}
use Rattle.om_top.specs.Refusals.{WithModel, WithProcess, WithGraph, WithProgram}
use Rattle.om_top.specs.RunRan.{RunsCode}
use Rattle.om_top.specs.SampleRan.{SampleRan}
use Rattle.om_top.specs.WriteRan.{WritesNamed}
use Rattle.om_top.specs.declared.ending.Ending.{Ending}
use Rattle.om_top.specs.declared.ending.Ending.TheVariants.{Done, ModelTooLong, ModelFault, ProcessFault, GraphTooLarge, ProgramTooLong, ProgramFault, EventFault, FileFault, InputFault, OutFault, NoMemory}
use Rattle.om_top.proofs.CauseLemmas.{own_runs}
use Rattle.om_top.proofs.Endings.{own_evaluates, written_text}

own_eval : (e : Ending) → is_quiet e ≡ false → In (status_of e) (0 ∷ 3 ∷ 4 ∷ 6 ∷ 7 ∷ 8 ∷ 9 ∷ 10 ∷ [])
own_eval Done h = inl refl
own_eval (EventFault fault) h = inr (inr (inr (inl refl)))
own_eval InputFault h = inr (inr (inr (inr (inl refl))))
own_eval OutFault h = inr (inr (inr (inr (inr (inl refl)))))
own_eval e h = cc

own_run : (e : Ending) → is_quiet e ≡ false → In (status_of e) (0 ∷ 5 ∷ 6 ∷ 7 ∷ 8 ∷ 10 ∷ [])
own_run Done h = inl refl
own_run (EventFault fault) h = inr (inr (inl refl))
own_run InputFault h = inr (inr (inr (inl refl)))
own_run OutFault h = inr (inr (inr (inr (inl refl))))
own_run e h = cc

writes_writes : (out : Side) (text : List ℕ) (e : Ending) → Writes out text e → In (status_of e) (0 ∷ 3 ∷ 4 ∷ 7 ∷ 8 ∷ 9 ∷ 10 ∷ [])
writes_writes out text Done h = inl refl
writes_writes out text OutFault h = inr (inr (inr (inr (inl refl))))
writes_writes out text e h = absurd h

writes_check : (out : Side) (text : List ℕ) (e : Ending) → Writes out text e → In (status_of e) (0 ∷ 3 ∷ 7 ∷ 8 ∷ 10 ∷ [])
writes_check out text Done h = inl refl
writes_check out text OutFault h = inr (inr (inr (inl refl)))
writes_check out text e h = absurd h

graph_eval : {E : Type 0} (o : Ops E) (file : Side) (text : List ℕ) (quiet : Type 0) (rest : Model → Process → Graph → Ending → Type 0) (e : Ending)
    → ((m : Model) (p : Process) (g : Graph) → rest m p g e → In (status_of e) (0 ∷ 3 ∷ 4 ∷ 6 ∷ 7 ∷ 8 ∷ 9 ∷ 10 ∷ [])) → WithModel o file quiet (WithProcess text quiet (WithGraph quiet rest)) e → In (status_of e) (0 ∷ 3 ∷ 4 ∷ 6 ∷ 7 ∷ 8 ∷ 9 ∷ 10 ∷ [])
graph_eval o file text quiet rest ModelTooLong own h = inr (inl refl)
graph_eval o file text quiet rest (ModelFault fault) own h = inr (inl refl)
graph_eval o file text quiet rest FileFault own h = inr (inr (inr (inr (inl refl))))
graph_eval o file text quiet rest NoMemory own h = inr (inr (inr (inr (inr (inr (inr (inl refl)))))))
graph_eval o file text quiet rest (ProcessFault fault) own h = inr (inr (inl refl))
graph_eval o file text quiet rest GraphTooLarge own h = inr (inr (inr (inr (inr (inr (inl refl))))))
graph_eval o file text quiet rest e own h = own h.0 h.2.0 h.2.2.0 h.2.2.2

graph_writes : {E : Type 0} (o : Ops E) (file : Side) (text : List ℕ) (quiet : Type 0) (rest : Model → Process → Graph → Ending → Type 0) (e : Ending)
    → ((m : Model) (p : Process) (g : Graph) → rest m p g e → In (status_of e) (0 ∷ 3 ∷ 4 ∷ 7 ∷ 8 ∷ 9 ∷ 10 ∷ [])) → WithModel o file quiet (WithProcess text quiet (WithGraph quiet rest)) e → In (status_of e) (0 ∷ 3 ∷ 4 ∷ 7 ∷ 8 ∷ 9 ∷ 10 ∷ [])
graph_writes o file text quiet rest ModelTooLong own h = inr (inl refl)
graph_writes o file text quiet rest (ModelFault fault) own h = inr (inl refl)
graph_writes o file text quiet rest FileFault own h = inr (inr (inr (inl refl)))
graph_writes o file text quiet rest NoMemory own h = inr (inr (inr (inr (inr (inr (inl refl))))))
graph_writes o file text quiet rest (ProcessFault fault) own h = inr (inr (inl refl))
graph_writes o file text quiet rest GraphTooLarge own h = inr (inr (inr (inr (inr (inl refl)))))
graph_writes o file text quiet rest e own h = own h.0 h.2.0 h.2.2.0 h.2.2.2

model_check : {E : Type 0} (o : Ops E) (file : Side) (quiet : Type 0) (rest : Model → Ending → Type 0) (e : Ending)
    → ((m : Model) → rest m e → In (status_of e) (0 ∷ 3 ∷ 7 ∷ 8 ∷ 10 ∷ [])) → WithModel o file quiet rest e → In (status_of e) (0 ∷ 3 ∷ 7 ∷ 8 ∷ 10 ∷ [])
model_check o file quiet rest ModelTooLong own h = inr (inl refl)
model_check o file quiet rest (ModelFault fault) own h = inr (inl refl)
model_check o file quiet rest FileFault own h = inr (inr (inl refl))
model_check o file quiet rest NoMemory own h = inr (inr (inr (inr (inl refl))))
model_check o file quiet rest e own h = own h.0 h.2

program_run : {E : Type 0} (o : Ops E) (file : Side) (quiet : Type 0) (rest : Code → Ending → Type 0) (e : Ending)
    → ((c : Code) → rest c e → In (status_of e) (0 ∷ 5 ∷ 6 ∷ 7 ∷ 8 ∷ 10 ∷ [])) → WithProgram o file quiet rest e → In (status_of e) (0 ∷ 5 ∷ 6 ∷ 7 ∷ 8 ∷ 10 ∷ [])
program_run o file quiet rest ProgramTooLong own h = inr (inl refl)
program_run o file quiet rest (ProgramFault fault) own h = inr (inl refl)
program_run o file quiet rest FileFault own h = inr (inr (inr (inl refl)))
program_run o file quiet rest NoMemory own h = inr (inr (inr (inr (inr (inl refl)))))
program_run o file quiet rest e own h = own h.0 h.2

module _ {E : Type 0} (o : Ops E) (show : E → List ℕ) where
  of_sample : (seed legs : ℕ) (out : Side) (e : Ending) → SampleRan o show seed legs out e → In (status_of e) (0 ∷ 8 ∷ 10 ∷ [])
  of_sample seed legs out NoMemory h = inr (inr (inl refl))
  of_sample seed legs out Done h = inl refl
  of_sample seed legs out OutFault h = inr (inl refl)
  of_sample seed legs out e h = absurd h.3

  pub command_endings : CommandEndings o show
  command_endings (check name) x e ran = model_check o (x.file name) (IsUntouched x.out) (λ m. Writes x.out (check_text m)) e (λ m h. writes_check x.out (check_text m) e h) ran.1
  command_endings (eval name text) x e ran =
      graph_eval o (x.file name) text (IsUntouched x.input × IsUntouched x.out) (λ m p g. Evaluates o show m p x.input x.out) e (λ m p g h. own_eval e (own_evaluates o show m p x.input x.out e h)) ran
  command_endings (write written name text) x e ran =
      graph_writes o (x.file name) text (IsUntouched x.out) (λ m p g. WritesNamed written m p g x.out) e (λ m p g h. (let w = written_text written m p g x.out e h in writes_writes x.out w.0 e w.1)) ran.1
  command_endings (run name) x e ran = program_run o (x.file name) (IsUntouched x.input × IsUntouched x.out) (λ c. RunsCode o show c x.input x.out) e (λ c h. own_run e (own_runs o show c x.input x.out e h)) ran
  command_endings (sample seed legs) x e ran = of_sample seed legs x.out e ran.1
