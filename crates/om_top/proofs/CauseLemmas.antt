-- When each refusal and each fault comes, by cases on how a run ended.
use Rattle.std.proofs.Common.{◌≡◌, ◌≢◌, ℕ, true, false, List, Some, None, refl, subst, arith, inl, inr}
use Rattle.std.specs.Prelude.{◌↔◌}
use Rattle.om_ring.specs.Ops.{Ops}
use Rattle.om_model.specs.declared.model.Model.{Model}
use Rattle.om_model.specs.declared.process.Process.{Process}
use Rattle.om_graph.specs.declared.Graph.{Graph}
use Rattle.om_code.specs.declared.code.Code.{Code}
use Rattle.om_top.specs.CheckRan.{check_text}
use Rattle.om_top.specs.EvalRan.{Evaluates}
use Rattle.om_top.specs.SampleRan.{SampleRan}
use Rattle.om_top.specs.Causes.{ModelCause, ProcessCause, QuietEndings, SizeCause, ProgramCause, RefusesModel, RefusesProcess, RefusesProgram, is_quiet}
use Rattle.om_top.specs.Command.{check, eval, write, run, sample}
use Rattle.om_top.specs.Loads.{HoldsModel, HoldsProgram, IsModelFile, IsProgramFile, IsTooLarge, SaysFault, SaysProgramFault}
use Rattle.om_top.specs.Message.{status_of}
use Rattle.om_top.specs.Outside.{Side, Failed, IsUntouched, Writes}
use Rattle.om_top.specs.Refusals.{WithModel, WithProcess, WithGraph, WithProgram}
use Rattle.om_top.specs.RunRan.{OwesMeaning, RunsCode}
use Rattle.om_top.specs.Streamed.{Streamed, kinds_of}
use Rattle.om_top.specs.WriteRan.{WritesNamed}
use Rattle.om_top.specs.declared.ending.Ending.{Ending}
use Rattle.om_top.specs.declared.ending.Ending.TheVariants.{Done, OutFault, Usage, ModelTooLong, ModelFault, ProcessFault, GraphTooLarge, ProgramTooLong, ProgramFault, FileFault, NoMemory}
use Rattle.om_top.specs.declared.load.model.TheConstants.{MOST_MODEL_BYTES}
use Rattle.om_top.specs.declared.load.program.TheConstants.{MOST_PROGRAM_BYTES}
use Rattle.om_top.proofs.Accepted.{holds_file, holds_text, never_large, no_program_fault, told_file, told_long, with_model, with_process}
use Rattle.om_top.proofs.Endings.{by_graph, by_model, not_five, not_four, not_nine, other_own, own_evaluates, own_streamed, own_unless, own_writes, own_written}
use Rattle.om_top.proofs.Files.{no_fault}

-- the status is another one
pub other_status : {P : Type 0} {a b : ℕ} → (a ≡ b → ⊥) → (P → ⊥) → (a ≡ b) ↔ P
other_status other never = (λ e. absurd (other e), λ h. absurd (never h))

module _ {E : Type 0} (o : Ops E) (file : Side) (bytes : List ℕ) (told : file.before ≡ Some bytes) (nf : ¬ Failed file) where
  -- a file that holds a model is not refused
  not_refused : (m : Model) → HoldsModel o file m → RefusesModel o bytes → ⊥
  not_refused m holds refused =
      let is_file : IsModelFile o bytes m = holds_file o file bytes told m holds in
      elim refused [ inl long ↦ (let few = is_file.within in absurd (omega arith)) | inr h ↦ no_fault o bytes m h.0 is_file.says h.1 ]

  model_refused : (quiet : Type 0) (rest : Model → Ending → Type 0) (e : Ending) → ((m : Model) → rest m e → status_of e ≢ 3) → e ≢ NoMemory → WithModel o file quiet rest e → (status_of e ≡ 3) ↔ RefusesModel o bytes
  model_refused quiet rest ModelTooLong other nm (long, q) = (λ e. inl (told_long MOST_MODEL_BYTES file.before bytes told long), λ h. refl)
  model_refused quiet rest (ModelFault fault) other nm ((held, holds, faulty), q) =
      (λ e. inr (fault, subst (λ (t : List ℕ). SaysFault o t fault) (told_file file.before bytes held told holds) faulty.says), λ h. refl)
  model_refused quiet rest FileFault other nm (failed, q) = absurd (nf failed)
  model_refused quiet rest NoMemory other nm ran = absurd (nm refl)
  model_refused quiet rest e other nm ran = other_status (other ran.0 ran.2) (not_refused ran.0 ran.1)

  -- nor one that holds a program
  program_fits : (c : Code) → HoldsProgram o file c → RefusesProgram o bytes → ⊥
  program_fits c holds refused =
      let is_file : IsProgramFile o bytes c = holds_text o file bytes told c holds in
      elim refused [ inl long ↦ (let few = is_file.within in absurd (omega arith)) | inr h ↦ no_program_fault o bytes c h.0 is_file.says h.1 ]

  program_refused : (quiet : Type 0) (rest : Code → Ending → Type 0) (e : Ending) → ((c : Code) → rest c e → status_of e ≢ 5) → e ≢ NoMemory → WithProgram o file quiet rest e → (status_of e ≡ 5) ↔ RefusesProgram o bytes
  program_refused quiet rest ProgramTooLong other nm (long, q) = (λ e. inl (told_long MOST_PROGRAM_BYTES file.before bytes told long), λ h. refl)
  program_refused quiet rest (ProgramFault fault) other nm ((held, holds, faulty), q) =
      (λ e. inr (fault, subst (λ (t : List ℕ). SaysProgramFault o t fault) (told_file file.before bytes held told holds) faulty.says), λ h. refl)
  program_refused quiet rest FileFault other nm (failed, q) = absurd (nf failed)
  program_refused quiet rest NoMemory other nm ran = absurd (nm refl)
  program_refused quiet rest e other nm ran = other_status (other ran.0 ran.2) (program_fits ran.0 ran.1)

-- with a model
process_refused : (text : List ℕ) (quiet : Type 0) (rest : Model → Process → Graph → Ending → Type 0) (m : Model) (e : Ending) → ((m : Model) (p : Process) (g : Graph) → rest m p g e → is_quiet e ≡ false)
    → WithProcess text quiet (WithGraph quiet rest) m e → (status_of e ≡ 4) ↔ RefusesProcess m text
process_refused text quiet rest m (ProcessFault fault) own (says, q) = (λ e. (fault, says), λ h. refl)
process_refused text quiet rest m GraphTooLarge own h = other_status (λ q. omega arith) (λ f. let w = f.1 in let says = h.1 in cc)
process_refused text quiet rest m e own h = other_status (other_own e 4 not_four (own m h.0 h.2.0 h.2.2)) (λ f. let w = f.1 in let says = h.1 in cc)

-- with a process too
size_refused : (quiet : Type 0) (rest : Model → Process → Graph → Ending → Type 0) (m : Model) (p : Process) (e : Ending)
    → ((m : Model) (p : Process) (g : Graph) → rest m p g e → is_quiet e ≡ false) → WithGraph quiet rest m p e → (status_of e ≡ 9) ↔ IsTooLarge m p
size_refused quiet rest m p GraphTooLarge own h = (λ e. h.0, λ large. refl)
size_refused quiet rest m p e own h = other_status (other_own e 9 not_nine (own m p h.0 h.2)) (λ large. never_large m p h.0 h.1 large)

module _ {E : Type 0} (o : Ops E) (show : E → List ℕ) where
  pub model_cause : ModelCause o show
  model_cause command x e name file ran n told nf nm =
      let g = by_model o show command x e name ran n in
      model_refused o (x.file name) file told nf g.quiet g.rest e g.other nm g.ran

  pub process_cause : ProcessCause o show
  process_cause command x e name text file m ran n t told nf nm is_file =
      let g = by_graph o show command x e name text ran n t in
      elim (with_model o (x.file name) file told m is_file g.quiet (WithProcess text g.quiet (WithGraph g.quiet g.rest)) e nf g.ran) [
        | inl none ↦ absurd (nm none)
        | inr h ↦ process_refused text g.quiet g.rest m e g.own h
      ]

  pub size_cause : SizeCause o show
  size_cause command x e name text file m p ran n t told nf nm is_file says =
      let g = by_graph o show command x e name text ran n t in
      elim (with_model o (x.file name) file told m is_file g.quiet (WithProcess text g.quiet (WithGraph g.quiet g.rest)) e nf g.ran) [
        | inl none ↦ absurd (nm none)
        | inr h ↦ size_refused g.quiet g.rest m p e g.own (with_process text g.quiet (WithGraph g.quiet g.rest) m p e says h)
      ]

  pub own_runs : (c : Code) (input out : Side) (e : Ending) → RunsCode o show c input out e → is_quiet e ≡ false
  own_runs c input out e h = own_unless c.flows input out (Streamed (OwesMeaning o show c) o (kinds_of c.model.particles c.legs) input out) e (own_streamed (OwesMeaning o show c) o (kinds_of c.model.particles c.legs) input out e) h

  pub program_cause : ProgramCause o show
  program_cause x e name file ran told nf nm =
      program_refused o (x.file name) file told nf (IsUntouched x.input × IsUntouched x.out) (λ c. RunsCode o show c x.input x.out) e (λ c h. other_own e 5 not_five (own_runs c x.input x.out e h)) nm ran

-- the quiet of a command that begins with a graph
quiet_graph : {E : Type 0} (o : Ops E) (file : Side) (text : List ℕ) (quiet : Type 0) (rest : Model → Process → Graph → Ending → Type 0) (e : Ending)
    → ((m : Model) (p : Process) (g : Graph) → rest m p g e → is_quiet e ≡ false) → WithModel o file quiet (WithProcess text quiet (WithGraph quiet rest)) e → is_quiet e ≡ true → quiet
quiet_graph o file text quiet rest ModelTooLong own h q = h.1
quiet_graph o file text quiet rest (ModelFault fault) own h q = h.1
quiet_graph o file text quiet rest FileFault own h q = h.1
quiet_graph o file text quiet rest NoMemory own h q = h
quiet_graph o file text quiet rest (ProcessFault fault) own h q = h.2.1
quiet_graph o file text quiet rest GraphTooLarge own h q = h.2.2.1
quiet_graph o file text quiet rest e own h q = let f : is_quiet e ≡ false = own h.0 h.2.0 h.2.2.0 h.2.2.2 in cc

quiet_model : {E : Type 0} (o : Ops E) (file : Side) (quiet : Type 0) (rest : Model → Ending → Type 0) (e : Ending)
    → ((m : Model) → rest m e → is_quiet e ≡ false) → WithModel o file quiet rest e → is_quiet e ≡ true → quiet
quiet_model o file quiet rest ModelTooLong own h q = h.1
quiet_model o file quiet rest (ModelFault fault) own h q = h.1
quiet_model o file quiet rest FileFault own h q = h.1
quiet_model o file quiet rest NoMemory own h q = h
quiet_model o file quiet rest e own h q = let f : is_quiet e ≡ false = own h.0 h.2 in cc

quiet_program : {E : Type 0} (o : Ops E) (file : Side) (quiet : Type 0) (rest : Code → Ending → Type 0) (e : Ending)
    → ((c : Code) → rest c e → is_quiet e ≡ false) → WithProgram o file quiet rest e → is_quiet e ≡ true → quiet
quiet_program o file quiet rest ProgramTooLong own h q = h.1
quiet_program o file quiet rest (ProgramFault fault) own h q = h.1
quiet_program o file quiet rest FileFault own h q = h.1
quiet_program o file quiet rest NoMemory own h q = h
quiet_program o file quiet rest e own h q = let f : is_quiet e ≡ false = own h.0 h.2 in cc

module _ {E : Type 0} (o : Ops E) (show : E → List ℕ) where
  quiet_sample : (seed legs : ℕ) (out : Side) (e : Ending) → SampleRan o show seed legs out e → is_quiet e ≡ true → IsUntouched out
  quiet_sample seed legs out NoMemory h q = h
  quiet_sample seed legs out Done h q = cc
  quiet_sample seed legs out OutFault h q = cc
  quiet_sample seed legs out e h q = absurd h.3

  pub quiet_endings : QuietEndings o show
  quiet_endings None x Usage ran q = ran
  quiet_endings None x e ran q = absurd ran
  quiet_endings (Some (check name)) x e ran q = (ran.0, quiet_model o (x.file name) (IsUntouched x.out) (λ m. Writes x.out (check_text m)) e (λ m h. own_writes x.out (check_text m) e h) ran.1 q)
  quiet_endings (Some (eval name text)) x e ran q =
      quiet_graph o (x.file name) text (IsUntouched x.input × IsUntouched x.out) (λ m p g. Evaluates o show m p x.input x.out) e (λ m p g h. own_evaluates o show m p x.input x.out e h) ran q
  quiet_endings (Some (write written name text)) x e ran q =
      (ran.0, quiet_graph o (x.file name) text (IsUntouched x.out) (λ m p g. WritesNamed written m p g x.out) e (λ m p g h. own_written written m p g x.out e h) ran.1 q)
  quiet_endings (Some (run name)) x e ran q =
      quiet_program o (x.file name) (IsUntouched x.input × IsUntouched x.out) (λ c. RunsCode o show c x.input x.out) e (λ c h. own_runs o show c x.input x.out e h) ran q
  quiet_endings (Some (sample seed legs)) x e ran q = (ran.0, quiet_sample seed legs x.out e ran.1 q)
