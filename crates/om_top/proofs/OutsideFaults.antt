-- Faults of the outside, and the statuses of the commands.
use Rattle.std.proofs.Common.{◌≡◌, ◌≢◌, ℕ, List, [], ◌∷◌, Some, refl, subst, inl}
use Rattle.om_ring.specs.Ops.{Ops}
use Rattle.om_model.specs.Model.{scattering_of}
use Rattle.om_model.specs.declared.model.Model.{Model}
use Rattle.om_model.specs.declared.process.Process.{Process}
use Rattle.om_colour.specs.declared.Flow.{Flow}
use Rattle.om_top.specs.Causes.{FaultCauses, FaultsHaveCauses, HasDiagram}
use Rattle.om_top.specs.Command.{check, eval, write, run, sample}
use Rattle.om_top.specs.CheckRan.{CheckRan}
use Rattle.om_top.specs.EvalRan.{EvalRan, Evaluates}
use Rattle.om_top.specs.SampleRan.{SampleRan}
use Rattle.om_top.specs.Outside.{Outside, Side, Failed}
use Rattle.om_top.specs.Ran.{Ran}
use Rattle.om_top.specs.RunRan.{OwesMeaning, RunRan}
use Rattle.om_top.specs.Streamed.{Streamed, UnlessNone, kinds_of}
use Rattle.om_top.specs.WriteRan.{WriteRan}
use Rattle.om_top.specs.declared.command.Written.{Written}
use Rattle.om_top.specs.declared.ending.Ending.{Ending}
use Rattle.om_top.specs.declared.ending.Ending.TheVariants.{FileFault, InputFault, OutFault}
use Rattle.om_top.proofs.Endings.{written_text}

module _ {E : Type 0} (o : Ops E) (show : E → List ℕ) where
  -- the input failed where there was a diagram
  input_failed : (m : Model) (p : Process) (input out : Side) → Evaluates o show m p input out InputFault → Failed input × HasDiagram (scattering_of m p)
  input_failed m p input out ([], are, h) = absurd h
  input_failed m p input out (t ∷ ts, are, (given, gave, h)) = (h.0, (t, (are.members t).0 (inl refl)))

  out_failed : (m : Model) (p : Process) (input out : Side) → Evaluates o show m p input out OutFault → Failed out
  out_failed m p input out ([], are, h) = h.0
  out_failed m p input out (t ∷ ts, are, (given, gave, h)) = h.0

  -- or a flow
  run_input_failed : (flows : List Flow) (input out : Side) (streamed : Ending → Type 0) → (streamed InputFault → Failed input) → UnlessNone flows input out streamed InputFault → Failed input × (flows ≢ [])
  run_input_failed [] input out streamed f h = absurd h
  run_input_failed (w ∷ ws) input out streamed f h = (f h, λ e. cc)

  run_out_failed : (flows : List Flow) (input out : Side) (streamed : Ending → Type 0) → (streamed OutFault → Failed out) → UnlessNone flows input out streamed OutFault → Failed out
  run_out_failed [] input out streamed f h = h.0
  run_out_failed (w ∷ ws) input out streamed f h = f h

  faults_of_check : (name : List ℕ) (x : Outside) (e : Ending) → Ran o show (Some (check name)) x e → FaultCauses o show (check name) x e
  faults_of_check name x e ran =
      let at : (y : Ending) → e ≡ y → CheckRan o (x.file name) x.out y = λ y q. subst (λ (z : Ending). CheckRan o (x.file name) x.out z) q ran.1 in
      record {
        file = λ q. (name, refl, (at FileFault q).0);
        input = λ q. absurd (at InputFault q).2;
        out = λ q. (let r = at OutFault q in (r.2.0, (r.0, r.1)));
      }

  faults_of_eval : (name text : List ℕ) (x : Outside) (e : Ending) → Ran o show (Some (eval name text)) x e → FaultCauses o show (eval name text) x e
  faults_of_eval name text x e ran =
      let at : (y : Ending) → e ≡ y → EvalRan o show (x.file name) text x.input x.out y = λ y q. subst (λ (z : Ending). EvalRan o show (x.file name) text x.input x.out z) q ran in
      record {
        file = λ q. (name, refl, (at FileFault q).0);
        input = λ q. (let r = at InputFault q in let f = input_failed r.0 r.2.0 x.input x.out r.2.2.2 in (f.0, (r.0, r.2.0, r.2.2.0, r.1, r.2.1, r.2.2.1, f.1)));
        out = λ q. (let r = at OutFault q in (out_failed r.0 r.2.0 x.input x.out r.2.2.2, (r.0, r.2.0, r.2.2.0, r.1, r.2.1, r.2.2.1)));
      }

  faults_of_write : (written : Written) (name text : List ℕ) (x : Outside) (e : Ending) → Ran o show (Some (write written name text)) x e → FaultCauses o show (write written name text) x e
  faults_of_write written name text x e ran =
      let at : (y : Ending) → e ≡ y → WriteRan written o (x.file name) text x.out y = λ y q. subst (λ (z : Ending). WriteRan written o (x.file name) text x.out z) q ran.1 in
      record {
        file = λ q. (name, refl, (at FileFault q).0);
        input = λ q. (let r = at InputFault q in absurd (written_text written r.0 r.2.0 r.2.2.0 x.out InputFault r.2.2.2).1);
        out = λ q. (let r = at OutFault q in ((written_text written r.0 r.2.0 r.2.2.0 x.out OutFault r.2.2.2).1.0, (r.0, r.2.0, r.2.2.0, r.1, r.2.1, r.2.2.1)));
      }

  faults_of_run : (name : List ℕ) (x : Outside) (e : Ending) → Ran o show (Some (run name)) x e → FaultCauses o show (run name) x e
  faults_of_run name x e ran =
      let at : (y : Ending) → e ≡ y → RunRan o show (x.file name) x.input x.out y = λ y q. subst (λ (z : Ending). RunRan o show (x.file name) x.input x.out z) q ran in
      record {
        file = λ q. (name, refl, (at FileFault q).0);
        input = λ q. (
            let r = at InputFault q in
            let c = r.0 in
            let f = run_input_failed c.flows x.input x.out (Streamed (OwesMeaning o show c) o (kinds_of c.model.particles c.legs) x.input x.out) (λ s. s.2.0) r.2 in
            (f.0, (c, r.1, f.1)));
        out = λ q. (
            let r = at OutFault q in
            let c = r.0 in
            (run_out_failed c.flows x.input x.out (Streamed (OwesMeaning o show c) o (kinds_of c.model.particles c.legs) x.input x.out) (λ s. s.2.0) r.2, (c, r.1)));
      }

  faults_of_sample : (seed legs : ℕ) (x : Outside) (e : Ending) → Ran o show (Some (sample seed legs)) x e → FaultCauses o show (sample seed legs) x e
  faults_of_sample seed legs x e ran =
      let at : (y : Ending) → e ≡ y → SampleRan o show seed legs x.out y = λ y q. subst (λ (z : Ending). SampleRan o show seed legs x.out z) q ran.1 in
      record {
        file = λ q. absurd (at FileFault q).3;
        input = λ q. absurd (at InputFault q).3;
        out = λ q. (let r = at OutFault q in (r.3.0, tt));
      }

  pub faults_have_causes : FaultsHaveCauses o show
  faults_have_causes (check name) x e ran = faults_of_check name x e ran
  faults_have_causes (eval name text) x e ran = faults_of_eval name text x e ran
  faults_have_causes (write written name text) x e ran = faults_of_write written name text x e ran
  faults_have_causes (run name) x e ran = faults_of_run name x e ran
  faults_have_causes (sample seed legs) x e ran = faults_of_sample seed legs x e ran
