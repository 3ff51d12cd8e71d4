-- On a file that holds the text of the code of a graph `run` does what `eval` does.
use Rattle.std.proofs.Common.{◌≡◌, ◌↔◌, ℕ, ◌<◌, List, length, Some, refl, ap, sym, subst, arith}
use Rattle.std.specs.Prelude.{IfSome}
use Rattle.om_ring.specs.Ops.{Ops, Laws}
use Rattle.om_model.specs.Rules.{IsAccepted}
use Rattle.om_code.specs.declared.code.Code.{Code}
use Rattle.om_code.proofs.VerifiedFacts.{verified-breaks-none}
use Rattle.om_program_text.specs.ProgramText.{program_text}
use Rattle.om_top.specs.Agree.{RunOnTextsIsEval, RunsAsEval}
use Rattle.om_asm.specs.Program.{program_of}
use Rattle.om_code.specs.Verified.{IsVerified}
use Rattle.om_top.specs.EvalRan.{Evaluates}
use Rattle.om_top.specs.Loads.{HoldsProgram, IsProgramFile, SaysProgramFault}
use Rattle.om_top.specs.Outside.{Holds, Side}
use Rattle.om_top.specs.RunRan.{RunRan, RunsCode}
use Rattle.om_top.specs.declared.ending.Ending.{Ending}
use Rattle.om_top.specs.declared.ending.Ending.TheVariants as ending
use Rattle.om_top.specs.declared.faults.program.ProgramFault.{ProgramFault}
use Rattle.om_top.specs.declared.faults.program.ProgramFault.TheVariants as program
use Rattle.om_top.specs.declared.load.program.TheConstants.{MOST_PROGRAM_BYTES}
use Rattle.om_top.proofs.AgreeLength.{text_is_a_program}
use Rattle.om_top.proofs.AgreeStreams.{compiled_agree}
use Rattle.om_top.proofs.Files.{never_lacks}

module _ {E : Type 0} (o : Ops E) (text : List ℕ) (c : Code) (file : Side) (told : file.before ≡ Some text) (its : IsProgramFile o text c) (accepted : IsAccepted o c.model) where
  -- what it says of its bytes it says of the text
  the_text : (bytes : List ℕ) → Holds file bytes → text ≡ bytes
  the_text bytes h = subst (λ b. IfSome b (λ x. x ≡ bytes)) told h

  not_too_long : IfSome file.before (λ bytes. MOST_PROGRAM_BYTES < length bytes) → ⊥
  not_too_long h = let more : MOST_PROGRAM_BYTES < length text = subst (λ b. IfSome b (λ bytes. MOST_PROGRAM_BYTES < length bytes)) told h in let few = its.within in omega (arith, more, few)

  same_code : (d : Code) → HoldsProgram o file d → d ≡ c
  same_code d h =
      let e = ap program_of (the_text h.0 h.1) in
      let a = h.2.says.reads in
      let b = its.says.reads in
      cc

  no_fault : (fault : ProgramFault) → SaysProgramFault o text fault → ⊥
  no_fault (program.Text line kind) h = let b = its.says.reads in cc
  no_fault (program.Rule line kind) h =
      let b = its.says.reads in
      let same : h.0 ≡ c = let a = h.1 in cc in
      verified-breaks-none h.0 (subst IsVerified (sym same) its.says.verified) h.2.0 kind h.2.2.0
  no_fault (program.NoInverse line) h =
      let b = its.says.reads in
      let same : h.0 ≡ c = let a = h.1 in cc in
      never_lacks o h.0 line (subst (λ (x : Code). IsAccepted o x.model) (sym same) accepted) h.3

  holds : HoldsProgram o file c
  holds = (text, subst (λ b. IfSome b (λ x. x ≡ text)) (sym told) refl, its)

module _ {E : Type 0} (o : Ops E) (l : Laws o) (show : E → List ℕ) where
  pub file_agrees : RunOnTextsIsEval o show
  file_agrees m p accepted is g its c code range file input out told ended =
      let agree = compiled_agree o l show m p accepted is g its c code range input out in
      let good = text_is_a_program o m p accepted is g its c code range in
      let kept = subst (IsAccepted o) (sym code.same_model) accepted in
      (evaluates good kept agree ended, runs good kept agree ended)
    where
      evaluates : IsProgramFile o (program_text c) c → IsAccepted o c.model → ((e : Ending) → RunsCode o show c input out e ↔ Evaluates o show m p input out e)
          → (e : Ending) → RunRan o show file input out e → RunsAsEval o show m p file input out e
      evaluates good kept agree ending.ProgramTooLong h = not_too_long o (program_text c) c file told good kept h.0
      evaluates good kept agree (ending.ProgramFault fault) h =
          no_fault o (program_text c) c file told good kept fault (subst (λ t. SaysProgramFault o t fault) (sym (the_text o (program_text c) c file told good kept h.0.0 h.0.1)) h.0.2.says)
      evaluates good kept agree ending.FileFault h = h
      evaluates good kept agree ending.NoMemory h = h
      evaluates good kept agree e h =
          (agree e).0 (subst (λ d. RunsCode o show d input out e) (same_code o (program_text c) c file told good kept h.0 h.1) h.2)

      runs : IsProgramFile o (program_text c) c → IsAccepted o c.model → ((e : Ending) → RunsCode o show c input out e ↔ Evaluates o show m p input out e)
          → (e : Ending) → RunsAsEval o show m p file input out e → RunRan o show file input out e
      runs good kept agree ending.ProgramTooLong h = absurd h
      runs good kept agree (ending.ProgramFault fault) h = absurd h
      runs good kept agree ending.FileFault h = h
      runs good kept agree ending.NoMemory h = h
      runs good kept agree e h = (c, holds o (program_text c) c file told good kept, (agree e).1 h)
