-- That what `compile` writes is a program file, on which `run` does what `eval` does.
use Rattle.std.specs.Prelude.{◌≡◌, ℕ, ◌↔◌, List, Some}
use Rattle.om_ring.specs.Ops.{Ops}
use Rattle.om_model.specs.ProcessOf.{IsProcessOf}
use Rattle.om_model.specs.Rules.{IsAccepted}
use Rattle.om_model.specs.declared.model.Model.{Model}
use Rattle.om_model.specs.declared.process.Process.{Process}
use Rattle.om_graph.specs.declared.Graph.{Graph}
use Rattle.om_code.specs.declared.code.Code.{Code}
use Rattle.om_emit.specs.GraphCode.{IsCodeOf}
use Rattle.om_program_text.specs.ProgramText.{program_text}
use Rattle.om_asm.specs.InRange.{CodeInRange}
use Rattle.om_top.specs.EvalRan.{Evaluates}
use Rattle.om_top.specs.Loads.{IsGraphOf, IsProgramFile}
use Rattle.om_top.specs.Outside.{Failed, IsUntouched, Side}
use Rattle.om_top.specs.RunRan.{RunRan, RunsCode}
use Rattle.om_top.specs.declared.ending.Ending.{Ending}
use Rattle.om_top.specs.declared.ending.Ending.TheVariants.{FileFault, NoMemory, ProgramFault, ProgramTooLong}

module _ (Holds : Model → Process → Code → Type 0) {E : Type 0} (o : Ops E) where
  -- said of the code that `compile` writes for a process over an accepted model, with what holds of
  -- each code by its types
  abbrev pub OfCompiledCodes : Type 0
  OfCompiledCodes =
      (m : Model) (p : Process) → IsAccepted o m → IsProcessOf m p → (g : Graph) → IsGraphOf m p g
      → (c : Code) → IsCodeOf m p g c → CodeInRange c → Holds m p c

-- its text is short enough for a program file and is accepted: it is read as that code, which keeps
-- all rules and has all inverses
abbrev pub CompiledTextsArePrograms : {E : Type 0} → Ops E → Type 0
CompiledTextsArePrograms o = OfCompiledCodes (λ m p c. IsProgramFile o (program_text c) c) o

module _ {E : Type 0} (o : Ops E) (show : E → List ℕ) where
  -- what `run` leaves on the program of a process: the file isn't refused, and with it all is as
  -- `eval` leaves it
  abbrev pub RunsAsEval : Model → Process → Side → Side → Side → Ending → Type 0
  RunsAsEval m p file input out ProgramTooLong = ⊥
  RunsAsEval m p file input out (ProgramFault fault) = ⊥
  RunsAsEval m p file input out FileFault =
      Failed file × (IsUntouched input × IsUntouched out)
  RunsAsEval m p file input out NoMemory = IsUntouched input × IsUntouched out
  RunsAsEval m p file input out ending = Evaluates o show m p input out ending

  -- for each input `run` owes on the code what `eval` owes
  abbrev pub RunOwesWhatEvalOwes : Type 0
  RunOwesWhatEvalOwes =
      OfCompiledCodes (λ m p c. (input out : Side) (ending : Ending)
      → RunsCode o show c input out ending ↔ Evaluates o show m p input out ending) o

  -- and so it does on a file that holds the text
  abbrev pub RunOnTextsIsEval : Type 0
  RunOnTextsIsEval =
      OfCompiledCodes (λ m p c. (file input out : Side) → file.before ≡ Some (program_text c)
      → (ending : Ending) → RunRan o show file input out ending
      ↔ RunsAsEval m p file input out ending) o
