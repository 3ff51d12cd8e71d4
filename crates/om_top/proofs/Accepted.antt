-- What a run leaves with a told file, where nothing is refused before.
use Rattle.std.proofs.Common.{◌≡◌, ℕ, ◌<◌, List, length, Option, Some, None, IfSome, refl, sym, ◌∙◌, subst, arith, inl, inr}
use Rattle.std.specs.Prelude.{◌⊎◌}
use Rattle.om_ring.specs.Ops.{Ops}
use Rattle.om_model.specs.declared.model.Model.{Model}
use Rattle.om_model.specs.declared.process.Process.{Process}
use Rattle.om_graph.specs.declared.Graph.{Graph}
use Rattle.om_graph.specs.Reactions.{reaction_of}
use Rattle.om_graph.proofs.OnePossible.{one_possible}
use Rattle.om_code.specs.declared.code.Code.{Code}
use Rattle.om_code.specs.Verified.{IsVerified}
use Rattle.om_machine.specs.Machines.{LacksInverse}
use Rattle.om_code.proofs.VerifiedFacts.{verified-breaks-none}
use Rattle.om_top.specs.Loads.{HoldsModel, HoldsProgram, IsGraphOf, IsModelFile, IsProgramFile, IsTooLarge, SaysProcess, SaysProgram, SaysProgramFault}
use Rattle.om_top.specs.Outside.{Side, Failed}
use Rattle.om_top.specs.Refusals.{WithModel, WithProcess, WithGraph, WithProgram}
use Rattle.om_top.specs.declared.faults.program.ProgramFault.{ProgramFault}
use Rattle.om_top.specs.declared.faults.program.ProgramFault.TheVariants.{Text, Rule, NoInverse}
use Rattle.om_top.specs.declared.load.model.TheConstants.{MOST_MODEL_BYTES}
use Rattle.om_top.specs.declared.load.program.TheConstants.{MOST_PROGRAM_BYTES}
use Rattle.om_top.specs.declared.ending.Ending.{Ending}
use Rattle.om_top.specs.declared.ending.Ending.TheVariants.{ModelTooLong, ModelFault, ProcessFault, GraphTooLarge, ProgramTooLong, ProgramFault as ProgramRefused, FileFault, NoMemory}
use Rattle.om_top.proofs.Files.{one_model, no_fault}

-- what is told of a file
pub told_file : (told : Option (List ℕ)) (file bytes : List ℕ) → told ≡ Some file → IfSome told (λ b. b ≡ bytes) → bytes ≡ file
told_file None file bytes e h = cc
told_file (Some b) file bytes e h = let k : b ≡ file = cc in sym h ∙ k

pub told_long : (most : ℕ) (told : Option (List ℕ)) (file : List ℕ) → told ≡ Some file → IfSome told (λ b. most < length b) → most < length file
told_long most None file e h = cc
told_long most (Some b) file e h = let k : b ≡ file = cc in subst (λ (t : List ℕ). most < length t) k h

-- a text is that of one process
pub one_process : (m : Model) (text : List ℕ) (a b : Process) → SaysProcess m text a → SaysProcess m text b → a ≡ b
one_process m text a b p q = cc

-- a process doesn't both have a graph that is too large and one that isn't
pub never_large : (m : Model) (p : Process) (g : Graph) → IsGraphOf m p g → IsTooLarge m p → ⊥
never_large m p g is large = omega (arith, is.few, large.2, (one_possible (reaction_of m p) is.possible large.0 is.is_possible large.1).count)

module _ {E : Type 0} (o : Ops E) (file : Side) (bytes : List ℕ) (told : file.before ≡ Some bytes) where
  -- the model that the file holds is that of its bytes
  pub holds_file : (m : Model) → HoldsModel o file m → IsModelFile o bytes m
  holds_file m (held, holds, is_file) = subst (λ (t : List ℕ). IsModelFile o t m) (told_file file.before bytes held told holds) is_file

  pub holds_text : (c : Code) → HoldsProgram o file c → IsProgramFile o bytes c
  holds_text c (held, holds, is_file) = subst (λ (t : List ℕ). IsProgramFile o t c) (told_file file.before bytes held told holds) is_file

  module _ (m : Model) (accepted : IsModelFile o bytes m) where
    -- the file's own model is the one with which the run went on
    pub with_model : (quiet : Type 0) (rest : Model → Ending → Type 0) (e : Ending) → ¬ Failed file → WithModel o file quiet rest e → (e ≡ NoMemory) ⊎ rest m e
    with_model quiet rest ModelTooLong nf (long, q) = (let many = told_long MOST_MODEL_BYTES file.before bytes told long in let few = accepted.within in absurd (omega arith))
    with_model quiet rest (ModelFault fault) nf ((held, holds, faulty), q) =
        absurd (no_fault o held m fault (subst (λ (t : List ℕ). IsModelFile o t m) (sym (told_file file.before bytes held told holds)) accepted).says faulty.says)
    with_model quiet rest FileFault nf (failed, q) = absurd (nf failed)
    with_model quiet rest NoMemory nf ran = inl refl
    with_model quiet rest e nf ran = inr (subst (λ (x : Model). rest x e) (one_model o bytes ran.0 m (holds_file ran.0 ran.1).says accepted.says) ran.2)

  module _ (c : Code) (accepted : IsProgramFile o bytes c) where
    pub same_code : (d : Code) → IsProgramFile o bytes d → d ≡ c
    same_code d h = let p = h.says.reads in let q = accepted.says.reads in cc

pub with_process : (text : List ℕ) (quiet : Type 0) (rest : Model → Process → Ending → Type 0) (m : Model) (p : Process) (e : Ending) → SaysProcess m text p
    → WithProcess text quiet rest m e → rest m p e
with_process text quiet rest m p (ProcessFault fault) says (other, q) = cc
with_process text quiet rest m p e says ran = subst (λ (x : Process). rest m x e) (one_process m text ran.0 p ran.1 says) ran.2

pub with_graph : (quiet : Type 0) (rest : Model → Process → Graph → Ending → Type 0) (m : Model) (p : Process) (g : Graph) (e : Ending) → IsGraphOf m p g
    → WithGraph quiet rest m p e → (h : Graph) × IsGraphOf m p h × rest m p h e
with_graph quiet rest m p g GraphTooLarge is (large, q) = absurd (never_large m p g is large)
with_graph quiet rest m p g e is ran = ran

-- some bytes don't say both a program and a fault
pub no_program_fault : {E : Type 0} (o : Ops E) (bytes : List ℕ) (c : Code) (fault : ProgramFault) → SaysProgram o bytes c → SaysProgramFault o bytes fault → ⊥
no_program_fault o bytes c (Text line kind) says h = let r = says.reads in cc
no_program_fault o bytes c (Rule line kind) says (d, reads, (k, at, first)) =
    let r = says.reads in let same : c ≡ d = cc in verified-breaks-none d (subst (λ (x : Code). IsVerified x) same says.verified) k kind first.0
no_program_fault o bytes c (NoInverse line) says (d, reads, verified, (k, at, (lacks, first))) =
    let r = says.reads in let same : c ≡ d = cc in says.inverses k (subst (λ (x : Code). LacksInverse o x k) (sym same) lacks)

module _ {E : Type 0} (o : Ops E) (file : Side) (bytes : List ℕ) (told : file.before ≡ Some bytes) (c : Code) (accepted : IsProgramFile o bytes c) where
  -- the file's own program is the one with which the run went on
  pub with_program : (quiet : Type 0) (rest : Code → Ending → Type 0) (e : Ending) → ¬ Failed file → WithProgram o file quiet rest e → (e ≡ NoMemory) ⊎ rest c e
  with_program quiet rest ProgramTooLong nf (long, q) = (let many = told_long MOST_PROGRAM_BYTES file.before bytes told long in let few = accepted.within in absurd (omega arith))
  with_program quiet rest (ProgramRefused fault) nf ((held, holds, faulty), q) =
      absurd (no_program_fault o held c fault (subst (λ (t : List ℕ). IsProgramFile o t c) (sym (told_file file.before bytes held told holds)) accepted).says faulty.says)
  with_program quiet rest FileFault nf (failed, q) = absurd (nf failed)
  with_program quiet rest NoMemory nf ran = inl refl
  with_program quiet rest e nf ran = inr (subst (λ (x : Code). rest x e) (same_code o file bytes told c accepted ran.0 (holds_text o file bytes told ran.0 ran.1)) ran.2)
