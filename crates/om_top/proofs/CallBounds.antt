-- How many calls of the ring the commands make at most.
use Rattle.std.proofs.Common.{◌≡◌, ℕ, ◌+◌, ◌*◌, ◌≤◌, List, [], Option, Some, None, IfSome, Result, Ok, Err, refl, ap, sym, ◌∙◌, arith, inl, inr}
use Rattle.om_ring.specs.Ops.{Ops}
use Rattle.om_model.specs.declared.model.Model.{Model}
use Rattle.om_modelfile.specs.ModelOf.{rows_read}
use Rattle.om_asm.specs.Program.{program_of}
use Rattle.om_code.specs.declared.code.Code.{Code}
use Rattle.om_machine.specs.Machines.{LoadedCode}
use Rattle.om_top.specs.declared.ending.Ending.{Ending}
use Rattle.om_emit.specs.GraphCode.{IsCodeOf}
use Rattle.om_graph.specs.declared.Graph.{Graph}
use Rattle.om_model.specs.declared.process.Process.{Process}
use Rattle.om_top.specs.Cost.{EvalMayCall, EventsMayCall, FileMayCall, IsCodeFor, ProgramMayCall, TextMayCall, file_calls, loading_calls, program_calls, rows_calls}
use Rattle.om_top.specs.Loads.{AreNamed, HoldsModel, HoldsProgram, ReadsProgram}
use Rattle.om_top.specs.Outside.{Side, Holds}

-- a file holds its bytes, or any where it tells none
pub holds_some : (file : Side) → (bytes : List ℕ) × Holds file bytes
holds_some file = by file.before refl
  where
    by : (told : Option (List ℕ)) → file.before ≡ told → (bytes : List ℕ) × Holds file bytes
    by None e = ([], rw e tt)
    by (Some bytes) e = (bytes, rw e refl)

-- the bytes of a file that was read
pub holds_read : (told : Option (List ℕ)) (bytes items : List ℕ) → bytes ≡ items → IfSome told (λ all. items ≡ all) → IfSome told (λ all. all ≡ bytes)
holds_read None bytes items e h = tt
holds_read (Some all) bytes items e h = sym (e ∙ h)

-- nothing was called
pub none_called : (file : Side) (before cost : ℕ) → (n : ℕ) × FileMayCall file n × (before ≤ before + n * cost)
none_called file before cost = let h = holds_some file in (file_calls h.0, (h.0, h.1, refl), omega arith)

pub no_text_called : (file : Side) (before cost : ℕ) → (n : ℕ) × TextMayCall file n × (before ≤ before + n * cost)
no_text_called file before cost = let h = holds_some file in (program_calls h.0, (h.0, h.1, refl), omega arith)

-- the code of a text
pub loads_code : (bytes : List ℕ) (c : Code) → program_of bytes ≡ Ok c → rows_calls c.model ≡ program_calls bytes
loads_code bytes c e = ap loading_calls (sym e)

module _ {E : Type 0} (o : Ops E) (file : Side) where
  -- a model whose file was read
  pub loaded : (m : Model) → (holds : HoldsModel o file m) → rows_calls m ≡ file_calls holds.0
  loaded m (bytes, held, is_file) = ap (λ said. 200 * rows_read said) (sym is_file.says.0)

  -- a program whose file was read
  pub loaded_code : (c : Code) → (holds : HoldsProgram o file c) → rows_calls c.model ≡ program_calls holds.0
  loaded_code c (bytes, held, is_file) = loads_code bytes c is_file.says.reads

-- a program was loaded from the bytes of a file, or wasn't
module _ {E : Type 0} (o : Ops E) (file : Side) (bytes : List ℕ) (held : Holds file bytes) where
  pub program_called : (result : Result (LoadedCode E) Ending) → ReadsProgram o bytes result → (before now cost : ℕ) → now ≤ before + program_calls bytes * cost
      → (n : ℕ) × ProgramMayCall file result n × (now ≤ before + n * cost)
  program_called (Ok m) says before now cost h = (rows_calls m.code.model, refl, omega (arith, h, ap (λ n. n * cost) (loads_code bytes m.code says.reads)))
  program_called (Err e) says before now cost h = (program_calls bytes, (bytes, held, refl), h)

-- a process was evaluated, or wasn't
module _ {E : Type 0} (o : Ops E) (file input : Side) (text : List ℕ) (before cost : ℕ) where
  pub eval_refused : (now : ℕ) → (n : ℕ) × FileMayCall file n × (now ≤ before + n * cost) → (n : ℕ) × EvalMayCall o file text input n × (now ≤ before + n * cost)
  eval_refused now (n, (bytes, held, is), h) =
      (2 * n, (bytes, held, 0, inl refl, omega (arith, is)), omega (arith, h))

  module _ (m : Model) (p : Process) (g : Graph) (named : AreNamed o file text m p g) (read loaded now : ℕ) (h : (n : ℕ) × (n ≡ rows_calls m) × (read ≤ before + n * cost)) (k : loaded ≤ read + rows_calls m * cost) where
    abbrev bytes : List ℕ
    bytes = named.model.0

    both : file_calls bytes ≡ rows_calls m
    both = ap (λ said. 200 * rows_read said) named.model.2.says.0

    pub eval_unloaded : (n : ℕ) × EvalMayCall o file text input n × (loaded ≤ before + n * cost)
    eval_unloaded =
        (2 * file_calls bytes, (bytes, named.model.1, 0, inl refl, omega arith), omega (arith, k, h.2, ap (λ n. n * cost) h.1, ap (λ n. n * cost) both))

    pub eval_called : (c : Code) → IsCodeOf m p g c → (n : ℕ) × EventsMayCall o c input n × (now ≤ loaded + n * cost) → (n : ℕ) × EvalMayCall o file text input n × (now ≤ before + n * cost)
    eval_called c is (events, may, l) =
        let code : IsCodeFor o bytes text c = record { model = m; process = p; graph = g; is_file = named.model.2; says = named.process; is_graph = named.graph; is_code = is } in
        (2 * file_calls bytes + events, (bytes, named.model.1, events, inr (c, code, may), refl), omega (arith, l, k, h.2, ap (λ n. n * cost) h.1, ap (λ n. n * cost) both))
