-- Reading a program line by line, up to the first bad line.
use Rattle.std.specs.Prelude.{◌≡◌, ℕ, ◌+◌, if◌then◌else◌, ◌||◌, Bool, List, [], ◌∷◌, ◌++◌, length, codes, Option, Some, None, Result, Ok, Err}
use Rattle.std.specs.Str.{bytes_eq}
use Rattle.om_code.specs.declared.code.Instr.{Instr}
use Rattle.om_asm.specs.declared.fault.AsmKind.{AsmKind}
use Rattle.om_asm.specs.declared.fault.AsmKind.TheVariants.{Grammar, Name}
use Rattle.om_asm.specs.declared.fault.AsmFault.{AsmFault}
use Rattle.om_asm.specs.declared.fault.AsmFault.TheVariants as faults
use Rattle.om_asm.specs.declared.fault.LineFault.{LineFault}
use Rattle.om_asm.specs.declared.fault.LineFault.TheVariants as lines
use Rattle.om_ring.specs.ResultSteps.{◌>>=◌}
use Rattle.om_io.specs.Lines.{Words}
use Rattle.om_asm.specs.Lines.{At}
use Rattle.om_asm.specs.Instrs.{fuse_of, key_of, prop_of, load_of}

-- the number of a bad line, from 1, and what is wrong with it
pub record BadLine : Type 0 where
  pub line : ℕ
  pub kind : AsmKind

abbrev pub bad : ℕ → AsmKind → BadLine
bad line kind = record { line = line; kind = kind }

-- what a reader of a line answers is what the line says; any answer may be want of memory
abbrev pub Gives : {A : Type 0} → Result A AsmKind → Result A LineFault → Type 0
Gives said (Ok x) = said ≡ Ok x
Gives said (Err lines.Memory) = Unit {0}
Gives said (Err (lines.Bad kind)) = said ≡ Err kind

-- a fault of a line, with its number
abbrev pub IsAtLine : LineFault → ℕ → AsmFault → Type 0
IsAtLine fault number faults.Memory = fault ≡ lines.Memory
IsAtLine fault number (faults.Bad line kind) = (fault ≡ lines.Bad kind) × (line ≡ number)

-- what a reader of lines answers, and where it stops, is what the lines say; any answer may be want of memory
abbrev pub GivesAt : {A : Type 0} → Result (A × At) BadLine → Result A AsmFault → At → Type 0
GivesAt said (Ok x) now = said ≡ Ok (x, now)
GivesAt said (Err faults.Memory) now = Unit {0}
GivesAt said (Err (faults.Bad line kind)) now = said ≡ Err (bad line kind)

-- what a reader of the last lines answers is what the lines say; any answer may be want of memory
abbrev pub GivesNothing : {A : Type 0} → Result A BadLine → Result A AsmFault → Type 0
GivesNothing said (Ok x) = said ≡ Ok x
GivesNothing said (Err faults.Memory) = Unit {0}
GivesNothing said (Err (faults.Bad line kind)) = said ≡ Err (bad line kind)

abbrev pub at_line : {A : Type 0} → ℕ → Result A AsmKind → Result A BadLine
at_line number (Ok x) = Ok x
at_line number (Err kind) = Err (bad number kind)

abbrev pub place : ℕ → List Words → At
place number lines = record { number = number; lines = lines }

-- the rows from a line on, up to the first line that doesn't begin so; `count` rows stand before them
unfoldable pub rows_from : {A : Type 0} → (ℕ → List ℕ → Bool) → (List ℕ → Words → Result A AsmKind) → ℕ → ℕ → List Words → Result (List A × At) BadLine
rows_from begins row_of count number [] = Ok ([], place number [])
rows_from begins row_of count number ([] ∷ ls) = Ok ([], place number ([] ∷ ls))
rows_from begins row_of count number ((w ∷ ws) ∷ ls) =
    if begins count w then (do
      x ← at_line number (row_of w ws)
      xs ← rows_from begins row_of (count + 1) (number + 1) ls
      Ok (x ∷ xs.0, xs.1)) else Ok ([], place number ((w ∷ ws) ∷ ls))

-- the rows behind others
abbrev pub behind : {A : Type 0} → List A → Result (List A × At) BadLine → Result (List A × At) BadLine
behind front said = said >>= λ x. Ok (front ++ x.0, x.1)

-- what is appended to a list, and where reading stops, is what the lines say; any answer may be want of memory
abbrev pub GivesMore : {A : Type 0} → Result (List A × At) BadLine → List A → Result (Unit {0}) AsmFault → List A → At → Type 0
GivesMore said old (Ok _) new now = behind old said ≡ Ok (new, now)
GivesMore said old (Err faults.Memory) new now = Unit {0}
GivesMore said old (Err (faults.Bad line kind)) new now = said ≡ Err (bad line kind)

-- a reader without a kind of fault: whatever it refuses has not the form
abbrev pub formed : {A : Type 0} → Option A → Result A AsmKind
formed (Some x) = Ok x
formed None = Err Grammar

-- what the first words say is answered, and the others are left; any answer may be want of memory
abbrev pub TakesWord : {A : Type 0} → Option (A × Words) → Result A LineFault → Words → Type 0
TakesWord said (Ok x) rest = said ≡ Some (x, rest)
TakesWord said (Err lines.Memory) rest = Unit {0}
TakesWord said (Err (lines.Bad Grammar)) rest = said ≡ None
TakesWord said (Err (lines.Bad Name)) rest = ⊥

-- the lines of instructions, by their first words
abbrev pub is_load : List ℕ → Bool
is_load word = bytes_eq word (codes "load")

abbrev pub is_fuse : List ℕ → Bool
is_fuse word = bytes_eq word (codes "fuse")

abbrev pub is_step : List ℕ → Bool
is_step word = is_fuse word || bytes_eq word (codes "prop")

abbrev pub is_key : List ℕ → Bool
is_key word = bytes_eq word (codes "key")

abbrev pub load_row : ℕ → List ℕ → Words → Result Instr AsmKind
load_row version word words = formed (load_of version words)

abbrev pub step_row : List ℕ → Words → Result Instr AsmKind
step_row word words = if is_fuse word then formed (fuse_of words) else formed (prop_of words)

abbrev pub key_row : List ℕ → Words → Result Instr AsmKind
key_row word words = formed (key_of words)

-- the loads, then the fuses and props, then the keys
unfoldable pub instrs_at : ℕ → At → Result (List Instr × At) BadLine
instrs_at version a = do
  loads ← rows_from (λ _ w. is_load w) (load_row version) 0 a.number a.lines
  steps ← behind loads.0 (rows_from (λ _ w. is_step w) step_row (length loads.0) loads.1.number loads.1.lines)
  behind steps.0 (rows_from (λ _ w. is_key w) key_row (length steps.0) steps.1.number steps.1.lines)
