-- The laws that the crate promises of its definitions.
use Rattle.std.specs.Prelude.{◌≡◌, ℕ, List, Ok, Err}
use Rattle.om_code.specs.declared.code.Code.{Code}
use Rattle.om_code.specs.Plain.{IsPlain}
use Rattle.om_program_text.specs.ProgramText.{program_text}
use Rattle.om_asm.specs.declared.fault.AsmKind.{AsmKind}
use Rattle.om_asm.specs.InRange.{CodeInRange}
use Rattle.om_asm.specs.Lines.{lines_of}
use Rattle.om_asm.specs.Rows.{bad}
use Rattle.om_asm.specs.Program.{program_of}
use Rattle.om_asm.specs.FirstBad.{IsFirstBad}

-- no two plain codes have one text
abbrev pub OneCode : Type 0
OneCode = (c d : Code) → IsPlain c → CodeInRange c → IsPlain d → CodeInRange d → program_text c ≡ program_text d → c ≡ d

-- the text of a plain code is read as the code
abbrev pub TextsAreRead : Type 0
TextsAreRead = (c : Code) → IsPlain c → CodeInRange c → program_of (program_text c) ≡ Ok c

-- the line that is told of a text is its first bad line, and so is the kind
abbrev pub FirstIsTold : Type 0
FirstIsTold = (text : List ℕ) (line : ℕ) (kind : AsmKind) → program_of text ≡ Err (bad line kind) → IsFirstBad (lines_of text) line kind
