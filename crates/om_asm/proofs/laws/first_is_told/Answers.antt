use Rattle.om_asm.specs.Lines.{lines_of}
use Rattle.om_asm.proofs.FirstBadLine.{counted, within, begins, breaks}
use Rattle.om_asm.proofs.ProgramKinds.{kind_is}
use Rattle.om_asm.proofs.laws.first_is_told.Goals as goal

pub returns : goal.returns
returns c = λ text line kind e. record {
  counted = counted (lines_of text) line kind e;
  within = within (lines_of text) line kind e;
  begins = begins (lines_of text) line kind e;
  breaks = breaks (lines_of text) line kind e;
  named = kind_is (lines_of text) line kind e;
}
