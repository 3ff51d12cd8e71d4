use Rattle.std.proofs.Common.{sym, subst}
use Rattle.std.specs.List.{AllByRecursion}
use Rattle.om_asm.specs.Program.{FillsFew}
use Rattle.om_asm.proofs.InstrRows.{instrs_found}
use Rattle.om_asm.proofs.Registers.{all_fill_few}
use Rattle.om_asm.proofs.reader.read_program.Goals as goal

pub number_of_slots-slots-requires : goal.number_of_slots-slots-requires
number_of_slots-slots-requires c =
    let f = instrs_found c.in_ok-version.version c.read_slots.new.lines (c.in_ok-instrs.instrs, c.read_instrs.new.lines) c.in_ok-instrs.ensures in
    subst (AllByRecursion FillsFew) (sym c.as_slice.ensures) (all_fill_few c.in_ok-version.version c.in_ok-instrs.instrs f.plain f.range)
