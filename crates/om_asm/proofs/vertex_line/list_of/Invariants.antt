use Rattle.std.proofs.Common.{◌≡◌, take}
use Rattle.om_asm.proofs.vertex_line.list_of.Given as goal

abbrev pub invariant-loop-field : goal.invariant-loop-field
invariant-loop-field l = l.list ≡ take l.field-index l.fields
