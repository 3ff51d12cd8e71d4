use Rattle.std.proofs.Common.{◌≡◌, length}
use Rattle.om_asm.specs.Flows.{ends_from, no_ends}
use Rattle.om_asm.proofs.flow_line.read_ends.Given as goal

abbrev pub invariant-loop-piece : goal.invariant-loop-piece
invariant-loop-piece l = record {
  ends : ends_from l.ends l.pieces ≡ ends_from no_ends l.fn.pieces;
  twelve : length l.ends ≡ 12;
}

abbrev pub decreases-loop-piece : goal.decreases-loop-piece
decreases-loop-piece l = length l.pieces
