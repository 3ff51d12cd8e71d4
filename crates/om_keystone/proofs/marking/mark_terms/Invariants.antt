use Rattle.std.proofs.Common.{◌≡◌, drop, length, map}
use Rattle.om_keystone.specs.Pruning.{mark_terms}
use Rattle.om_graph.specs.Possible.{unsigned}
use Rattle.om_keystone.proofs.marking.mark_terms.Given as goal

abbrev pub invariant-loop-i : goal.invariant-loop-i
invariant-loop-i l = record {
  marks : l.marks ≡ mark_terms l.initial.marks (map unsigned (drop l.i l.terms));
  length : length l.marks ≡ length l.initial.marks;
}
