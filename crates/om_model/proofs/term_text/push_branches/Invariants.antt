use Rattle.std.proofs.Common.{◌≡◌, ◌+◌, ◌*◌, ◌≤◌, ◌++◌, length, take, map}
use Rattle.om_model.specs.TermText.{place_word, spaced}
use Rattle.om_model.proofs.term_text.push_branches.Given as goal

abbrev pub invariant-loop-node : goal.invariant-loop-node
invariant-loop-node l = record {
  text : l.line ≡ l.initial.line ++ spaced (map place_word (take l.node-index l.node-items));
  short : length l.line ≤ length l.initial.line + 21 * l.node-index;
}
