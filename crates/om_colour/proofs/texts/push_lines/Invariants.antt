use Rattle.std.proofs.Common.{◌≡◌, ◌+◌, ◌-◌, ◌*◌, ◌≤◌, ◌++◌, length, take}
use Rattle.om_colour.specs.declared.texts.TheConstants.{ITEM_BYTES}
use Rattle.om_colour.specs.Texts.{with_commas, line_items}
use Rattle.om_colour.proofs.texts.push_lines.Given as goal

abbrev pub invariant-loop-k : goal.invariant-loop-k
invariant-loop-k l = record {
  text : l.to ≡ l.initial.to ++ with_commas (line_items l.extent 1 (take l.k l.ends));
  count : l.count ≡ length (line_items l.extent 1 (take l.k l.ends));
  few : l.count ≤ l.k;
  short : length l.to ≤ length l.initial.to + ((ITEM_BYTES - 1) * l.k + (l.k - 9));
}
