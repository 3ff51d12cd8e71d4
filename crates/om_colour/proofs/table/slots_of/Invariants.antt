use Rattle.std.proofs.Common.{◌≡◌, ◌≤◌, length, take}
use Rattle.om_colour.specs.Table.{slots_from}
use Rattle.om_colour.proofs.table.slots_of.Given as goal

abbrev pub invariant-loop-k : goal.invariant-loop-k
invariant-loop-k l = record {
  found : l.slots ≡ slots_from 1 l.colour (take l.k l.colours);
  few : length l.slots ≤ l.k;
}
